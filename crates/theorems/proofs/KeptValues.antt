-- The theorem on values: any order of the kept that is in order leaves in each wanted variable what the whole done list
-- left, and cuts cloth in the same sequence. It leaves what the kept in their own order leave, and these leave what the
-- whole list leaves.
use mathlib.Core.Path.{◌≡◌, ap, ◌∙◌}
use mathlib.Core.Bool.{true}
use mathlib.Core.List.{List}
use Prim.Native.Nat.{ℕ}
use lib.ListN.{length}
use Rattle.mask.specs.Mask.{has, members}
use Rattle.route.specs.declared.Step.{Step}
use Rattle.slice.specs.Slice.{kept_mask}
use Rattle.precedence.specs.Order.{in_turn, EachOnce, in_order}
use Rattle.slice.proofs.Sweep.{kept-below}
use Rattle.theorems.specs.Values.{Store, Work, all_blank, perform_all, cut_all}
use Rattle.theorems.proofs.Perform.{step_at}
use Rattle.theorems.proofs.Drop.{drop-unkept, drop-uncut}
use Rattle.theorems.proofs.Reorder.{Swappable, reorder}
use Rattle.theorems.proofs.Commute.{values-swap, cut-swap}
use Rattle.theorems.proofs.MembersOrder.{members-each_once, members-in_order}

-- alike in such a way is any order of the kept to their own
in-their-own-order : (l : List Step) {R : List ℕ → List ℕ → Type 0} → Swappable l R → (vars : ℕ) (o : List ℕ)
    → EachOnce (kept_mask l vars) o → in_order l o ≡ true → R o (members (length l) (kept_mask l vars))
in-their-own-order l alike vars o c h = reorder l alike (kept_mask l vars) o (members (length l) (kept_mask l vars)) c
    (members-each_once (length l) (kept_mask l vars) (kept-below l vars)) h
    (members-in_order l (length l) (kept_mask l vars))

pub kept-values : {T : Type 0} (f : Work T) (l : List Step) (vars : ℕ) (o : List ℕ) → EachOnce (kept_mask l vars) o
    → in_order l o ≡ true → (v : ℕ) → has vars v ≡ true
    → perform_all f (step_at l) o all_blank v ≡ perform_all f (step_at l) (in_turn 0 (length l)) all_blank v
kept-values {T} f l vars o c h v w =
    ap (λ (σ : Store T). σ v) (in-their-own-order l (values-swap f l) vars o c h all_blank)
    ∙ drop-unkept f l vars v w

pub kept-cuts : (l : List Step) (vars : ℕ) (o : List ℕ) → EachOnce (kept_mask l vars) o → in_order l o ≡ true
    → cut_all (step_at l) o ≡ cut_all (step_at l) (in_turn 0 (length l))
kept-cuts l vars o c h = in-their-own-order l (cut-swap l) vars o c h ∙ drop-uncut l vars
