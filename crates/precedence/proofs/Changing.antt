-- A loop over the items of a mask in turn that changes the entry at each in one way: the entries at the items that are
-- left are as they were.
use mathlib.Core.Path.{◌≡◌, refl, sym, ap, ◌∙◌}
use mathlib.Core.Bool.{Bool, true, false, not, cond, ◌&&◌, and-true, and-false}
use mathlib.Core.List.{List}
use Prim.Native.Nat.{ℕ, ◌<◌}
use native.Mathlib.Omega.{arith}
use lib.Dec.{eqb}
use lib.Bits.{bit_or}
use lib.ListN.{length, get_or, set}
use lib.Seq.{get_or-set_same, get_or-set_other}
use borrow.Author.Tests.{eqb-true, eqb-false, not-true}
use Rattle.mask.specs.Mask.{has}
use Rattle.mask.specs.Members.{Takes}
use Rattle.mask.proofs.Laws.{has-zero}
use Rattle.mask.proofs.Truth.{both}

-- each entry as it will be once those at the items that are left have changed too
abbrev pub Changing : ℕ → (ℕ → ℕ) → List ℕ → ℕ → ℕ → List ℕ → Type 0
Changing width g by₀ items left by =
    length by₀ ≡ width
    → (v : ℕ)
    → v < width
    → cond (has left v) (g (get_or by v 0)) (get_or by v 0) ≡ cond (has items v) (g (get_or by₀ v 0)) (get_or by₀ v 0)

-- the occurrence joins each entry, or is alone there
abbrev pub Joining : ℕ → List ℕ → ℕ → ℕ → ℕ → List ℕ → Type 0
Joining width by₀ items own left by = Changing width (λ (x : ℕ). bit_or x own) by₀ items left by

abbrev pub Putting : List ℕ → ℕ → ℕ → ℕ → List ℕ → Type 0
Putting by₀ items own left by = Changing 64 (λ (x : ℕ). own) by₀ items left by

-- the entries at the items that are left are as they were
abbrev pub Untouched : ℕ → List ℕ → List ℕ → Type 0
Untouched left by₀ by = (v : ℕ) → has left v ≡ true → get_or by v 0 ≡ get_or by₀ v 0

-- at first all are left
module _ (items left : ℕ) (all : left ≡ items) where
  pub joining-init : (width : ℕ) (by : List ℕ) (own : ℕ) → Joining width by items own left by
  joining-init width by own room v h = rw all

  pub putting-init : (by : List ℕ) (own : ℕ) → Putting by items own left by
  putting-init by own room v h = rw all

-- at last none
pub changed :
    (width : ℕ) (g : ℕ → ℕ) (by₀ by : List ℕ) (items left : ℕ)
    → left ≡ 0
    → length by₀ ≡ width
    → Changing width g by₀ items left by
    → (v : ℕ)
    → v < width
    → get_or by v 0 ≡ cond (has items v) (g (get_or by₀ v 0)) (get_or by₀ v 0)
changed width g by₀ by items left e room inv v b = sym none ∙ inv room v b
  where
    none : cond (has left v) (g (get_or by v 0)) (get_or by v 0) ≡ get_or by v 0
    none = let no : has left v ≡ false = ap (λ (x : ℕ). has x v) e ∙ has-zero v in rw no

-- the item k is taken of those that are left
module _ (width left k left' : ℕ) (took : Takes width left k left') where
  pub untouched-step : (by₀ by : List ℕ) (x : ℕ) → Untouched left by₀ by → Untouched left' by₀ (set by k x)
  untouched-step by₀ by x same v h =
      let there : (has left v ≡ true) × (not (eqb v k) ≡ true) =
      both (has left v) (not (eqb v k)) (sym (took.rest v) ∙ h) in
      get_or-set_other by k v x 0 (eqb-false v k (not-true (eqb v k) there.1)) ∙ same v there.0

  changing-step :
      (g : ℕ → ℕ) (by₀ by : List ℕ) (items : ℕ)
      → length by ≡ length by₀
      → Changing width g by₀ items left by
      → Changing width g by₀ items left' (set by k (g (get_or by k 0)))
  changing-step g by₀ by items same-room inv room v b = go (eqb v k) refl ∙ inv room v b
    where
      by' : List ℕ
      by' = set by k (g (get_or by k 0))

      go : (t : Bool) → eqb v k ≡ t → cond (has left' v) (g (get_or by' v 0)) (get_or by' v 0)
          ≡ cond (has left v) (g (get_or by v 0)) (get_or by v 0)
      go true e =
          let here : v ≡ k = eqb-true v k e in
          let gone : has left' v ≡ false =
          took.rest v ∙ ap (λ (t : Bool). has left v && not t) e ∙ and-false (has left v) in
          let own_in : has left v ≡ true = ap (has left) here ∙ took.held in
          rw (gone, own_in)
          (ap (λ (u : ℕ). get_or by' u 0) here
          ∙ get_or-set_same by k (g (get_or by k 0)) 0 (omega (arith, took.low))
          ∙ ap (λ (u : ℕ). g (get_or by u 0)) (sym here))
      go false e =
          let same : has left' v ≡ has left v =
          took.rest v ∙ ap (λ (t : Bool). has left v && not t) e ∙ and-true (has left v) in
          let stays : get_or by' v 0 ≡ get_or by v 0 =
          get_or-set_other by k v (g (get_or by k 0)) 0 (eqb-false v k e) in
          rw (same, stays)

  pub joining-step :
      (by₀ by : List ℕ) (items own : ℕ)
      → length by ≡ length by₀
      → Joining width by₀ items own left by
      → Joining width by₀ items own left' (set by k (bit_or (get_or by k 0) own))
  joining-step by₀ by items own same inv room = changing-step (λ x. bit_or x own) by₀ by items same inv room

pub putting-step :
    (left k left' : ℕ)
    → Takes 64 left k left'
    → (by₀ by : List ℕ) (items own : ℕ)
    → length by ≡ length by₀
    → Putting by₀ items own left by
    → Putting by₀ items own left' (set by k own)
putting-step left k left' took by₀ by items own same inv room = changing-step 64 left k left' took
    (λ x. own) by₀ by items same inv room
