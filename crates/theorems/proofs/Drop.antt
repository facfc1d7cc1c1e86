-- What is not kept may be dropped. Two stores that agree on the variables live before a position still agree on those
-- live after it, when the one performs every occurrence and the other only the kept: a dropped one writes no live
-- variable, and a kept one reads live ones only. And every one that cuts cloth is kept, so that none is missed in their
-- sequence.
use mathlib.Core.Path.{◌≡◌, refl, sym, ap, ◌∙◌}
use mathlib.Core.Bool.{Bool, true, false, cond}
use mathlib.Core.List.{List, ◌∷◌}
use Prim.Native.Nat.{ℕ, zero, suc, ◌+◌}
use native.Mathlib.Omega.{arith}
use lib.ListN.{length}
use Rattle.mask.specs.Mask.{has, members_from, members}
use Rattle.route.specs.declared.Step.{Step}
use Rattle.slice.specs.Slice.{variable, wants, makes, reads_at, writes_at, cuts_at, kept_mask}
use Rattle.precedence.specs.Order.{in_turn}
use Rattle.slice.proofs.Sweep.{live_at, live_end, live-stays, live-read, kept_writer, cut-kept}
use Rattle.theorems.specs.Values.{Store, Work, all_blank, perform, perform_all, cut_then, cut_all}
use Rattle.theorems.proofs.Perform.{step_at, Agree, unwritten, perform_agree}

module _ {T : Type 0} (f : Work T) (l : List Step) (vars : ℕ) where
  -- the variables live before position i
  abbrev live : ℕ → ℕ → Bool
  live i v = live_at l vars i (variable v)

  -- one kept occurrence, on both sides
  kept-agree : (i : ℕ) (σ τ : Store T) → has (kept_mask l vars) i ≡ true → Agree (live i) σ τ
      → Agree (live (suc i)) (perform f i (step_at l i) σ) (perform f i (step_at l i) τ)
  unfolding reads_at writes_at wants makes
  kept-agree i σ τ k a v h = perform_agree f i (step_at l i) σ τ v (λ u r. a u (live-read l vars i (variable u) k r))
      (λ w. a v (live-stays l vars i (variable v) h w))

  -- one dropped occurrence, on one side only
  dropped-agree : (i : ℕ) (σ τ : Store T) → has (kept_mask l vars) i ≡ false → Agree (live i) σ τ
      → Agree (live (suc i)) σ (perform f i (step_at l i) τ)
  unfolding writes_at makes
  dropped-agree i σ τ k a v h = let w : writes_at l i (variable v) ≡ false =
      go (writes_at l i (variable v)) refl in a v (live-stays l vars i (variable v) h w)
      ∙ sym (unwritten f i (step_at l i) τ v w)
    where
      go : (t : Bool) → writes_at l i (variable v) ≡ t → t ≡ false
      go true w = sym (kept_writer l vars i (variable v) w h) ∙ k
      go false w = refl

  -- n occurrences from i on
  from-agree : (n i k : ℕ) → i + n ≡ k → (σ τ : Store T) → Agree (live i) σ τ
      → Agree (live k) (perform_all f (step_at l) (members_from i n (kept_mask l vars)) σ)
      (perform_all f (step_at l) (in_turn i n) τ)
  unfolding perform_all members_from in_turn
  from-agree zero i k e σ τ a v h = let here : i ≡ k = omega arith in a v (rw here h)
  from-agree (suc n) i k e σ τ a v h = go (has (kept_mask l vars) i) refl
      (λ σ' τ' a'. from-agree n (suc i) k (omega arith) σ' τ' a' v h)
    where
      rest : List ℕ
      rest = members_from (suc i) n (kept_mask l vars)

      go : (t : Bool) → has (kept_mask l vars) i ≡ t
          → ((σ' τ' : Store T) → Agree (live (suc i)) σ' τ'
          → perform_all f (step_at l) rest σ' v ≡ perform_all f (step_at l) (in_turn (suc i) n) τ' v)
          → perform_all f (step_at l) (cond t (i ∷ rest) rest) σ v
          ≡ perform_all f (step_at l) (in_turn (suc i) n) (perform f i (step_at l i) τ) v
      go true t ih = ih (perform f i (step_at l i) σ) (perform f i (step_at l i) τ) (kept-agree i σ τ t a)
      go false t ih = ih σ (perform f i (step_at l i) τ) (dropped-agree i σ τ t a)

  -- the whole list
  pub drop-unkept : (v : ℕ) → has vars v ≡ true
      → perform_all f (step_at l) (members (length l) (kept_mask l vars)) all_blank v
      ≡ perform_all f (step_at l) (in_turn 0 (length l)) all_blank v
  unfolding members
  drop-unkept v h = from-agree (length l) 0 (length l) (omega arith) all_blank all_blank (λ u w. refl) v
      (live_end l vars (length l) v (omega arith) ∙ h)

module _ (l : List Step) (vars : ℕ) where
  from_cut : (n i : ℕ) → cut_all (step_at l) (members_from i n (kept_mask l vars)) ≡ cut_all (step_at l) (in_turn i n)
  unfolding cut_all members_from in_turn
  from_cut zero i = refl
  from_cut (suc n) i = go (has (kept_mask l vars) i) refl (from_cut n (suc i))
    where
      rest : List ℕ
      rest = members_from (suc i) n (kept_mask l vars)

      uncut : (t : Bool) → (step_at l i).cloth ≡ t → has (kept_mask l vars) i ≡ false → t ≡ false
      uncut true m k = sym (cut-kept l vars i (unfold cuts_at in m)) ∙ k
      uncut false m k = refl

      go : (t : Bool) → has (kept_mask l vars) i ≡ t
          → cut_all (step_at l) rest ≡ cut_all (step_at l) (in_turn (suc i) n)
          → cut_all (step_at l) (cond t (i ∷ rest) rest) ≡ cut_then i (step_at l i) (cut_all (step_at l) (in_turn (suc i) n))
      go true t ih = ap (cut_then i (step_at l i)) ih
      go false t ih = ih ∙ unfold cut_then in rw (uncut (step_at l i).cloth refl t)

  pub drop-uncut : cut_all (step_at l) (members (length l) (kept_mask l vars))
      ≡ cut_all (step_at l) (in_turn 0 (length l))
  unfolding members
  drop-uncut = from_cut (length l) 0
