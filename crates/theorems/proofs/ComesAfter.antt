-- What comes after what: the later after the earlier exactly when they clash, both cut cloth, or the later took a token
-- that the earlier put.
use mathlib.Core.Path.{◌≡◌, refl, ap, ap₂, ◌∙◌}
use mathlib.Core.Logic.{◌↔◌, ◌⊎◌, inl, inr, ⊎_elim}
use mathlib.Core.Bool.{Bool, true, false, ◌&&◌, ◌||◌, or-true}
use mathlib.Core.List.{List}
use Prim.Native.Nat.{ℕ, ◌<◌}
use lib.Dec.{ltb}
use borrow.Author.Tests.{ltb-true, lt-ltb}
use Rattle.mask.proofs.Truth.{both}
use Rattle.route.specs.declared.Step.{Step}
use Rattle.precedence.specs.Precedence.{clash, tied, put_for, comes_after}
use Rattle.slice.specs.Slice.{token, reads_at, cuts_at, LastWriter}
use Rattle.theorems.proofs.LastPut.{put_for-iff}
use Rattle.theorems.proofs.Perform.{step_at}

either : (x y : Bool) → (x || y) ≡ true → (x ≡ true) ⊎ (y ≡ true)
either true y e = inl refl
either false y e = inr e

left : (x y : Bool) → x ≡ true → (x || y) ≡ true
left true y e = refl
left false y e = cc

module _ (l : List Step) (i j : ℕ) where
  abbrev Clash : Type 0
  Clash = clash (step_at l i) (step_at l j) ≡ true

  abbrev BothCut : Type 0
  BothCut = (cuts_at l i ≡ true) × (cuts_at l j ≡ true)

  abbrev Took : Type 0
  Took = (p : ℕ) × (reads_at l i (token p) ≡ true) × LastWriter l i (token p) j

  tied-iff : (tied (step_at l i) (step_at l j) ≡ true) ↔ Clash ⊎ BothCut
  unfolding tied cuts_at
  tied-iff = (
    λ e. go (either (clash (step_at l i) (step_at l j)) (cuts_at l i && cuts_at l j) e),
    ⊎_elim (λ c. left (clash (step_at l i) (step_at l j)) (cuts_at l i && cuts_at l j) c)
        (λ m. rw (m.0, m.1) (or-true (clash (step_at l i) (step_at l j)))),
  )
    where
      go : (clash (step_at l i) (step_at l j) ≡ true) ⊎ ((cuts_at l i && cuts_at l j) ≡ true) → Clash ⊎ BothCut
      go (inl c) = inl c
      go (inr m) = inr (both (cuts_at l i) (cuts_at l j) m)

  pub comes_after-iff : (comes_after l i j ≡ true) ↔ (j < i) × (Clash ⊎ (BothCut ⊎ Took))
  unfolding comes_after
  comes_after-iff = (
    λ e. let (a, b) = both (ltb j i) (tied (step_at l i) (step_at l j) || put_for l i j) e in
        (ltb-true j i a, out (ltb-true j i a) (either (tied (step_at l i) (step_at l j)) (put_for l i j) b)),
    λ h. ap₂ (λ (a b : Bool). a && b) (lt-ltb j i h.0) (back h.0 h.1),
  )
    where
      out : j < i → (tied (step_at l i) (step_at l j) ≡ true) ⊎ (put_for l i j ≡ true) → Clash ⊎ (BothCut ⊎ Took)
      out h (inl t) = ⊎_elim inl (λ m. inr (inl m)) (tied-iff.0 t)
      out h (inr p) = inr (inr ((put_for-iff l i j h).0 p))

      by-tie : tied (step_at l i) (step_at l j) ≡ true → (tied (step_at l i) (step_at l j) || put_for l i j) ≡ true
      by-tie t = left (tied (step_at l i) (step_at l j)) (put_for l i j) t

      back : j < i → Clash ⊎ (BothCut ⊎ Took) → (tied (step_at l i) (step_at l j) || put_for l i j) ≡ true
      back h (inl c) = by-tie (tied-iff.1 (inl c))
      back h (inr (inl m)) = by-tie (tied-iff.1 (inr m))
      back h (inr (inr p)) = ap (λ (t : Bool). tied (step_at l i) (step_at l j) || t) ((put_for-iff l i j h).1 p)
          ∙ or-true (tied (step_at l i) (step_at l j))

pub cut-after : (l : List Step) (i j : ℕ) → j < i → cuts_at l i ≡ true → cuts_at l j ≡ true → comes_after l i j ≡ true
cut-after l i j h a b = (comes_after-iff l i j).1 (h, inr (inl (a, b)))
