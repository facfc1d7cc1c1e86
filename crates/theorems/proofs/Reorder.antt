-- Two lists in order that hold the same occurrences differ by swaps of neighbours that are free of each other. The
-- first of the one stands in the other behind occurrences that it is free of, since one of the two orders would be
-- broken. So it comes to the front there too, and the rest goes on the same way.
use mathlib.Core.Path.{◌≡◌, sym, ap₂, ◌∙◌}
use mathlib.Core.Logic.{⊎_elim}
use mathlib.Core.Bool.{Bool, true, false, not, ◌&&◌}
use mathlib.Core.List.{List, [], ◌∷◌}
use Prim.Native.Nat.{ℕ}
use native.Mathlib.Omega.{arith}
use borrow.Author.Tests.{not-true}
use Rattle.route.specs.declared.Step.{Step}
use Rattle.precedence.specs.Precedence.{clash, comes_after}
use Rattle.precedence.specs.Order.{times, EachOnce, none_of, in_order}
use Rattle.mask.proofs.Truth.{both}
use Rattle.theorems.proofs.Perform.{step_at}
use Rattle.precedence.proofs.Times.{times-head}
use Rattle.precedence.proofs.Rows.{apart}
use Rattle.theorems.proofs.Entries.{none_of-elim, none_of-mono, in_order-cons}
use Rattle.theorems.proofs.Insertion.{Insertion, here, there, insertion-times, insertion-in, take_out}

-- lists are alike in a way that a swap of neighbours does not change that neither clash nor both cut cloth
pub record Swappable (l : List Step) (R : List ℕ → List ℕ → Type 0) : Type 0 where
  pub same : (o : List ℕ) → R o o
  pub then : {o k q : List ℕ} → R o k → R k q → R o q
  pub front : (x : ℕ) {o k : List ℕ} → R o k → R (x ∷ o) (x ∷ k)
  pub swap : (x y : ℕ) (o : List ℕ) → clash (step_at l x) (step_at l y) ≡ false
      → ((step_at l x).cloth && (step_at l y).cloth) ≡ false → R (x ∷ y ∷ o) (y ∷ x ∷ o)

-- what is left of a list in order is in order
put_order : (l : List Step) {x : ℕ} {r k : List ℕ} → Insertion x r k → in_order l k ≡ true → in_order l r ≡ true
unfolding in_order
put_order l {x = x} (here {r = r}) h = (in_order-cons l x r h).1
put_order l (there {y = y} {r = r} {k = k} p) h =
    let o = in_order-cons l y k h in
    ap₂ (λ (a b : Bool). a && b) (none_of-mono (comes_after l y) k r (λ i. omega (arith, insertion-times p i)) o.0)
    (put_order l p o.1)

module _ (l : List Step) {R : List ℕ → List ℕ → Type 0} (alike : Swappable l R) where
  -- of two occurrences neither comes after the other
  swap : (x y : ℕ) (o : List ℕ) → comes_after l x y ≡ false → comes_after l y x ≡ false → R (x ∷ y ∷ o) (y ∷ x ∷ o)
  swap x y o p q = ⊎_elim (λ e. rw e (alike.same (y ∷ y ∷ o))) (λ h. alike.swap x y o h.0 h.1)
      (apart l x y p q)

  -- the one put in comes to the front
  to_front : {x : ℕ} {r k : List ℕ} → Insertion x r k → none_of (comes_after l x) r ≡ true → in_order l k ≡ true
      → R (x ∷ r) k
  unfolding none_of
  to_front {x = x} (here {r = r}) n h = alike.same (x ∷ r)
  to_front {x = x} (there {y = y} {r = r} {k = k} p) n h =
      let o = in_order-cons l y k h in
      let a = both (not (comes_after l x y)) (none_of (comes_after l x) r) n in
      alike.then (swap x y r (not-true (comes_after l x y) a.0)
      (none_of-elim (comes_after l y) k o.0 x (insertion-in p)))
      (alike.front y (to_front p a.1 o.1))

  -- equal counts are enough
  same-times : (o k : List ℕ) → ((i : ℕ) → times i o ≡ times i k) → in_order l o ≡ true → in_order l k ≡ true → R o k
  unfolding times
  same-times [] [] c h g = alike.same []
  same-times [] (y ∷ k) c h g = absurd (omega (arith, c y, times-head y (times y k)))
  same-times (x ∷ o) k c h g =
      let (r, p) = take_out x k (omega (arith, c x, times-head x (times x o))) in
      let e : (i : ℕ) → times i o ≡ times i r = λ i. omega (arith, c i, insertion-times p i) in
      let a = in_order-cons l x o h in
      alike.then (alike.front x (same-times o r e a.1 (put_order l p g)))
      (to_front p (none_of-mono (comes_after l x) o r (λ i. omega (arith, e i)) a.0) g)

  pub reorder : (kept : ℕ) (o k : List ℕ) → EachOnce kept o → EachOnce kept k → in_order l o ≡ true
      → in_order l k ≡ true → R o k
  reorder kept o k c d h g = same-times o k (λ i. c i ∙ sym (d i)) h g
