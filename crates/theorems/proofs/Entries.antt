-- What is tested of a list's entries holds of each.
use mathlib.Core.Path.{◌≡◌, refl, ap₂}
use mathlib.Core.Bool.{Bool, true, false, not, ◌&&◌}
use mathlib.Core.List.{List, [], ◌∷◌}
use Prim.Native.Nat.{ℕ, ◌≤◌, ◌<◌}
use native.Mathlib.Omega.{arith}
use lib.ListN.{length, get_or}
use borrow.Author.Tests.{not-true}
use Rattle.mask.proofs.Truth.{both}
use Rattle.route.specs.Steps.{blank}
use Rattle.route.specs.declared.Step.{Step}
use Rattle.precedence.specs.Precedence.{comes_after}
use Rattle.precedence.specs.Order.{in_turn, times, none_of, in_order}
use Rattle.precedence.proofs.InTurn.{map-get_or-in_turn}
use Rattle.precedence.proofs.Times.{times-head, times-cons-elim}
use Rattle.matching.specs.Straight.{all_of, steps_on}

-- every step of the entries passes a test: entry by entry
pub all_of-steps_on-elim : (t : Step → Bool) (l : List Step) (o : List ℕ) → all_of t (steps_on l o) ≡ true → (i : ℕ)
    → 0 < times i o → t (get_or l i blank) ≡ true
unfolding all_of steps_on times
all_of-steps_on-elim t l [] h i n = absurd (omega arith)
all_of-steps_on-elim t l (x ∷ o) h i n =
    let (a, b) = both (t (get_or l x blank)) (all_of t (steps_on l o)) h in
    times-cons-elim (λ i. t (get_or l i blank) ≡ true) x o a (all_of-steps_on-elim t l o b) i n

pub all_of-steps_on-intro : (t : Step → Bool) (l : List Step) (o : List ℕ)
    → ((i : ℕ) → 0 < times i o → t (get_or l i blank) ≡ true) → all_of t (steps_on l o) ≡ true
unfolding all_of steps_on times
all_of-steps_on-intro t l [] h = refl
all_of-steps_on-intro t l (x ∷ o) h = ap₂ (λ (a b : Bool). a && b) (h x (times-head x (times x o)))
    (all_of-steps_on-intro t l o (λ i n. h i (omega arith)))

-- the steps of all positions in turn
pub steps_on-in_turn : (l : List Step) → steps_on l (in_turn 0 (length l)) ≡ l
unfolding steps_on
steps_on-in_turn l = map-get_or-in_turn blank l

-- no entry passes a test: entry by entry
pub none_of-elim : (t : ℕ → Bool) (o : List ℕ) → none_of t o ≡ true → (i : ℕ) → 0 < times i o → t i ≡ false
unfolding none_of times
none_of-elim t [] h i n = absurd (omega arith)
none_of-elim t (x ∷ o) h i n =
    let (a, b) = both (not (t x)) (none_of t o) h in
    times-cons-elim (λ i. t i ≡ false) x o (not-true (t x) a) (none_of-elim t o b) i n

pub none_of-intro : (t : ℕ → Bool) (o : List ℕ) → ((i : ℕ) → 0 < times i o → t i ≡ false) → none_of t o ≡ true
unfolding none_of times
none_of-intro t [] h = refl
none_of-intro t (x ∷ o) h = ap₂ (λ (x y : Bool). not x && y) (h x (times-head x (times x o)))
    (none_of-intro t o (λ i n. h i (omega arith)))

pub none_of-mono : (t : ℕ → Bool) (o k : List ℕ) → ((i : ℕ) → times i k ≤ times i o) → none_of t o ≡ true
    → none_of t k ≡ true
none_of-mono t o k c h = none_of-intro t k (λ i n. none_of-elim t o h i (omega (arith, c i)))

-- the first entry of a list in order, and the rest
pub in_order-cons : (l : List Step) (x : ℕ) (o : List ℕ) → in_order l (x ∷ o) ≡ true
    → (none_of (comes_after l x) o ≡ true) × (in_order l o ≡ true)
unfolding in_order
in_order-cons l x o h = both (none_of (comes_after l x) o) (in_order l o) h
