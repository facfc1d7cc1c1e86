-- A test of all, position by position.
use mathlib.Core.Path.{◌≡◌, refl, ap₂}
use mathlib.Core.Bool.{Bool, true, ◌&&◌}
use mathlib.Core.List.{List, [], ◌∷◌}
use Prim.Native.Nat.{ℕ, zero, suc, ◌<◌}
use native.Mathlib.Omega.{arith}
use native.Mathlib.Nat.{le_of_suc-le-suc, not-suc-le-zero}
use lib.ListN.{length, get_or}
use Rattle.mask.proofs.Truth.{both}
use Rattle.route.specs.Steps.{blank}
use Rattle.route.specs.declared.Step.{Step}
use Rattle.matching.specs.Straight.{all_of}

pub all_of-intro : (t : Step → Bool) (l : List Step) → ((i : ℕ) → i < length l → t (get_or l i blank) ≡ true)
    → all_of t l ≡ true
unfolding all_of
all_of-intro t [] h = refl
all_of-intro t (s ∷ l) h = ap₂ (λ (x y : Bool). x && y) (h 0 (omega arith))
    (all_of-intro t l (λ i b. h (suc i) (omega arith)))

pub all_of-elim : (t : Step → Bool) (l : List Step) → all_of t l ≡ true → (i : ℕ) → i < length l
    → t (get_or l i blank) ≡ true
unfolding all_of
all_of-elim t [] h i b = absurd (not-suc-le-zero b)
all_of-elim t (s ∷ l) h zero b = (both (t s) (all_of t l) h).0
all_of-elim t (s ∷ l) h (suc i) b = all_of-elim t l (both (t s) (all_of t l) h).1 i (le_of_suc-le-suc b)
