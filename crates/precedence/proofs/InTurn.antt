-- The numbers in turn.
use mathlib.Core.Path.{◌≡◌, refl, sym, ap, ◌∙◌}
use mathlib.Core.Bool.{Bool, true, false, cond}
use mathlib.Core.List.{List, ◌∷◌, map}
use Prim.Native.Nat.{ℕ, zero, suc, ◌+◌, ◌<◌}
use native.Mathlib.Omega.{arith}
use native.Mathlib.Nat.{not-suc-le-zero}
use lib.Dec.{eqb}
use lib.ListN.{length, get_or, drop, drop_of_length-le}
use lib.Seq.{drop-cons}
use borrow.Author.Tests.{eqb-true}
use Rattle.precedence.specs.Order.{in_turn, times}

pub length-in_turn : (i n : ℕ) → length (in_turn i n) ≡ n
unfolding in_turn
length-in_turn i zero = refl
length-in_turn i (suc n) = ap suc (length-in_turn (suc i) n)

-- a function's values in turn
pub get_or-map-in_turn : (f : ℕ → ℕ) (i n k : ℕ) → k < n → get_or (map f (in_turn i n)) k 0 ≡ f (i + k)
unfolding in_turn
get_or-map-in_turn f i zero k h = absurd (not-suc-le-zero h)
get_or-map-in_turn f i (suc n) zero h = ap f (omega arith)
get_or-map-in_turn f i (suc n) (suc k) h = get_or-map-in_turn f (suc i) n k (omega arith) ∙ ap f (omega arith)

-- they stay below their end
pub times-in_turn : (i n v : ℕ) → 0 < times v (in_turn i n) → v < i + n
unfolding times in_turn
times-in_turn i zero v h = absurd (omega arith)
times-in_turn i (suc n) v h = go (eqb i v) refl h (times-in_turn (suc i) n v)
  where
    go : (t : Bool) → eqb i v ≡ t → 0 < cond t 1 0 + times v (in_turn (suc i) n)
        → (0 < times v (in_turn (suc i) n) → v < suc i + n) → v < i + suc n
    go true e h ih = let same : i ≡ v = eqb-true i v e in omega arith
    go false e h ih = let z : v < suc i + n = ih (omega arith) in omega arith

-- the entries at all positions in turn are the list
drop-in_turn : (A : Type 0) (d : A) (l : List A) (n i : ℕ) → i + n ≡ length l
    → map (λ (k : ℕ). get_or l k d) (in_turn i n) ≡ drop i l
unfolding in_turn
drop-in_turn A d l zero i e = sym (drop_of_length-le l {i = i} (omega arith))
drop-in_turn A d l (suc n) i e = ap (λ (r : List A). get_or l i d ∷ r) (drop-in_turn A d l n (suc i) (omega arith))
    ∙ sym (drop-cons l i d (omega arith))

pub map-get_or-in_turn : {A : Type 0} (d : A) (l : List A) → map (λ (k : ℕ). get_or l k d) (in_turn 0 (length l)) ≡ l
map-get_or-in_turn {A} d l = drop-in_turn A d l (length l) 0 (omega arith)
