-- What the counts say of a list's entries.
use mathlib.Core.Path.{◌≡◌, refl}
use mathlib.Core.Bool.{Bool, true, false, cond}
use mathlib.Core.List.{List, ◌∷◌}
use Prim.Native.Nat.{ℕ, ◌+◌, ◌<◌}
use native.Mathlib.Omega.{arith}
use lib.Dec.{eqb}
use borrow.Author.Tests.{eqb-true, eq-eqb}
use Rattle.mask.specs.Mask.{has}
use Rattle.precedence.specs.Order.{times, EachOnce}

-- an entry is counted
pub times-head : (x n : ℕ) → 0 < cond (eqb x x) 1 0 + n
times-head x n = rw (eq-eqb x x refl) (omega arith)

-- what holds of the first entry and of the others holds of each
pub times-cons-elim : (P : ℕ → Type 0) (x : ℕ) (o : List ℕ) → P x → ((i : ℕ) → 0 < times i o → P i) → (i : ℕ)
    → 0 < times i (x ∷ o) → P i
unfolding times
times-cons-elim P x o p r i n = go (eqb x i) refl n
  where
    go : (t : Bool) → eqb x i ≡ t → 0 < cond t 1 0 + times i o → P i
    go true e n = let same : x ≡ i = eqb-true x i e in rw same at p
    go false e n = r i (omega arith)

-- a list that holds each member of a set once, and no other
pub each_once-has : (m : ℕ) (o : List ℕ) → EachOnce m o → (i : ℕ) → 0 < times i o → has m i ≡ true
each_once-has m o c i n = go (has m i) (c i)
  where
    go : (t : Bool) → times i o ≡ cond t 1 0 → t ≡ true
    go true e = refl
    go false e = absurd (omega arith)

pub has-each_once : (m : ℕ) (o : List ℕ) → EachOnce m o → (i : ℕ) → has m i ≡ true → 0 < times i o
has-each_once m o c i h = rw (c i, h) (omega arith)
