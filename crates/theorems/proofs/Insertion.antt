-- What is counted in a list can be taken out of it, and the rest has the other counts.
use mathlib.Core.Path.{◌≡◌, refl}
use mathlib.Core.Bool.{Bool, true, false, cond}
use mathlib.Core.List.{List, [], ◌∷◌}
use Prim.Native.Nat.{ℕ, ◌+◌, ◌<◌}
use native.Mathlib.Omega.{arith}
use lib.Dec.{eqb}
use borrow.Author.Tests.{eqb-true}
use Rattle.precedence.specs.Order.{times}
use Rattle.precedence.proofs.Times.{times-head}

-- k is r with x put in somewhere
pub data Insertion (x : ℕ) : List ℕ → List ℕ → Type 0 where
  here : {r : List ℕ} → Insertion x r (x ∷ r)
  there : {y : ℕ} {r k : List ℕ} → Insertion x r k → Insertion x (y ∷ r) (y ∷ k)

pub insertion-times : {x : ℕ} {r k : List ℕ} → Insertion x r k → (i : ℕ) → times i k ≡ cond (eqb x i) 1 0 + times i r
unfolding times
insertion-times here i = refl
insertion-times (there p) i = let ih = insertion-times p i in omega arith

pub insertion-in : {x : ℕ} {r k : List ℕ} → Insertion x r k → 0 < times x k
insertion-in {x = x} {r = r} p = rw (insertion-times p x) (times-head x (times x r))

-- what stands in a list can be taken out
pub take_out : (x : ℕ) (k : List ℕ) → 0 < times x k → (r : List ℕ) × Insertion x r k
unfolding times
take_out x [] h = absurd (omega arith)
take_out x (y ∷ k) h = go (eqb y x) refl h (take_out x k)
  where
    go : (t : Bool) → eqb y x ≡ t → 0 < cond t 1 0 + times x k → (0 < times x k → (r : List ℕ) × Insertion x r k)
        → (r : List ℕ) × Insertion x r (y ∷ k)
    go true e h ih = let same : y ≡ x = eqb-true y x e in (k, rw same here)
    go false e h ih = let (r, p) = ih (omega arith) in (y ∷ r, there p)
