-- A function that rises keeps dictionary order: the first difference stays the first, and its sides stay in order.
use mathlib.Core.Path.{◌≡◌, refl, ap, ap₂}
use mathlib.Core.List.{List, ◌∷◌, map}
use Prim.Native.Nat.{ℕ, suc, ◌<◌}
use native.Mathlib.Omega.{arith}
use Rattle.precedence.specs.Order.{times}
use Rattle.search.specs.Dictionary.{NotAfter, beginning, smaller, same}
use Rattle.precedence.proofs.Times.{times-head}

pub not_after-map : (f : ℕ → ℕ) {a b : List ℕ} → ((x y : ℕ) → x < y → 0 < times y b → f x < f y) → NotAfter a b
    → NotAfter (map f a) (map f b)
unfolding times
not_after-map f h beginning = beginning
not_after-map f h (smaller {x = x} {y = y} {b = b} l) = smaller (h x y l (times-head y (times y b)))
not_after-map f h (same e r) = same (ap f e) (not_after-map f (λ x y l n. h x y l (omega arith)) r)

-- occurrence numbers and positions
pub not_after-suc : {a b : List ℕ} → NotAfter a b → NotAfter (map suc a) (map suc b)
not_after-suc r = not_after-map suc (λ x y l n. omega arith) r

-- two lists of which neither stands after the other are one list
pub not_after-antisym : {a b : List ℕ} → NotAfter a b → NotAfter b a → a ≡ b
not_after-antisym beginning beginning = refl
not_after-antisym (smaller l) (smaller k) = absurd (omega arith)
not_after-antisym (smaller l) (same e s) = absurd (omega arith)
not_after-antisym (same e s) (smaller l) = absurd (omega arith)
not_after-antisym (same e s) (same f r) = ap₂ (λ (x : ℕ) (l : List ℕ). x ∷ l) e (not_after-antisym s r)
