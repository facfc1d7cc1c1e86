-- Powers of ten: they grow with the exponent, and a digit less is a tenth.
-- Assumes nothing.
use mathlib.Core.Path.{◌≡◌}
use Prim.Native.Nat.{ℕ, suc, ◌*◌, ◌/◌, ◌^◌, ◌≤◌, ◌<◌}
use native.Mathlib.Nat.{zero-lt-suc, pow-le-pow_right, pow-suc}
use native.Mathlib.Omega.{arith}

pub tens-mono : (i j : ℕ) → i ≤ j → 10 ^ i ≤ 10 ^ j
tens-mono i j h = pow-le-pow_right (zero-lt-suc 9) h

pub tenth : (k n : ℕ) → n < 10 ^ suc k → n / 10 < 10 ^ k
tenth k n h = go (10 ^ k) (10 ^ suc k) (pow-suc 10 k) h
  where
    go : (p q : ℕ) → q ≡ p * 10 → n < q → n / 10 < p
    go p q e b = omega arith
