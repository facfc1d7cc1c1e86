-- The limits of a version: a name can be written and stored, a number that was read is small, and both versions
-- keep to them. Assumes nothing.
use mathlib.Core.Path.{◌≡◌, refl, ap₂}
use mathlib.Core.Logic.{◌↔◌}
use mathlib.Core.Bool.{Bool, true, ◌&&◌}
use Prim.Native.Nat.{ℕ, zero, suc, ◌^◌, ◌≤◌, ◌<◌}
use native.Mathlib.Omega.{arith}
use lib.Dec.{leb, lit<, lit≤}
use borrow.Author.Tests.{leb-true, le-leb}
use Rattle.mask.proofs.Truth.{both}
use Rattle.version.specs.Limits.{scope, present, name_fits, Limits, Wider}
use Rattle.version.specs.declared.Version.{Version}
use Rattle.version.proofs.Tens.{tens-mono}

pub scope-limits : Limits scope
scope-limits = record { two = lit≤ tt; ten = lit≤ tt; written = lit< tt; stored = lit< tt }

pub present-limits : Limits present
present-limits = record { two = lit≤ tt; ten = lit≤ tt; written = lit< tt; stored = lit< tt }

-- no version with start lines that keeps to the limits allows more than the present one
pub widest : (v : Version) → Limits v → v.starts ≡ true → Wider v present
widest v limits e = record { names = omega (arith, limits.stored); marks = λ _. refl; starts = e }

-- a name is 1 to the greatest
pub fits_iff : (v : Version) (n : ℕ) → (name_fits v n ≡ true) ↔ ((1 ≤ n) × (n ≤ v.greatest))
unfolding name_fits
fits_iff v n = (
  λ h. let (low, high) = both (leb 1 n) (leb n v.greatest) h in (leb-true 1 n low, leb-true n v.greatest high),
  λ h. ap₂ (λ (x y : Bool). x && y) (le-leb 1 n h.0) (le-leb n v.greatest h.1),
)

fits-greatest : (v : Version) (n : ℕ) → name_fits v n ≡ true → n ≤ v.greatest
fits-greatest v n h = ((fits_iff v n).0 h).1

-- of the numbers of 32 bits only 0 is no name of the present version
pub word_fits : (n : ℕ) → n < 2 ^ 32 → (name_fits present n ≡ true) ↔ (n ≡ 0 → ⊥)
word_fits n h = (λ fits z. omega (arith, ((fits_iff present n).0 fits).0), λ some. (fits_iff present n).1 (go n h some))
  where
    go : (n : ℕ) → n < 2 ^ 32 → (n ≡ 0 → ⊥) → (1 ≤ n) × (n ≤ 4294967295)
    go zero h some = absurd (some refl)
    go (suc n) h some = (omega arith, omega arith)

module _ (v : Version) (limits : Limits v) (n : ℕ) where
  -- a place count, an entry and a name can be written
  pub low-short : n < 100 → n < 10 ^ v.digits
  low-short h = omega (arith, tens-mono 2 v.digits limits.two)

  pub name-short : name_fits v n ≡ true → n < 10 ^ v.digits
  name-short h = omega (arith, fits-greatest v n h, limits.written)

  pub name-stored : name_fits v n ≡ true → n < 2 ^ 32
  name-stored h = omega (arith, fits-greatest v n h, limits.stored)
