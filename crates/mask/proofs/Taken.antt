-- What a step of the members is: the lowest is taken, and the mask with the number below it is left.
use mathlib.Core.Path.{◌≡◌, ap}
use Prim.Native.Nat.{ℕ, suc, ◌-◌, ◌^◌, ◌<◌}
use native.Mathlib.Omega.{arith}
use lib.Bits.{bit_and}
use lib.Count.{count_trailing_zeros}
use lib.ListN.{length}
use Rattle.mask.specs.Mask.{count}
use Rattle.mask.specs.Members.{Takes}
use Rattle.mask.proofs.Lowest.{lowest-le}
use Rattle.mask.proofs.FromLowest.{lowest-has, lowest-lt, lowest-rest, rest-less, members-lowest}

-- there is a bit for each member
pub some-width : (w m : ℕ) → (m ≡ 0 → ⊥) → m < 2 ^ w → 0 < w
some-width w m some narrow = omega (arith, lowest-lt w m some narrow)

pub takes-lowest : (w m v m' : ℕ) → (m ≡ 0 → ⊥) → m < 2 ^ w → v ≡ count_trailing_zeros w m
    → m' ≡ bit_and m (m - 1) → Takes w m v m'
takes-lowest w m v m' some narrow is left = rw (is, left) record {
  first = members-lowest w m some narrow;
  held = lowest-has w m some narrow;
  low = lowest-lt w m some narrow;
  least = lowest-le w m;
  rest = lowest-rest w m some narrow;
  less = rest-less w m some narrow;
}

pub takes-counts : (w m v m' : ℕ) → Takes w m v m' → count w m ≡ suc (count w m')
unfolding count
takes-counts w m v m' t = ap length t.first
