-- A bit mask is a number, and stands for the set of its bits. No definition here speaks of a width.
use Rattle.std.specs.Prelude.{ℕ, zero, suc, ◌-◌, ◌^◌, ◌/◌, ◌%◌, Bool, not, cond, List, [], ◌∷◌, eqb, length}
use Rattle.std.specs.Int.Bits.{bit_and, bit_or, bit_xor}

-- v is in m: bit v is set
unfoldable pub has : ℕ → ℕ → Bool
has m v = eqb (m / 2 ^ v % 2) 1

-- the set of v alone
abbrev pub bit : ℕ → ℕ
bit v = 2 ^ v

-- the set of all below n
abbrev pub below : ℕ → ℕ
below n = 2 ^ n - 1

-- what is in a and not in b
abbrev pub without : ℕ → ℕ → ℕ
without a b = bit_xor a (bit_and a b)

-- all of a is in b
abbrev pub within : ℕ → ℕ → Bool
within a b = eqb (bit_and a b) a

-- a and b have a member in common
abbrev pub meets : ℕ → ℕ → Bool
meets a b = not (eqb (bit_and a b) 0)

-- the members of m among the k numbers from v on, rising
unfoldable pub members_from : ℕ → ℕ → ℕ → List ℕ
members_from v zero m = []
members_from v (suc k) m = cond (has m v) (v ∷ members_from (suc v) k m) (members_from (suc v) k m)

-- the members of m below w, rising
unfoldable pub members : ℕ → ℕ → List ℕ
members w m = members_from 0 w m

-- the set of those below n that pass a test
unfoldable pub collect : (ℕ → Bool) → ℕ → ℕ
collect f zero = 0
collect f (suc n) = bit_or (collect f n) (cond (f n) (bit n) 0)

-- how many members m has below w
unfoldable pub count : ℕ → ℕ → ℕ
count w m = length (members w m)
