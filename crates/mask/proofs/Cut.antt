-- A mask cut to its members below n: they are the same, and the cut is below 2 ^ n.
use mathlib.Core.Path.{◌≡◌, refl, sym, ap, ap₂, ◌∙◌}
use mathlib.Core.Bool.{Bool, true, false, cond, ◌&&◌, and-true, and-false}
use mathlib.Core.List.{List, ◌∷◌}
use Prim.Native.Nat.{ℕ, zero, suc, ◌+◌, ◌^◌, ◌≤◌, ◌<◌}
use native.Mathlib.Omega.{arith}
use native.Mathlib.Nat.{mod-eq_of_lt}
use lib.ListN.{length}
use lib.Pow.{pow_pos}
use lib.Bits.{bit_and, and_le_r, and_mask}
use borrow.Author.Tests.{eqb-true, lt-ltb, le-ltb}
use Rattle.mask.specs.Mask.{has, below, within, members_from, members, count}
use Rattle.mask.proofs.Laws.{has-and, has-below}

pub cut_below : (m n : ℕ) → bit_and m (below n) < 2 ^ n
cut_below m n = omega (arith, and_le_r m (below n), pow_pos n)

-- a mask of n bits is its own cut
pub cut-same : (m n : ℕ) → m < 2 ^ n → bit_and m (below n) ≡ m
cut-same m n h = and_mask m n ∙ mod-eq_of_lt h

pub within-below : (m n : ℕ) → within m (below n) ≡ true → m < 2 ^ n
within-below m n h = omega (arith, eqb-true (bit_and m (below n)) m h, cut_below m n)

pub has-cut : (m n v : ℕ) → v < n → has (bit_and m (below n)) v ≡ has m v
has-cut m n v h =
    has-and m (below n) v
    ∙ ap (λ (t : Bool). has m v && t) (has-below n v ∙ lt-ltb v n h)
    ∙ and-true (has m v)

-- a mask of n bits has no member from n on
pub has-high : (n m v : ℕ) → m < 2 ^ n → n ≤ v → has m v ≡ false
has-high n m v h k =
    ap (λ (x : ℕ). has x v) (sym (cut-same m n h))
    ∙ has-and m (below n) v
    ∙ ap (λ (t : Bool). has m v && t) (has-below n v ∙ le-ltb v n k)
    ∙ and-false (has m v)

from_cut : (n k v m : ℕ) → v + k ≤ n → members_from v k (bit_and m (below n)) ≡ members_from v k m
unfolding members_from
from_cut n zero v m h = refl
from_cut n (suc k) v m h = ap₂ (λ (t : Bool) (l : List ℕ). cond t (v ∷ l) l) (has-cut m n v (omega arith))
    (from_cut n k (suc v) m (omega arith))

pub members-cut : (n m : ℕ) → members n (bit_and m (below n)) ≡ members n m
unfolding members
members-cut n m = from_cut n n 0 m (omega arith)

pub count_cut : (n m : ℕ) → count n (bit_and m (below n)) ≡ count n m
unfolding count
count_cut n m = ap length (members-cut n m)
