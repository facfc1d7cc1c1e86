-- The members of a mask in turn: that each is a member, that they rise, and how many there can be.
use mathlib.Core.Path.{◌≡◌, refl, sym, ap, ◌∙◌}
use mathlib.Core.Bool.{Bool, true, false, cond}
use mathlib.Core.List.{List, ◌∷◌}
use Prim.Native.Nat.{ℕ, zero, suc, ◌+◌, ◌-◌, ◌≤◌, ◌<◌}
use native.Mathlib.Omega.{arith}
use lib.ListN.{length, get_or}
use borrow.Author.Tests.{ltb-true}
use Rattle.mask.specs.Mask.{has, below, members_from, members, count}
use Rattle.mask.proofs.Laws.{has-below}

from_in : (c v m k : ℕ) → k < length (members_from v c m)
    → (has m (get_or (members_from v c m) k 0) ≡ true) × (get_or (members_from v c m) k 0 < v + c)
unfolding members_from
from_in zero v m k h = absurd (omega arith)
from_in (suc c) v m k h = go (has m v) refl k h (from_in c (suc v) m)
  where
    rest : List ℕ
    rest = members_from (suc v) c m

    go : (t : Bool) → has m v ≡ t → (k : ℕ) → k < length (cond t (v ∷ rest) rest)
        → ((k : ℕ) → k < length rest → (has m (get_or rest k 0) ≡ true) × (get_or rest k 0 < suc v + c))
        → (has m (get_or (cond t (v ∷ rest) rest) k 0) ≡ true) × (get_or (cond t (v ∷ rest) rest) k 0 < v + suc c)
    go true e zero h ih = (e, omega arith)
    go true e (suc k) h ih = let r = ih k (omega arith) in (r.0, omega arith)
    go false e k h ih = let r = ih k h in (r.0, omega arith)

-- what stands among the members below w is one
pub member-at : (w m k : ℕ) → k < length (members w m)
    → (has m (get_or (members w m) k 0) ≡ true) × (get_or (members w m) k 0 < w)
unfolding members
member-at w m k h = let r = from_in w 0 m k h in (r.0, omega arith)

few-from : (c v m n : ℕ) → ((i : ℕ) → has m i ≡ true → i < n) → length (members_from v c m) ≤ n - v
unfolding members_from
few-from zero v m n h = omega arith
few-from (suc c) v m n h = go (has m v) refl (few-from c (suc v) m n h)
  where
    rest : List ℕ
    rest = members_from (suc v) c m

    go : (t : Bool) → has m v ≡ t → length rest ≤ n - suc v → length (cond t (v ∷ rest) rest) ≤ n - v
    go true e ih = omega (arith, h v e)
    go false e ih = omega arith

-- members that are all below n are at most n
pub count-few : (w m n : ℕ) → ((i : ℕ) → has m i ≡ true → i < n) → count w m ≤ n
unfolding count members
count-few w m n h = omega (arith, few-from w 0 m n h)

-- all below n are n
pub below-few : (kept len n : ℕ) → kept ≡ below len → len ≡ n → count 64 kept ≤ n
below-few kept len n e f = count-few 64 kept n
    (λ i h. ltb-true i n (sym (has-below n i) ∙ ap (λ (k : ℕ). has k i) (sym (e ∙ ap (λ (k : ℕ). below k) f)) ∙ h))

-- ---- rising lists

abbrev pub Rises : List ℕ → Type 0
Rises ks = (j k : ℕ) → j < k → k < length ks → get_or ks j 0 < get_or ks k 0

from_low : (c v m k : ℕ) → k < length (members_from v c m) → v ≤ get_or (members_from v c m) k 0
unfolding members_from
from_low zero v m k h = absurd (omega arith)
from_low (suc c) v m k h = go (has m v) k h (from_low c (suc v) m)
  where
    rest : List ℕ
    rest = members_from (suc v) c m

    go : (t : Bool) (k : ℕ) → k < length (cond t (v ∷ rest) rest)
        → ((k : ℕ) → k < length rest → suc v ≤ get_or rest k 0) → v ≤ get_or (cond t (v ∷ rest) rest) k 0
    go true zero h ih = omega arith
    go true (suc k) h ih = omega (arith, ih k (omega arith))
    go false k h ih = omega (arith, ih k h)

from-rises : (c v m : ℕ) → Rises (members_from v c m)
unfolding members_from
from-rises zero v m j k l h = absurd (omega arith)
from-rises (suc c) v m j k l h = go (has m v) j k l h (from-rises c (suc v) m)
  where
    rest : List ℕ
    rest = members_from (suc v) c m

    go : (t : Bool) (j k : ℕ) → j < k → k < length (cond t (v ∷ rest) rest) → Rises rest
        → get_or (cond t (v ∷ rest) rest) j 0 < get_or (cond t (v ∷ rest) rest) k 0
    go true zero (suc k) l h ih = from_low c (suc v) m k (omega arith)
    go true (suc j) (suc k) l h ih = ih j k (omega arith) (omega arith)
    go true j zero l h ih = absurd (omega arith)
    go false j k l h ih = ih j k l h

pub members-rise : (w m : ℕ) → Rises (members w m)
unfolding members
members-rise w m = from-rises w 0 m
