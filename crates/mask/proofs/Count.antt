-- How many members a set has: a new member adds one, and a set with as many members as there can be has them all.
use mathlib.Core.Path.{◌≡◌, refl, sym, ap, ap₂, ◌∙◌}
use mathlib.Core.Bool.{Bool, true, false, cond, ◌||◌, or-false, or-true}
use mathlib.Core.List.{List, ◌∷◌}
use Prim.Native.Nat.{ℕ, zero, suc, ◌+◌, ◌≤◌, ◌<◌}
use native.Mathlib.Omega.{arith}
use native.Mathlib.Decide.{ℕ_discrete}
use lib.Dec.{eqb}
use lib.ListN.{length}
use lib.Bits.{bit_or}
use borrow.Author.Tests.{eq-eqb, ne_eqb}
use Rattle.mask.specs.Mask.{has, bit, members_from, members, count}
use Rattle.mask.proofs.Laws.{has-or, has-bit, has-zero}

-- a truth value as a count
abbrev pub one : Bool → ℕ
one t = cond t 1 0

pub one_same : (a b : Bool) → one a ≡ one b → a ≡ b
one_same true true e = refl
one_same true false e = absurd (omega arith)
one_same false true e = absurd (omega arith)
one_same false false e = refl

pub one-some : (t : Bool) → 0 < one t → t ≡ true
one-some true h = refl
one-some false h = absurd (omega arith)

pub one-most : (t : Bool) → one t ≤ 1
one-most true = omega arith
one-most false = omega arith

-- the members of a set with one more
pub has_more : (m k i : ℕ) → has (bit_or m (bit k)) i ≡ (has m i || eqb i k)
has_more m k i = has-or m (bit k) i ∙ ap (λ (t : Bool). has m i || t) (has-bit k i)

pub has_new : (m k : ℕ) → has (bit_or m (bit k)) k ≡ true
has_new m k = has_more m k k ∙ rw (eq-eqb k k refl) (or-true (has m k))

pub has-old : (m k i : ℕ) → (i ≡ k → ⊥) → has (bit_or m (bit k)) i ≡ has m i
has-old m k i h = has_more m k i ∙ rw (ne_eqb i k h) (or-false (has m i))

pub one_more : (seen x i : ℕ) → has seen x ≡ false → one (has (bit_or seen (bit x)) i) ≡ one (has seen i) + one (eqb x i)
one_more seen x i h = go (ℕ_discrete x i)
  where
    go : Dec (x ≡ i) → one (has (bit_or seen (bit x)) i) ≡ one (has seen i) + one (eqb x i)
    go (yes e) = rw (← e, has_new seen x, h, eq-eqb x x refl)
    go (no n) = rw (has-old seen x i (λ e. n (sym e)), ne_eqb x i n) (omega arith)

-- members from v on
from_on : (t : Bool) (v : ℕ) (l : List ℕ) → length (cond t (v ∷ l) l) ≡ one t + length l
from_on true v l = omega arith
from_on false v l = omega arith

from_old : (c v m k : ℕ) → k < v → length (members_from v c (bit_or m (bit k))) ≡ length (members_from v c m)
unfolding members_from
from_old zero v m k h = refl
from_old (suc c) v m k h = simp from_on (ap₂ (λ (t : Bool) (n : ℕ). one t + n) (has-old m k v (omega arith))
    (from_old c (suc v) m k (omega arith)))

from-new : (c v m k : ℕ) → v ≤ k → k < v + c → has m k ≡ false
    → length (members_from v c (bit_or m (bit k))) ≡ suc (length (members_from v c m))
unfolding members_from
from-new zero v m k a b h = absurd (omega arith)
from-new (suc c) v m k a b h = simp from_on (go (ℕ_discrete v k)
    (λ n. from-new c (suc v) m k (omega arith) (omega arith) h))
  where
    more : ℕ
    more = length (members_from (suc v) c (bit_or m (bit k)))

    go : Dec (v ≡ k) → ((v ≡ k → ⊥) → more ≡ suc (length (members_from (suc v) c m)))
        → one (has (bit_or m (bit k)) v) + more ≡ suc (one (has m v) + length (members_from (suc v) c m))
    go (yes e) ih =
        let own : one (has (bit_or m (bit k)) v) ≡ 1 = rw (e, has_new m k) in
        let none : one (has m v) ≡ 0 = rw (e, h) in
        omega (arith, from_old c (suc v) m k (omega arith))
    go (no n) ih = let here : one (has (bit_or m (bit k)) v) ≡ one (has m v) =
        rw (has-old m k v n) in omega (arith, ih n)

from-none : (c v : ℕ) → length (members_from v c 0) ≡ 0
unfolding members_from
from-none zero v = refl
from-none (suc c) v = rw (has-zero v) (from-none c (suc v))

from-most : (c v m : ℕ) → length (members_from v c m) ≤ c
unfolding members_from
from-most zero v m = omega arith
from-most (suc c) v m = simp from_on (go (has m v) (from-most c (suc v) m))
  where
    go : (t : Bool) → length (members_from (suc v) c m) ≤ c → one t + length (members_from (suc v) c m) ≤ suc c
    go true h = omega arith
    go false h = omega arith

from-full : (c v m : ℕ) → length (members_from v c m) ≡ c → (k : ℕ) → v ≤ k → k < v + c → has m k ≡ true
unfolding members_from
from-full zero v m e k a b = absurd (omega arith)
from-full (suc c) v m e k a b = go (has m v) refl (simp from_on at e) (ℕ_discrete v k)
    (λ f a b. from-full c (suc v) m f k a b)
  where
    go : (t : Bool) → has m v ≡ t → one t + length (members_from (suc v) c m) ≡ suc c → Dec (v ≡ k)
        → (length (members_from (suc v) c m) ≡ c → suc v ≤ k → k < suc v + c → has m k ≡ true) → has m k ≡ true
    go true h e (yes s) ih = ap (has m) (sym s) ∙ h
    go true h e (no n) ih = ih (omega arith) (omega arith) (omega arith)
    go false h e d ih = absurd (omega (arith, from-most c (suc v) m))

-- ---- counts below w

module _ (w : ℕ) where
  pub count_none : count w 0 ≡ 0
  unfolding count members
  count_none = from-none w 0

  pub count_most : (m : ℕ) → count w m ≤ w
  unfolding count members
  count_most m = from-most w 0 m

  pub count-new : (m k : ℕ) → k < w → has m k ≡ false → count w (bit_or m (bit k)) ≡ suc (count w m)
  unfolding count members
  count-new m k b h = from-new w 0 m k (omega arith) (omega arith) h

  pub count-full : (m : ℕ) → count w m ≡ w → (k : ℕ) → k < w → has m k ≡ true
  unfolding count members
  count-full m e k b = from-full w 0 m e k (omega arith) (omega arith)
