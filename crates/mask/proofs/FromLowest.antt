-- A mask's members from the lowest up, as a loop takes them: the lowest is a member and comes first, and entries that
-- are set at each member in turn are set at all.
use mathlib.Core.Path.{◌≡◌, refl, sym, ap, ap₂, ◌∙◌}
use mathlib.Core.Bool.{Bool, true, false, not, cond, ◌&&◌, and-true, and-false}
use mathlib.Core.List.{List, [], ◌∷◌}
use Prim.Native.Nat.{ℕ, zero, suc, ◌+◌, ◌-◌, ◌^◌, ◌≤◌, ◌<◌}
use native.Mathlib.Omega.{arith}
use native.Mathlib.Decide.{ℕ_discrete}
use lib.Dec.{eqb}
use lib.Bits.{bit_and, and_le_l, and_le_r}
use lib.Count.{count_trailing_zeros}
use lib.ListN.{length, get_or, set}
use lib.Seq.{get_or-set_same, get_or-set_other}
use borrow.Author.Tests.{eq-eqb, ne_eqb}
use Rattle.mask.specs.Mask.{has, members_from, members}
use Rattle.mask.specs.Members.{Takes}
use Rattle.mask.proofs.Laws.{has-zero}
use Rattle.mask.proofs.Cut.{has-high}
use Rattle.mask.proofs.Lowest.{lowest-le, lowest-of, has-less-lowest}

module _ (w m : ℕ) (some : m ≡ 0 → ⊥) (narrow : m < 2 ^ w) where
  pub lowest-has : has m (count_trailing_zeros w m) ≡ true
  lowest-has = (lowest-of w m (omega arith) narrow).0

  pub lowest-lt : count_trailing_zeros w m < w
  lowest-lt = (lowest-of w m (omega arith) narrow).1

  pub lowest-rest : (v : ℕ) → has (bit_and m (m - 1)) v ≡ (has m v && not (eqb v (count_trailing_zeros w m)))
  lowest-rest v = has-less-lowest w m v (omega arith) narrow

  pub rest-less : bit_and m (m - 1) < m
  rest-less = omega (arith, and_le_r m (m - 1))

  pub rest-fits : bit_and m (m - 1) < 2 ^ w
  rest-fits = omega (arith, and_le_l m (m - 1))

-- ---- the members as a list

from-same : (c v m m' : ℕ) → ((u : ℕ) → v ≤ u → has m u ≡ has m' u) → members_from v c m ≡ members_from v c m'
unfolding members_from
from-same zero v m m' h = refl
from-same (suc c) v m m' h = ap₂ (λ (t : Bool) (l : List ℕ). cond t (v ∷ l) l) (h v (omega arith))
    (from-same c (suc v) m m' (λ u b. h u (omega arith)))

from-none : (c v m : ℕ) → ((u : ℕ) → v ≤ u → has m u ≡ false) → members_from v c m ≡ []
unfolding members_from
from-none zero v m h = refl
from-none (suc c) v m h = ap (λ (t : Bool). cond t (v ∷ members_from (suc v) c m) (members_from (suc v) c m))
    (h v (omega arith)) ∙ from-none c (suc v) m (λ u b. h u (omega arith))

pub members-none : (w : ℕ) → members w 0 ≡ []
unfolding members
members-none w = from-none w 0 0 (λ u b. has-zero u)

-- bits that a mask can't have give no member
from-narrow : (a b v m : ℕ) → m < 2 ^ (v + a) → members_from v (a + b) m ≡ members_from v a m
unfolding members_from
from-narrow zero b v m h = from-none (0 + b) v m (λ u l. has-high (v + 0) m u h (omega arith))
from-narrow (suc a) b v m h =
    ap (λ (c : ℕ). members_from v c m) one_more
    ∙ ap (λ (l : List ℕ). cond (has m v) (v ∷ l) l) (from-narrow a b (suc v) m (wide m h))
  where
    one_more : suc a + b ≡ suc (a + b)
    one_more = omega arith

    same_width : v + suc a ≡ suc v + a
    same_width = omega arith

    wide : (n : ℕ) → n < 2 ^ (v + suc a) → n < 2 ^ (suc v + a)
    wide n l = rw (← same_width) l

pub members-narrow : (a b m : ℕ) → m < 2 ^ a → members (a + b) m ≡ members a m
unfolding members
members-narrow a b m h = let width : 0 + a ≡ a = omega arith in from-narrow a b 0 m (rw width h)

-- k is the lowest member, and m' has all others
module _ (m m' k : ℕ) (own : has m k ≡ true) (low : (u : ℕ) → u < k → has m u ≡ false)
    (rest : (u : ℕ) → has m' u ≡ (has m u && not (eqb u k))) where
  rest-other : (u : ℕ) → (u ≡ k → ⊥) → has m u ≡ has m' u
  rest-other u n = sym (rest u ∙ ap (λ (t : Bool). has m u && not t) (ne_eqb u k n) ∙ and-true (has m u))

  rest-own : (u : ℕ) → u ≡ k → has m' u ≡ false
  rest-own u e = rest u ∙ ap (λ (t : Bool). has m u && not t) (eq-eqb u k e) ∙ and-false (has m u)

  from_first : (c v : ℕ) → v ≤ k → k < v + c → members_from v c m ≡ k ∷ members_from v c m'
  unfolding members_from
  from_first zero v a b = absurd (omega arith)
  from_first (suc c) v a b = go (ℕ_discrete v k) (λ n. from_first c (suc v) (omega arith) (omega arith))
    where
      next : ℕ → List ℕ
      next x = members_from (suc v) c x

      go : Dec (v ≡ k) → ((v ≡ k → ⊥) → next m ≡ k ∷ next m')
          → cond (has m v) (v ∷ next m) (next m) ≡ k ∷ cond (has m' v) (v ∷ next m') (next m')
      go (yes e) ih =
          ap (λ (t : Bool). cond t (v ∷ next m) (next m)) (ap (has m) e ∙ own)
          ∙ ap₂ (λ (x : ℕ) (l : List ℕ). x ∷ l) e (from-same c (suc v) m m' (λ u b. rest-other u (λ q. omega arith)))
          ∙ ap (λ (t : Bool). k ∷ cond t (v ∷ next m') (next m')) (sym (rest-own v e))
      go (no n) ih =
          ap (λ (t : Bool). cond t (v ∷ next m) (next m)) (low v (omega arith))
          ∙ ih n
          ∙ ap (λ (t : Bool). k ∷ cond t (v ∷ next m') (next m')) (sym (sym (rest-other v n) ∙ low v (omega arith)))

false-unless : (t : Bool) → (t ≡ true → ⊥) → t ≡ false
false-unless true h = absurd (h refl)
false-unless false h = refl

pub members-lowest : (w m : ℕ) → (m ≡ 0 → ⊥) → m < 2 ^ w
    → members w m ≡ count_trailing_zeros w m ∷ members w (bit_and m (m - 1))
unfolding members
members-lowest w m some narrow =
    from_first m (bit_and m (m - 1)) (count_trailing_zeros w m) (lowest-has w m some narrow)
    (λ u b. false-unless (has m u) (λ h. omega (arith, lowest-le w m u h)))
    (lowest-rest w m some narrow) w 0 (omega arith) (omega (arith, lowest-lt w m some narrow))

-- ---- entries set at the members

-- the entry at v once each member of m has the value of f
abbrev pub set_at : (ℕ → ℕ) → ℕ → List ℕ → ℕ → ℕ
set_at f m a v = cond (has m v) (f v) (get_or a v 0)

pub set-taken : (f : ℕ → ℕ) (w m k m' : ℕ) (a : List ℕ) → Takes w m k m' → w ≤ length a → (v : ℕ)
    → set_at f m' (set a k (f k)) v ≡ set_at f m a v
set-taken f w m k m' a took room v = go (ℕ_discrete v k)
  where
    go : Dec (v ≡ k) → set_at f m' (set a k (f k)) v ≡ set_at f m a v
    go (yes e) =
        ap (λ (t : Bool). cond t (f v) (get_or (set a k (f k)) v 0))
        (took.rest v ∙ ap (λ (t : Bool). has m v && not t) (eq-eqb v k e) ∙ and-false (has m v))
        ∙ ap (λ (u : ℕ). get_or (set a k (f k)) u 0) e
        ∙ get_or-set_same a k (f k) 0 (omega (arith, took.low))
        ∙ ap f (sym e)
        ∙ ap (λ (t : Bool). cond t (f v) (get_or a v 0)) (sym (ap (has m) e ∙ took.held))
    go (no n) =
        ap₂ (λ (t : Bool) (x : ℕ). cond t (f v) x)
        (took.rest v ∙ ap (λ (t : Bool). has m v && not t) (ne_eqb v k n) ∙ and-true (has m v))
        (get_or-set_other a k v (f k) 0 n)

pub set-none : (f : ℕ → ℕ) (m : ℕ) (a : List ℕ) (v : ℕ) → m ≡ 0 → get_or a v 0 ≡ set_at f m a v
set-none f m a v e = ap (λ (t : Bool). cond t (f v) (get_or a v 0)) (sym (ap (λ (n : ℕ). has n v) e ∙ has-zero v))
