-- The kept in their own order are one of the orders asked for: the members of a mask rise, so that each stands once and
-- none stands before one that it comes after.
use mathlib.Core.Path.{◌≡◌, refl, ap₂, ◌∙◌}
use mathlib.Core.Bool.{Bool, true, false, cond, ◌&&◌}
use mathlib.Core.List.{List, [], ◌∷◌}
use Prim.Native.Nat.{ℕ, zero, suc, ◌+◌, ◌≤◌, ◌<◌}
use native.Mathlib.Omega.{arith}
use native.Mathlib.Decide.{ℕ_discrete, dec_lt}
use borrow.Author.Tests.{eq-eqb, ne_eqb}
use Rattle.mask.specs.Mask.{has, members_from, members}
use Rattle.route.specs.declared.Step.{Step}
use Rattle.precedence.specs.Precedence.{comes_after}
use Rattle.precedence.specs.Order.{times, EachOnce, none_of, in_order}
use Rattle.precedence.proofs.Rows.{not_after}
use Rattle.theorems.proofs.Entries.{none_of-intro}

-- ---- each once

count-other : (i v : ℕ) (t : Bool) (o : List ℕ) → (v ≡ i → ⊥) → times i (cond t (v ∷ o) o) ≡ times i o
unfolding times
count-other i v true o h = rw (ne_eqb v i h) (omega arith)
count-other i v false o h = refl

count-own : (i v : ℕ) (t : Bool) (o : List ℕ) → v ≡ i → times i o ≡ 0 → times i (cond t (v ∷ o) o) ≡ cond t 1 0
unfolding times
count-own i v true o h z = rw (eq-eqb v i h, z)
count-own i v false o h z = z

-- the members from v on are not below v
none_below : (k v m i : ℕ) → i < v → times i (members_from v k m) ≡ 0
unfolding times members_from
none_below zero v m i h = refl
none_below (suc k) v m i h = count-other i v (has m v) (members_from (suc v) k m) (omega arith)
    ∙ none_below k (suc v) m i (omega arith)

once-from : (k v m i : ℕ) → v ≤ i → (has m i ≡ true → i < v + k) → times i (members_from v k m) ≡ cond (has m i) 1 0
unfolding times members_from
once-from zero v m i a b = go (has m i) b
  where
    go : (t : Bool) → (t ≡ true → i < v + 0) → times i [] ≡ cond t 1 0
    go true h = let z : i < v + 0 = h refl in omega arith
    go false h = refl
once-from (suc k) v m i a b = go (ℕ_discrete v i) (λ n. once-from k (suc v) m i (omega arith) (λ h. omega (arith, b h)))
  where
    rest : List ℕ
    rest = members_from (suc v) k m

    go : Dec (v ≡ i) → ((v ≡ i → ⊥) → times i rest ≡ cond (has m i) 1 0)
        → times i (cond (has m v) (v ∷ rest) rest) ≡ cond (has m i) 1 0
    go (yes e) ih = count-own i v (has m v) rest e (none_below k (suc v) m i (omega arith)) ∙ rw e
    go (no n) ih = count-other i v (has m v) rest n ∙ ih n

pub members-each_once : (n kept : ℕ) → ((i : ℕ) → has kept i ≡ true → i < n) → EachOnce kept (members n kept)
unfolding members
members-each_once n kept h i = once-from n 0 kept i (omega arith) (λ k. omega (arith, h i k))

-- ---- in order

order_from : (l : List Step) (k v m : ℕ) → in_order l (members_from v k m) ≡ true
unfolding in_order members_from
order_from l zero v m = refl
order_from l (suc k) v m = go (has m v) (order_from l k (suc v) m)
  where
    rest : List ℕ
    rest = members_from (suc v) k m

    first : none_of (comes_after l v) rest ≡ true
    first = none_of-intro (comes_after l v) rest (λ i n. not_after l v i (go i n (dec_lt i (suc v))))
      where
        go : (i : ℕ) → 0 < times i rest → Dec (i < suc v) → v ≤ i
        go i n (yes h) = absurd (omega (arith, none_below k (suc v) m i h))
        go i n (no h) = omega arith

    go : (t : Bool) → in_order l rest ≡ true → in_order l (cond t (v ∷ rest) rest) ≡ true
    go true h = ap₂ (λ (a b : Bool). a && b) first h
    go false h = h

pub members-in_order : (l : List Step) (n kept : ℕ) → in_order l (members n kept) ≡ true
unfolding members
members-in_order l n kept = order_from l n 0 kept
