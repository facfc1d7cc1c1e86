-- The members of a mask as a list of entries: they rise, stay below the width, and are as many as the mask has.
-- Assumes nothing.
use mathlib.Core.Path.{◌≡◌, refl, sym, ap, ap₂, ◌∙◌}
use mathlib.Core.Bool.{Bool, true, false, cond, ◌&&◌, false≢true}
use mathlib.Core.List.{List, [], ◌∷◌}
use Prim.Native.Nat.{ℕ, zero, suc, ◌+◌, ◌^◌, ◌≤◌, ◌<◌}
use native.Mathlib.Omega.{arith}
use lib.Dec.{eqb, ltb, leb}
use lib.ListN.{length}
use lib.Bits.{and_comm, and_zero_l}
use borrow.Author.Tests.{eq-eqb, ne_eqb, eqb-true, eqb-false, lt-ltb, le-ltb, ltb-true, le-leb}
use Rattle.mask.specs.Mask.{has, below, within, members_from, members, count}
use Rattle.mask.proofs.Laws.{has-below, within_all, all-within}
use Rattle.mask.proofs.Truth.{both, bool-ext}
use Rattle.mask.proofs.Sets.{has_width}
use Rattle.facts.specs.Forms.{all_below, rising, list_fits}

pub rising-members : (k v low m : ℕ) → low ≤ v → rising low (members_from v k m) ≡ true
unfolding members_from rising
rising-members zero v low m h = refl
rising-members (suc k) v low m h = go (has m v) (rising-members k (suc v) (suc v) m (omega arith))
    (rising-members k (suc v) low m (omega arith))
  where
    go : (t : Bool) → rising (suc v) (members_from (suc v) k m) ≡ true → rising low (members_from (suc v) k m) ≡ true
        → rising low (cond t (v ∷ members_from (suc v) k m) (members_from (suc v) k m)) ≡ true
    go true p q = ap₂ (λ (x y : Bool). x && y) (le-leb low v h) p
    go false p q = q

-- entries below a bound, from a rule of the mask
below-members : (k v m n : ℕ) → ((u : ℕ) → v ≤ u → u < v + k → has m u ≡ true → u < n)
    → all_below n (members_from v k m) ≡ true
unfolding members_from all_below
below-members zero v m n h = refl
below-members (suc k) v m n h = go (has m v) refl
    (below-members k (suc v) m n (λ u a b e. h u (omega arith) (omega arith) e))
  where
    go : (t : Bool) → has m v ≡ t → all_below n (members_from (suc v) k m) ≡ true
        → all_below n (cond t (v ∷ members_from (suc v) k m) (members_from (suc v) k m)) ≡ true
    go true e p = ap₂ (λ (x y : Bool). x && y) (lt-ltb v n (h v (omega arith) (omega arith) e)) p
    go false e p = p

members-below : (k v m n u : ℕ) → all_below n (members_from v k m) ≡ true → v ≤ u → u < v + k → has m u ≡ true → u < n
unfolding members_from all_below
members-below zero v m n u h a b e = absurd (omega arith)
members-below (suc k) v m n u h a b e = go (has m v) refl (eqb u v) refl h (members-below k (suc v) m n u)
  where
    go : (t : Bool) → has m v ≡ t → (x : Bool) → eqb u v ≡ x
        → all_below n (cond t (v ∷ members_from (suc v) k m) (members_from (suc v) k m)) ≡ true
        → (all_below n (members_from (suc v) k m) ≡ true → suc v ≤ u → u < suc v + k → has m u ≡ true → u < n) → u < n
    go true p true q r ih = let same : u ≡ v = eqb-true u v q in omega (arith, ltb-true v n (both (ltb v n) _ r).0)
    go true p false q r ih = ih (both (ltb v n) _ r).1 (above q) (omega arith) e
      where
        above : eqb u v ≡ false → suc v ≤ u
        above z = let far : (u ≡ v) → ⊥ = eqb-false u v z in omega arith
    go false p true q r ih = absurd (false≢true (sym p ∙ ap (has m) (sym (eqb-true u v q)) ∙ e))
    go false p false q r ih = ih r (above q) (omega arith) e
      where
        above : eqb u v ≡ false → suc v ≤ u
        above z = let far : (u ≡ v) → ⊥ = eqb-false u v z in omega arith

pub all-below-width : (w m : ℕ) → all_below w (members w m) ≡ true
unfolding members
all-below-width w m = below-members w 0 m w (λ u a b e. omega arith)

pub below-is : (w m n : ℕ) → m < 2 ^ w → all_below n (members w m) ≡ within m (below n)
unfolding members
below-is w m n h =
    bool-ext (all_below n (members_from 0 w m)) (within m (below n))
    (λ e. all-within m (below n) (λ u p. has-below n u
    ∙ lt-ltb u n (members-below w 0 m n u e (omega arith) (omega (arith, has_width w m u h p)) p)))
    (λ e. below-members w 0 m n (λ u a b p. ltb-true u n (sym (has-below n u) ∙ within_all m (below n) e u p)))

-- no member: no entry
none_below : (l : List ℕ) → eqb (length l) 0 ≡ all_below 0 l
unfolding all_below
none_below [] = refl
none_below (v ∷ l) = ne_eqb (suc (length l)) 0 (omega arith)
    ∙ sym (ap (λ (t : Bool). t && all_below 0 l) (le-ltb v 0 (omega arith)))

pub none_is : (w m : ℕ) → m < 2 ^ w → eqb (length (members w m)) 0 ≡ eqb m 0
none_is w m h = none_below (members w m) ∙ below-is w m 0 h ∙ ap (λ (n : ℕ). eqb n m) (and_comm m 0 ∙ and_zero_l m)
    ∙ turn (eqb m 0) refl
  where
    turn : (t : Bool) → eqb m 0 ≡ t → eqb 0 m ≡ t
    turn true e = eq-eqb 0 m (sym (eqb-true m 0 e))
    turn false e = ne_eqb 0 m (λ z. eqb-false m 0 e (sym z))

pub fits-is : (w m : ℕ) → list_fits (members w m) ≡ leb (count w m) 8
unfolding list_fits count members
fits-is w m = ap (λ (t : Bool). leb (length (members_from 0 w m)) 8 && t) (rising-members w 0 0 m (omega arith))
    ∙ right (leb (length (members_from 0 w m)) 8)
  where
    right : (x : Bool) → (x && true) ≡ x
    right true = refl
    right false = refl
