-- Masks and entries undo each other: the mask of a mask's members is the mask, and the members of the mask of a rising
-- list are the list. Assumes nothing.
use mathlib.Core.Path.{◌≡◌, refl, sym, ap, ap₂, ◌∙◌}
use mathlib.Core.Bool.{Bool, true, false, cond, ◌&&◌, ◌||◌}
use mathlib.Core.List.{List, [], ◌∷◌}
use Prim.Native.Nat.{ℕ, zero, suc, ◌+◌, ◌^◌, ◌≤◌, ◌<◌}
use native.Mathlib.Omega.{arith}
use lib.Dec.{eqb, ltb, leb}
use lib.Bits.{bit_or, or_lt}
use lib.Pow.{pow-lt, pow_pos}
use borrow.Author.Tests.{eq-eqb, ne_eqb, eqb-true, eqb-false, ltb-true, leb-true, le-leb}
use Rattle.mask.specs.Mask.{has, bit, members_from, members}
use Rattle.mask.proofs.Laws.{has-ext, has-zero, has-or, has-bit}
use Rattle.mask.proofs.Truth.{both, bool-ext}
use Rattle.mask.proofs.Sets.{has_width}
use Rattle.name_set.specs.Among.{among}
use Rattle.facts.specs.Forms.{all_below, rising, masked}
use Rattle.facts.proofs.Members.{all-below-width}

-- u is among the entries
has-masked : (w m : ℕ) (l : List ℕ) (u : ℕ) → all_below w l ≡ true → has (masked w m l) u ≡ (has m u || among u l)
unfolding masked among all_below
has-masked w m [] u h = sym (right (has m u))
  where
    right : (x : Bool) → (x || false) ≡ x
    right true = refl
    right false = refl
has-masked w m (v ∷ l) u h =
    has-masked w (bit_or m (cond (ltb v w) (bit v) 0)) l u (both (ltb v w) (all_below w l) h).1
    ∙ ap (λ (x : Bool). x || among u l) (has-or m (cond (ltb v w) (bit v) 0) u
    ∙ ap (λ (x : Bool). has m u || has (cond x (bit v) 0) u) (both (ltb v w) (all_below w l) h).0
    ∙ ap (λ (x : Bool). has m u || x) (has-bit v u ∙ turn (eqb v u) refl))
    ∙ assoc (has m u) (eqb v u) (among u l)
  where
    assoc : (x y z : Bool) → ((x || y) || z) ≡ (x || (y || z))
    assoc true y z = refl
    assoc false y z = refl

    turn : (t : Bool) → eqb v u ≡ t → eqb u v ≡ t
    turn true e = eq-eqb u v (sym (eqb-true v u e))
    turn false e = ne_eqb u v (λ z. eqb-false v u e (sym z))

-- a member in the range is an entry, and an entry is a member
member-among : (k v m u : ℕ) → has m u ≡ true → v ≤ u → u < v + k → among u (members_from v k m) ≡ true
unfolding members_from among
member-among zero v m u h a b = absurd (omega arith)
member-among (suc k) v m u h a b = go (has m v) refl (eqb v u) refl (member-among k (suc v) m u h)
  where
    on : eqb v u ≡ false → suc v ≤ u
    on e = let far : (v ≡ u) → ⊥ = eqb-false v u e in omega arith

    go : (t : Bool) → has m v ≡ t → (x : Bool) → eqb v u ≡ x
        → (suc v ≤ u → u < suc v + k → among u (members_from (suc v) k m) ≡ true)
        → among u (cond t (v ∷ members_from (suc v) k m) (members_from (suc v) k m)) ≡ true
    go true p true e ih = ap (λ (x : Bool). x || among u (members_from (suc v) k m)) e
    go true p false e ih = ap (λ (x : Bool). x || among u (members_from (suc v) k m)) e ∙ ih (on e) (omega (arith, on e))
    go false p true e ih = cc (ap (has m) (eqb-true v u e))
    go false p false e ih = ih (on e) (omega (arith, on e))

among-member : (k v m u : ℕ) → among u (members_from v k m) ≡ true → has m u ≡ true
unfolding members_from among
among-member zero v m u h = cc
among-member (suc k) v m u h = go (has m v) refl (eqb v u) refl h (among-member k (suc v) m u)
  where
    go : (t : Bool) → has m v ≡ t → (x : Bool) → eqb v u ≡ x
        → among u (cond t (v ∷ members_from (suc v) k m) (members_from (suc v) k m)) ≡ true
        → (among u (members_from (suc v) k m) ≡ true → has m u ≡ true) → has m u ≡ true
    go true p true e q ih = ap (has m) (sym (eqb-true v u e)) ∙ p
    go true p false e q ih = ih (ap (λ (x : Bool). x || among u (members_from (suc v) k m)) (sym e) ∙ q)
    go false p true e q ih = ih q
    go false p false e q ih = ih q

-- the mask of a mask's members
pub mask-members : (w m : ℕ) → m < 2 ^ w → masked w 0 (members w m) ≡ m
mask-members w m h =
    has-ext (masked w 0 (members w m)) m
    (λ u. has-masked w 0 (members w m) u (all-below-width w m)
    ∙ ap (λ (x : Bool). x || among u (members w m)) (has-zero u)
    ∙ bool-ext (among u (members w m)) (has m u) (unfold members in among-member w 0 m u)
    (λ e. unfold members in member-among w 0 m u e (omega arith) (omega (arith, has_width w m u h e))))

-- what lies below a rising list is not in it
none-under : (l : List ℕ) (low v : ℕ) → rising low l ≡ true → v < low → among v l ≡ false
unfolding rising among
none-under [] low v h b = refl
none-under (a ∷ l) low v h b =
    let parts = both (leb low a) (rising (suc a) l) h in
    let over : low ≤ a = leb-true low a parts.0 in
    ap₂ (λ (x y : Bool). x || y) (ne_eqb a v (omega arith)) (none-under l (suc a) v parts.1 (omega arith))

members-list : (k v m : ℕ) (l : List ℕ) → rising v l ≡ true → all_below (v + k) l ≡ true
    → ((u : ℕ) → v ≤ u → has m u ≡ among u l) → members_from v k m ≡ l
unfolding members_from rising all_below among
members-list zero v m [] up low same = refl
members-list zero v m (a ∷ l) up low same =
    absurd (omega (
      arith,
      leb-true v a (both (leb v a) (rising (suc a) l) up).0,
      ltb-true a (v + 0) (both (ltb a (v + 0)) (all_below (v + 0) l) low).0,
    ))
members-list (suc k) v m [] up low same = ap (λ (t : Bool).
    cond t (v ∷ members_from (suc v) k m) (members_from (suc v) k m)) (same v (omega arith))
    ∙ members-list k (suc v) m [] refl refl (λ u b. same u (omega arith))
members-list (suc k) v m (a ∷ l) up low same = go (eqb a v) refl (members-list k (suc v) m)
  where
    parts : (leb v a ≡ true) × (rising (suc a) l ≡ true)
    parts = both (leb v a) (rising (suc a) l) up

    lows : (ltb a (v + suc k) ≡ true) × (all_below (v + suc k) l ≡ true)
    lows = both (ltb a (v + suc k)) (all_below (v + suc k) l) low

    wider : v + suc k ≡ suc v + k
    wider = omega arith

    go : (t : Bool) → eqb a v ≡ t → ((q : List ℕ) → rising (suc v) q ≡ true → all_below (suc v + k) q ≡ true
        → ((u : ℕ) → suc v ≤ u → has m u ≡ among u q) → members_from (suc v) k m ≡ q)
        → cond (has m v) (v ∷ members_from (suc v) k m) (members_from (suc v) k m) ≡ a ∷ l
    go true e ih =
        let is : a ≡ v = eqb-true a v e in
        ap (λ (t : Bool). cond t (v ∷ members_from (suc v) k m) (members_from (suc v) k m))
        (same v (omega arith) ∙ ap (λ (x : Bool). x || among v l) e)
        ∙ ap₂ {C = List ℕ} (λ (x : ℕ) (y : List ℕ). x ∷ y) (sym is)
        (ih l (ap (λ (n : ℕ). rising (suc n) l) (sym is) ∙ parts.1)
        (ap (λ (n : ℕ). all_below n l) (sym wider) ∙ lows.1)
        (λ u b. same u (omega arith) ∙ ap (λ (x : Bool). x || among u l) (ne_eqb a u (omega arith))))
    go false e ih =
        let far : (a ≡ v) → ⊥ = eqb-false a v e in
        let over : v ≤ a = leb-true v a parts.0 in
        ap (λ (t : Bool). cond t (v ∷ members_from (suc v) k m) (members_from (suc v) k m))
        (same v (omega arith) ∙ ap₂ (λ (x y : Bool). x || y) e (none-under l (suc a) v parts.1 (omega arith)))
        ∙ ih (a ∷ l) (ap₂ (λ (x y : Bool). x && y) (le-leb (suc v) a (omega arith)) parts.1)
        (ap (λ (n : ℕ). ltb a n && all_below n l) (sym wider) ∙ low) (λ u b. same u (omega arith))

-- the members of the mask of a rising list
pub members-mask : (w : ℕ) (l : List ℕ) → rising 0 l ≡ true → all_below w l ≡ true → members w (masked w 0 l) ≡ l
unfolding members
members-mask w l up low = members-list w 0 (masked w 0 l) l up (ap (λ (n : ℕ). all_below n l) (omega arith) ∙ low)
    (λ u b. has-masked w 0 l u low ∙ ap (λ (x : Bool). x || among u l) (has-zero u))

-- a mask of entries below 32 has 32 bits
pub masked_below : (w m : ℕ) (l : List ℕ) → m < 2 ^ w → masked w m l < 2 ^ w
unfolding masked
masked_below w m [] h = h
masked_below w m (v ∷ l) h = masked_below w (bit_or m (cond (ltb v w) (bit v) 0)) l
    (or_lt w m (cond (ltb v w) (bit v) 0) h (one (ltb v w) refl))
  where
    one : (x : Bool) → ltb v w ≡ x → cond x (bit v) 0 < 2 ^ w
    one true p = pow-lt (ltb-true v w p)
    one false p = pow_pos w
