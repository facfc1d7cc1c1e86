-- The laws on bit masks, for any width. Each operation is known by its members (`has-…`), and a mask is known by its
-- members (`has-ext`), so that every further law is a table of truth values. Assumes nothing.
use mathlib.Core.Path.{◌≡◌, refl, sym, ap, ap₂, ◌∙◌}
use mathlib.Core.Logic.{◌⊎◌, inl, inr, ⊎_elim}
use mathlib.Core.Bool.{Bool, true, false, not, cond, ◌&&◌, ◌||◌, xor, and-true, and-false, or-false}
use mathlib.Core.List.{List, ◌∷◌}
use Prim.Native.Nat.{ℕ, zero, suc, ◌+◌, ◌-◌, ◌*◌, ◌^◌, ◌/◌, ◌%◌, ◌≤◌, ◌<◌}
use native.Mathlib.Nat.{mod-lt, pow-suc, zero-lt-suc, one-mul}
use native.Mathlib.Omega.{arith}
use native.Mathlib.Numerals.{add-one}
use lib.Dec.{eqb, ltb, eqb-zero-suc, eqb-suc-zero, eqb-suc-suc, leb-suc-suc, lit<}
use lib.ListN.{length}
use lib.Arith.{bin_ind}
use lib.Pow.{shr-shr, shl_exact, pow_pos}
use lib.Bits.{bit_and, bit_or, bit_xor, and_shr, or_shr, xor_shr, and_mod, or_mod, xor_mod, or_zero_r}
use lib.Count.{ones, ones_step}
use borrow.Author.Tests.{eqb-true, eqb-false, eq-eqb, ne_eqb, lt-ltb, le-ltb, not-true, not-false, ltb-true, ltb-false}
use Rattle.mask.proofs.Truth.{both}
use Rattle.mask.specs.Mask.{has, bit, below, without, within, meets, members_from, members, count, collect}

-- ---- a mask's lowest bit and its other bits

parity : (n : ℕ) → (n % 2 ≡ 0) ⊎ (n % 2 ≡ 1)
parity n = go (n % 2) (mod-lt n (zero-lt-suc 1))
  where
    go : (r : ℕ) → r < 2 → (r ≡ 0) ⊎ (r ≡ 1)
    go zero h = inl refl
    go (suc zero) h = inr refl
    go (suc (suc r)) h = absurd (omega arith)

pub has-half : (m v : ℕ) → has (m / 2) v ≡ has m (suc v)
unfolding has
has-half m v = ap (λ (n : ℕ). eqb (n % 2) 1) (shr-shr m 1 v ∙ ap (λ (k : ℕ). m / 2 ^ k) (omega arith))

pub has-low : (m : ℕ) → has m 0 ≡ eqb (m % 2) 1
unfolding has
has-low m = let one : m / 2 ^ 0 ≡ m = omega arith in ap (λ (n : ℕ). eqb (n % 2) 1) one

pub has-zero : (v : ℕ) → has 0 v ≡ false
has-zero zero = has-low 0
has-zero (suc v) = sym (has-half 0 v) ∙ has-zero v

-- ---- extensionality

no_bits : (m : ℕ) → ((v : ℕ) → has m v ≡ false) → m ≡ 0
no_bits = bin_ind (λ (m : ℕ). ((v : ℕ) → has m v ≡ false) → m ≡ 0) (λ h. refl) step
  where
    step : (n : ℕ) → (((v : ℕ) → has (n / 2) v ≡ false) → n / 2 ≡ 0) → ((v : ℕ) → has n v ≡ false) → n ≡ 0
    step n ih h =
        let half : n / 2 ≡ 0 = ih (λ v. has-half n v ∙ h (suc v)) in
        let low : (n % 2 ≡ 1) → ⊥ = eqb-false (n % 2) 1 (sym (has-low n) ∙ h 0) in
        omega arith

-- masks with the same members are equal
pub has-ext : (a b : ℕ) → ((v : ℕ) → has a v ≡ has b v) → a ≡ b
has-ext = bin_ind (λ (a : ℕ). (b : ℕ) → ((v : ℕ) → has a v ≡ has b v) → a ≡ b)
    (λ b h. sym (no_bits b (λ v. sym (h v) ∙ has-zero v))) step
  where
    same : (a b : ℕ) → eqb (a % 2) 1 ≡ eqb (b % 2) 1 → (a % 2 ≡ 0) ⊎ (a % 2 ≡ 1) → (b % 2 ≡ 0) ⊎ (b % 2 ≡ 1)
        → a % 2 ≡ b % 2
    same a b e (inl p) (inl q) = p ∙ sym q
    same a b e (inr p) (inr q) = p ∙ sym q
    same a b e (inl p) (inr q) = let z : eqb 0 1 ≡ eqb 1 1 = rw (p, q) at e in absurd (eqb-false 1 1 (sym z) refl)
    same a b e (inr p) (inl q) = let z : eqb 1 1 ≡ eqb 0 1 = rw (p, q) at e in absurd (eqb-false 1 1 z refl)

    step : (a : ℕ) → ((b : ℕ) → ((v : ℕ) → has (a / 2) v ≡ has b v) → a / 2 ≡ b) → (b : ℕ)
        → ((v : ℕ) → has a v ≡ has b v) → a ≡ b
    step a ih b h =
        let half : a / 2 ≡ b / 2 = ih (b / 2) (λ v. has-half a v ∙ h (suc v) ∙ sym (has-half b v)) in
        let low : a % 2 ≡ b % 2 = same a b (sym (has-low a) ∙ h 0 ∙ has-low b) (parity a) (parity b) in
        omega arith

-- ---- the operations by their members

-- an operation that acts on each bit alone, by its table at 0 and 1
by-table : (op : ℕ → ℕ → ℕ) (f : Bool → Bool → Bool) → ((a b k : ℕ) → op a b / 2 ^ k ≡ op (a / 2 ^ k) (b / 2 ^ k))
    → ((a b k : ℕ) → op a b % 2 ^ k ≡ op (a % 2 ^ k) (b % 2 ^ k)) → eqb (op 0 0) 1 ≡ f false false
    → eqb (op 0 1) 1 ≡ f false true → eqb (op 1 0) 1 ≡ f true false → eqb (op 1 1) 1 ≡ f true true → (a b v : ℕ)
    → has (op a b) v ≡ f (has a v) (has b v)
unfolding has
by-table op f shr rem t00 t01 t10 t11 a b v = ap (λ (n : ℕ). eqb n 1)
    (ap (λ (n : ℕ). n % 2) (shr a b v) ∙ rem (a / 2 ^ v) (b / 2 ^ v) 1)
    ∙ go (a / 2 ^ v % 2) (b / 2 ^ v % 2) (parity (a / 2 ^ v)) (parity (b / 2 ^ v))
  where
    go : (x y : ℕ) → (x ≡ 0) ⊎ (x ≡ 1) → (y ≡ 0) ⊎ (y ≡ 1) → eqb (op x y) 1 ≡ f (eqb x 1) (eqb y 1)
    go x y (inl p) (inl q) = rw (p, q) t00
    go x y (inl p) (inr q) = rw (p, q) t01
    go x y (inr p) (inl q) = rw (p, q) t10
    go x y (inr p) (inr q) = rw (p, q) t11

pub has-and : (a b v : ℕ) → has (bit_and a b) v ≡ (has a v && has b v)
has-and = by-table bit_and (λ x y. x && y) and_shr and_mod refl refl refl refl

pub has-or : (a b v : ℕ) → has (bit_or a b) v ≡ (has a v || has b v)
has-or = by-table bit_or (λ x y. x || y) or_shr or_mod refl refl refl refl

pub has-xor : (a b v : ℕ) → has (bit_xor a b) v ≡ xor (has a v) (has b v)
unfolding xor
has-xor = by-table bit_xor (λ x y. xor x y) xor_shr xor_mod refl refl refl refl

pub has-without : (a b v : ℕ) → has (without a b) v ≡ (has a v && not (has b v))
unfolding xor
has-without a b v = has-xor a (bit_and a b) v ∙ ap (λ (t : Bool). xor (has a v) t) (has-and a b v)
    ∙ table (has a v) (has b v)
  where
    table : (x y : Bool) → xor x (x && y) ≡ (x && not y)
    table true true = refl
    table true false = refl
    table false true = refl
    table false false = refl

-- the bit k, by halving both: only the lowest bit of 2 ^ 0 is set
pub has-bit : (k v : ℕ) → has (bit k) v ≡ eqb v k
has-bit zero zero = has-low 1
has-bit zero (suc v) = sym (has-half 1 v) ∙ has-zero v ∙ sym (eqb-suc-zero v)
has-bit (suc k) zero = has-low (2 ^ suc k) ∙ ne_eqb (2 ^ suc k % 2) 1 (λ e. even (2 ^ k) (2 ^ suc k) (pow-suc 2 k) e)
    ∙ sym (eqb-zero-suc k)
  where
    even : (h n : ℕ) → n ≡ h * 2 → n % 2 ≡ 1 → ⊥
    even h n p e = omega arith
has-bit (suc k) (suc v) = sym (has-half (2 ^ suc k) v)
    ∙ ap (λ (n : ℕ). has n v) (halved (2 ^ k) (2 ^ suc k) (pow-suc 2 k)) ∙ has-bit k v ∙ sym (eqb-suc-suc v k)
  where
    halved : (h n : ℕ) → n ≡ h * 2 → n / 2 ≡ h
    halved h n p = omega arith

pub has-below : (n v : ℕ) → has (below n) v ≡ ltb v n
has-below zero v = has-zero v ∙ sym (le-ltb v 0 (omega arith))
has-below (suc n) zero = has-low (2 ^ suc n - 1) ∙ eq-eqb ((2 ^ suc n - 1) % 2) 1
    (odd (2 ^ n) (2 ^ suc n) (pow-suc 2 n) (pow_pos n)) ∙ sym (lt-ltb 0 (suc n) (omega arith))
  where
    odd : (h m : ℕ) → m ≡ h * 2 → 0 < h → (m - 1) % 2 ≡ 1
    odd h m p q = omega arith
has-below (suc n) (suc v) = sym (has-half (2 ^ suc n - 1) v)
    ∙ ap (λ (m : ℕ). has m v) (halved (2 ^ n) (2 ^ suc n) (pow-suc 2 n) (pow_pos n)) ∙ has-below n v
    ∙ sym (leb-suc-suc (suc v) n)
  where
    halved : (h m : ℕ) → m ≡ h * 2 → 0 < h → (m - 1) / 2 ≡ h - 1
    halved h m p q = omega arith

-- a 1 that is shifted within its width
pub one_shifted : (w k : ℕ) → k < w → 1 * 2 ^ k % 2 ^ w ≡ bit k
one_shifted w k h = shl_exact 1 k w (lit< tt) (omega arith) ∙ one-mul (2 ^ k)

-- ---- all of a in b

pub within_all : (a b : ℕ) → within a b ≡ true → (v : ℕ) → has a v ≡ true → has b v ≡ true
within_all a b h v ha = table (has a v) (has b v)
    (sym (has-and a b v) ∙ ap (λ (n : ℕ). has n v) (eqb-true (bit_and a b) a h)) ha
  where
    table : (x y : Bool) → (x && y) ≡ x → x ≡ true → y ≡ true
    table true y e t = e
    table false y e t = cc

pub all-within : (a b : ℕ) → ((v : ℕ) → has a v ≡ true → has b v ≡ true) → within a b ≡ true
all-within a b h = eq-eqb (bit_and a b) a (has-ext (bit_and a b) a (λ v. has-and a b v ∙ table (has a v) (has b v) (h v)))
  where
    table : (x y : Bool) → (x ≡ true → y ≡ true) → (x && y) ≡ x
    table true y k = k refl
    table false y k = refl

-- ---- a meets b

-- a mask that is not 0 has a member
pub member_of : (m : ℕ) → (m ≡ 0 → ⊥) → (v : ℕ) × (has m v ≡ true)
member_of = bin_ind (λ (m : ℕ). (m ≡ 0 → ⊥) → (v : ℕ) × (has m v ≡ true)) (λ h. absurd (h refl)) step
  where
    up : (n : ℕ) → (v : ℕ) × (has (n / 2) v ≡ true) → (v : ℕ) × (has n v ≡ true)
    up n found = (suc found.0, sym (has-half n found.0) ∙ found.1)

    step : (n : ℕ) → ((n / 2 ≡ 0 → ⊥) → (v : ℕ) × (has (n / 2) v ≡ true)) → (n ≡ 0 → ⊥) → (v : ℕ) × (has n v ≡ true)
    step n ih h = ⊎_elim (λ e. up n (ih (λ z. h (omega arith)))) (λ o. (0, has-low n ∙ eq-eqb (n % 2) 1 o)) (parity n)

pub meets-some : (a b : ℕ) → meets a b ≡ true → (v : ℕ) × (has a v ≡ true) × (has b v ≡ true)
meets-some a b h = go (member_of (bit_and a b) (eqb-false (bit_and a b) 0 (not-true (eqb (bit_and a b) 0) h)))
  where
    go : (v : ℕ) × (has (bit_and a b) v ≡ true) → (v : ℕ) × (has a v ≡ true) × (has b v ≡ true)
    go found =
        let sides = both (has a found.0) (has b found.0) (sym (has-and a b found.0) ∙ found.1) in
        (found.0, sides.0, sides.1)

pub meets-none : (a b : ℕ) → meets a b ≡ false → (v : ℕ) → (has a v && has b v) ≡ false
meets-none a b h v = sym (has-and a b v) ∙ ap (λ (n : ℕ). has n v)
    (eqb-true (bit_and a b) 0 (not-false (eqb (bit_and a b) 0) h)) ∙ has-zero v

pub some-meets : (a b v : ℕ) → has a v ≡ true → has b v ≡ true → meets a b ≡ true
some-meets a b v ha hb = go (meets a b) refl
  where
    go : (t : Bool) → meets a b ≡ t → t ≡ true
    go true e = refl
    go false e = let z : (has a v && has b v) ≡ false = meets-none a b e v in sym z ∙ ap₂ (λ (x y : Bool). x && y) ha hb

-- to meet the set of v alone is to hold v
pub meets_bit : (m v : ℕ) → meets m (bit v) ≡ has m v
meets_bit m v = go (has m v) refl
  where
    at : (u : ℕ) → has m v ≡ false → (has m u && eqb u v) ≡ false
    at u e = table (eqb u v) refl
      where
        table : (t : Bool) → eqb u v ≡ t → (has m u && t) ≡ false
        table true s = and-true (has m u) ∙ ap (has m) (eqb-true u v s) ∙ e
        table false s = and-false (has m u)

    go : (t : Bool) → has m v ≡ t → meets m (bit v) ≡ t
    go true e = some-meets m (bit v) v e (has-bit v v ∙ eq-eqb v v refl)
    go false e = ap (λ (n : ℕ). not (eqb n 0)) (has-ext (bit_and m (bit v)) 0
        (λ u. has-and m (bit v) u ∙ ap (λ (t : Bool). has m u && t) (has-bit v u) ∙ at u e ∙ sym (has-zero u)))

pub meets-or : (a b c : ℕ) → meets a (bit_or b c) ≡ (meets a b || meets a c)
meets-or a b c = go (meets a b) refl
  where
    none : (x : Bool) (v : ℕ) → meets a b ≡ false → (has a v && (has b v || x)) ≡ (has a v && x)
    none x v e = table (has a v) (has b v) x (meets-none a b e v)
      where
        table : (p q x : Bool) → (p && q) ≡ false → (p && (q || x)) ≡ (p && x)
        table true true x e = cc
        table true false x e = refl
        table false q x e = refl

    go : (t : Bool) → meets a b ≡ t → meets a (bit_or b c) ≡ (t || meets a c)
    go true e = let (v, ha, hb) = meets-some a b e in some-meets a (bit_or b c) v ha
        (has-or b c v ∙ ap (λ (t : Bool). t || has c v) hb)
    go false e =
        ap (λ (x : ℕ). not (eqb x 0))
        (has-ext (bit_and a (bit_or b c)) (bit_and a c)
        (λ v. has-and a (bit_or b c) v ∙ ap (λ (t : Bool). has a v && t) (has-or b c v) ∙ none (has c v) v e
        ∙ sym (has-and a c v)))

-- ---- laws of the operations, as tables

pub or_assoc : (a b c : ℕ) → bit_or (bit_or a b) c ≡ bit_or a (bit_or b c)
or_assoc a b c = has-ext (bit_or (bit_or a b) c) (bit_or a (bit_or b c))
    (λ v. has-or (bit_or a b) c v ∙ ap (λ (t : Bool). t || has c v) (has-or a b v) ∙ table (has a v) (has b v) (has c v)
    ∙ ap (λ (t : Bool). has a v || t) (sym (has-or b c v)) ∙ sym (has-or a (bit_or b c) v))
  where
    table : (x y z : Bool) → ((x || y) || z) ≡ (x || (y || z))
    table true y z = refl
    table false y z = refl

pub xor_assoc : (a b c : ℕ) → bit_xor (bit_xor a b) c ≡ bit_xor a (bit_xor b c)
unfolding xor
xor_assoc a b c = has-ext (bit_xor (bit_xor a b) c) (bit_xor a (bit_xor b c))
    (λ v. has-xor (bit_xor a b) c v ∙ ap (λ (t : Bool). xor t (has c v)) (has-xor a b v)
    ∙ table (has a v) (has b v) (has c v) ∙ ap (λ (t : Bool). xor (has a v) t) (sym (has-xor b c v))
    ∙ sym (has-xor a (bit_xor b c) v))
  where
    table : (x y z : Bool) → xor (xor x y) z ≡ xor x (xor y z)
    table true true true = refl
    table true true false = refl
    table true false true = refl
    table true false false = refl
    table false true true = refl
    table false true false = refl
    table false false true = refl
    table false false false = refl

-- ---- the set of those that pass a test

pub has-collect : (f : ℕ → Bool) (n v : ℕ) → has (collect f n) v ≡ (ltb v n && f v)
unfolding collect
has-collect f zero v = has-zero v ∙ ap (λ (t : Bool). t && f v) (sym (le-ltb v 0 (omega arith)))
has-collect f (suc n) v = has-or (collect f n) (cond (f n) (bit n) 0) v
    ∙ ap₂ (λ (x y : Bool). x || y) (has-collect f n v) (one (f n)) ∙ near (ltb v n) refl
  where
    one : (t : Bool) → has (cond t (bit n) 0) v ≡ (t && eqb v n)
    one true = has-bit n v
    one false = has-zero v

    here : (t : Bool) → eqb v n ≡ t → ltb v n ≡ false → (f n && t) ≡ (ltb v (suc n) && f v)
    here true e h =
        let v=n : v ≡ n = eqb-true v n e in
        and-true (f n) ∙ ap f (sym v=n) ∙ ap (λ (t : Bool). t && f v) (sym (lt-ltb v (suc n) (omega arith)))
    here false e h =
        let far : (v ≡ n) → ⊥ = eqb-false v n e in
        let above : n ≤ v = ltb-false v n h in
        and-false (f n) ∙ ap (λ (t : Bool). t && f v) (sym (le-ltb v (suc n) (omega arith)))

    near : (t : Bool) → ltb v n ≡ t → (t && f v || (f n && eqb v n)) ≡ (ltb v (suc n) && f v)
    near true h =
        let under : v < n = ltb-true v n h in
        ap (λ (t : Bool). f v || (f n && t)) (ne_eqb v n (omega arith)) ∙ ap (λ (t : Bool). f v || t) (and-false (f n))
        ∙ or-false (f v) ∙ ap (λ (t : Bool). t && f v) (sym (lt-ltb v (suc n) (omega arith)))
    near false h = here (eqb v n) refl h

-- one more is looked at
pub collect-hit : (f : ℕ → Bool) (n m : ℕ) → m ≡ collect f n → f n ≡ true → bit_or m (bit n) ≡ collect f (n + 1)
unfolding collect
collect-hit f n m e t = ap₂ (λ (x : ℕ) (b : Bool). bit_or x (cond b (bit n) 0)) e (sym t)
    ∙ ap (collect f) (sym (add-one n))

pub collect-miss : (f : ℕ → Bool) (n m : ℕ) → m ≡ collect f n → f n ≡ false → m ≡ collect f (n + 1)
unfolding collect
collect-miss f n m e t = sym (or_zero_r m) ∙ ap₂ (λ (x : ℕ) (b : Bool). bit_or x (cond b (bit n) 0)) e (sym t)
    ∙ ap (collect f) (sym (add-one n))

pub collect-none : (f : ℕ → Bool) (n : ℕ) → ((v : ℕ) → v < n → f v ≡ false) → collect f n ≡ 0
unfolding collect
collect-none f zero e = refl
collect-none f (suc n) e = ap₂ (λ (m : ℕ) (t : Bool). bit_or m (cond t (bit n) 0))
    (collect-none f n (λ v h. e v (omega arith))) (e n (omega arith))

-- a test matters only below n
pub collect-same : (f g : ℕ → Bool) (n : ℕ) → ((v : ℕ) → v < n → f v ≡ g v) → collect f n ≡ collect g n
unfolding collect
collect-same f g zero e = refl
collect-same f g (suc n) e = ap₂ (λ (m : ℕ) (t : Bool). bit_or m (cond t (bit n) 0))
    (collect-same f g n (λ v h. e v (omega arith))) (e n (omega arith))

-- ---- the members in turn, and their number

length-cond : (t : Bool) (v : ℕ) (l : List ℕ) → length (cond t (v ∷ l) l) ≡ cond t 1 0 + length l
length-cond true v l = omega arith
length-cond false v l = omega arith

length-half : (k v m : ℕ) → length (members_from (suc v) k m) ≡ length (members_from v k (m / 2))
unfolding members_from
length-half zero v m = refl
length-half (suc k) v m =
    length-cond (has m (suc v)) (suc v) (members_from (suc (suc v)) k m)
    ∙ ap₂ (λ (t : Bool) (n : ℕ). cond t 1 0 + n) (sym (has-half m v)) (length-half k (suc v) m)
    ∙ sym (length-cond (has (m / 2) v) v (members_from (suc v) k (m / 2)))

low_digit : (m : ℕ) → cond (has m 0) 1 0 ≡ m % 2
low_digit m = ap (λ (t : Bool). cond t 1 0) (has-low m) ∙ ⊎_elim (λ e. rw e) (λ o. rw o) (parity m)

-- a mask of w bits has as many members below w as set digits
pub count_ones : (w m : ℕ) → m < 2 ^ w → count w m ≡ ones m
unfolding count members members_from ones
count_ones zero m h = let z : 0 ≡ m = omega arith in ap ones z
count_ones (suc w) m h =
    length-cond (has m 0) 0 (members_from 1 w m)
    ∙ ap₂ (λ (x y : ℕ). x + y) (low_digit m) (length-half w 0 m
    ∙ count_ones w (m / 2) (halved (2 ^ w) (2 ^ suc w) (pow-suc 2 w) h))
    ∙ sym (ones_step m)
  where
    halved : (p q : ℕ) → q ≡ p * 2 → m < q → m / 2 < p
    halved p q e k = omega arith
