-- Rows in turn: one that passes is left out, and one that refuses is the answer. A refusal has its own number, which is
-- not 0, so an answer 0 says that every row passed.
use mathlib.Core.Path.{◌≡◌, refl, sym, ap, ◌∙◌}
use mathlib.Core.Bool.{Bool, true, false, cond}
use mathlib.Core.List.{List, [], ◌∷◌, ◌++◌}
use Prim.Native.Nat.{ℕ}
use lib.Dec.{eqb}
use borrow.Author.Tests.{eqb-true, eqb-false, eq-eqb}
use Rattle.refusal.specs.Rows.{pass, refuse, unless, first}
use Rattle.refusal.specs.declared.Outcome.{Outcome}

pub row-passes : (t : Bool) (n k : ℕ) (l : List Outcome) → t ≡ true → first (unless t n k ∷ l) ≡ first l
unfolding first unless
row-passes t n k l e = ap (λ (x : Bool). first (unless x n k ∷ l)) e

pub row-refuses : (t : Bool) (n k : ℕ) (l : List Outcome) → t ≡ false → eqb n 0 ≡ false
    → first (unless t n k ∷ l) ≡ refuse n k
unfolding first unless
row-refuses t n k l e z = ap (λ (x : Bool). first (unless x n k ∷ l)) e
    ∙ ap (λ (x : Bool). cond x (first l) (refuse n k)) z

-- one row alone
pub first-unless : (t : Bool) (n k : ℕ) → eqb n 0 ≡ false → first (unless t n k ∷ []) ≡ unless t n k
unfolding first unless
first-unless true n k z = refl
first-unless false n k z = ap (λ (x : Bool). cond x pass (refuse n k)) z

pub rows_end : first [] ≡ pass
unfolding first
rows_end = refl

-- a list of rows that pass, and then others
pub rows_pass : (a b : List Outcome) → eqb (first a).number 0 ≡ true → first (a ++ b) ≡ first b
unfolding first
rows_pass [] b e = refl
rows_pass (o ∷ a) b e = go (eqb o.number 0) refl e (rows_pass a b)
  where
    go : (t : Bool) → eqb o.number 0 ≡ t → eqb (cond t (first a) o).number 0 ≡ true
        → (eqb (first a).number 0 ≡ true → first (a ++ b) ≡ first b) → cond t (first (a ++ b)) o ≡ first b
    go true p q ih = ih q
    go false p q ih = cc

-- a list with a row that refuses, whatever follows
pub rows-refuse : (a b : List Outcome) → eqb (first a).number 0 ≡ false → first (a ++ b) ≡ first a
unfolding first
rows-refuse [] b e = cc
rows-refuse (o ∷ a) b e = go (eqb o.number 0) refl e (rows-refuse a b)
  where
    go : (t : Bool) → eqb o.number 0 ≡ t → eqb (cond t (first a) o).number 0 ≡ false
        → (eqb (first a).number 0 ≡ false → first (a ++ b) ≡ first a) → cond t (first (a ++ b)) o ≡ cond t (first a) o
    go true p q ih = ih q
    go false p q ih = refl

-- the first of several rows, of which one is known
pub head-refuses : (o : Outcome) (l : List Outcome) → eqb o.number 0 ≡ false → first (o ∷ l) ≡ o
unfolding first
head-refuses o l e = ap (λ (t : Bool). cond t (first l) o) e

pub head-passes : (o : Outcome) (l : List Outcome) → eqb o.number 0 ≡ true → first (o ∷ l) ≡ first l
unfolding first
head-passes o l e = ap (λ (t : Bool). cond t (first l) o) e

-- what follows where nothing is refused
pub head_passed : (o : Outcome) (l : List Outcome) → eqb (first (o ∷ l)).number 0 ≡ true
    → (eqb o.number 0 ≡ true) × (eqb (first l).number 0 ≡ true)
unfolding first
head_passed o l e = go (eqb o.number 0) refl e
  where
    go : (t : Bool) → eqb o.number 0 ≡ t → eqb (cond t (first l) o).number 0 ≡ true
        → (t ≡ true) × (eqb (first l).number 0 ≡ true)
    go true p q = (refl, q)
    go false p q = (sym p ∙ q, cc)

pub unless-elim : (t : Bool) (n k : ℕ) → eqb n 0 ≡ false → eqb (unless t n k).number 0 ≡ true → t ≡ true
unfolding unless
unless-elim true n k z e = refl
unless-elim false n k z e = sym z ∙ e

pub row-passed : (t : Bool) (n k : ℕ) (l : List Outcome) → eqb n 0 ≡ false
    → eqb (first (unless t n k ∷ l)).number 0 ≡ true → (t ≡ true) × (eqb (first l).number 0 ≡ true)
row-passed t n k l z e = let (own, rest) = head_passed (unless t n k) l e in (unless-elim t n k z own, rest)

pub rows-passed : (a b : List Outcome) → eqb (first (a ++ b)).number 0 ≡ true
    → (eqb (first a).number 0 ≡ true) × (eqb (first b).number 0 ≡ true)
rows-passed a b e = go (eqb (first a).number 0) refl
  where
    go : (t : Bool) → eqb (first a).number 0 ≡ t → (t ≡ true) × (eqb (first b).number 0 ≡ true)
    go true p = (refl, ap (λ (o : Outcome). eqb o.number 0) (sym (rows_pass a b p)) ∙ e)
    go false p = let z : false ≡ true = sym p ∙ ap (λ (o : Outcome). eqb o.number 0) (sym (rows-refuse a b p))
        ∙ e in (z, cc)

-- rows that pass say 0 and 0, so that a first refusal is its own
pub first-clean : (l : List Outcome) → eqb (first l).number 0 ≡ true → first l ≡ pass
unfolding first
first-clean [] e = refl
first-clean (o ∷ l) e = go (eqb o.number 0) refl e (first-clean l)
  where
    go : (t : Bool) → eqb o.number 0 ≡ t → eqb (cond t (first l) o).number 0 ≡ true
        → (eqb (first l).number 0 ≡ true → first l ≡ pass) → cond t (first l) o ≡ pass
    go true p q ih = ih q
    go false p q ih = cc

pub first_alone : (l : List Outcome) → first (first l ∷ []) ≡ first l
first_alone l = go (eqb (first l).number 0) refl
  where
    go : (t : Bool) → eqb (first l).number 0 ≡ t → first (first l ∷ []) ≡ first l
    go true p = head-passes (first l) [] p ∙ rows_end ∙ sym (first-clean l p)
    go false p = head-refuses (first l) [] p

-- an answer a unless n refuses, with the answer b
pub cond-zero : {R : Type 0} (n : ℕ) (a b : R) → n ≡ 0 → cond (eqb n 0) a b ≡ a
cond-zero n a b e = rw (eq-eqb n 0 e)

pub cond-zero-elim : {R : Type 0} (number : R → ℕ) (n : ℕ) (a b : R) → number b ≡ n → number (cond (eqb n 0) a b) ≡ 0
    → (n ≡ 0) × (cond (eqb n 0) a b ≡ a)
cond-zero-elim {R} number n a b own e = go (eqb n 0) refl e
  where
    go : (t : Bool) → eqb n 0 ≡ t → number (cond t a b) ≡ 0 → (n ≡ 0) × (cond t a b ≡ a)
    go true h e = (eqb-true n 0 h, refl)
    go false h e = absurd (eqb-false n 0 h (sym own ∙ e))

-- what holds of 0 and of each row's number holds of the answer's
pub unless-number : (P : ℕ → Type 0) (t : Bool) (n k : ℕ) → P 0 → P n → P (unless t n k).number
unfolding unless
unless-number P true n k z p = z
unless-number P false n k z p = p

pub first-number : (P : ℕ → Type 0) (o : Outcome) (l : List Outcome) → P o.number → P (first l).number
    → P (first (o ∷ l)).number
unfolding first
first-number P o l p q = go (eqb o.number 0)
  where
    go : (t : Bool) → P (cond t (first l) o).number
    go true = q
    go false = p

pub append-number : (P : ℕ → Type 0) (a b : List Outcome) → P (first a).number → P (first b).number
    → P (first (a ++ b)).number
unfolding first
append-number P [] b p q = q
append-number P (o ∷ a) b p q = go (eqb o.number 0) p (λ p. append-number P a b p q)
  where
    go : (t : Bool) → P (cond t (first a) o).number → (P (first a).number → P (first (a ++ b)).number)
        → P (cond t (first (a ++ b)) o).number
    go true p ih = ih p
    go false p ih = p

pub unless-no : (t : Bool) (n k : ℕ) → t ≡ false → unless t n k ≡ refuse n k
unfolding unless
unless-no t n k e = ap (λ (x : Bool). cond x pass (refuse n k)) e

pub unless-yes : (t : Bool) (n k : ℕ) → t ≡ true → unless t n k ≡ pass
unfolding unless
unless-yes t n k e = ap (λ (x : Bool). cond x pass (refuse n k)) e

-- a row that refuses, after any others
pub ends-refused : (a : List Outcome) (k : ℕ) → eqb (first (a ++ (refuse 4 k ∷ []))).number 0 ≡ false
unfolding first
ends-refused [] k = refl
ends-refused (o ∷ a) k = go (eqb o.number 0) refl (ends-refused a k)
  where
    go : (t : Bool) → eqb o.number 0 ≡ t → eqb (first (a ++ (refuse 4 k ∷ []))).number 0 ≡ false
        → eqb (cond t (first (a ++ (refuse 4 k ∷ []))) o).number 0 ≡ false
    go true e h = h
    go false e h = e
