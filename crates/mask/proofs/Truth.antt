-- Laws on truth values and tests, as code that tests in turn needs them.
-- Assumes nothing.
use mathlib.Core.Path.{◌≡◌, refl, sym, ap, ◌∙◌}
use mathlib.Core.Bool.{Bool, true, false, not, cond, ◌&&◌, ◌||◌}
use Prim.Native.Nat.{ℕ}
use lib.Dec.{eqb}
use borrow.Author.Tests.{eqb-true, eqb-false}

-- what follows of a test from either answer
pub split {ℓ} : (P : Bool → Type ℓ) (t : Bool) → (t ≡ true → P true) → (t ≡ false → P false) → P t
split P true h k = h refl
split P false h k = k refl

-- `t && u` in code: u where t holds, and else t
pub and_yes : {t u x y : Bool} → t ≡ x → t ≡ true → u ≡ y → u ≡ (x && y)
and_yes {y = y} p h q = q ∙ ap (λ (b : Bool). b && y) (sym h ∙ p)

pub and_no : {t x : Bool} (y : Bool) → t ≡ x → t ≡ false → t ≡ (x && y)
and_no y p h = h ∙ ap (λ (b : Bool). b && y) (sym h ∙ p)

-- the two sides of a conjunction
pub both : (x y : Bool) → (x && y) ≡ true → (x ≡ true) × (y ≡ true)
both true y e = (refl, e)
both false y e = (e, cc)

-- a disjunction, from what holds where its first side doesn't
pub or-then : (x y : Bool) → (x ≡ false → y ≡ true) → (x || y) ≡ true
or-then true y h = refl
or-then false y h = h refl

-- a disjunction that fails: its first side does
pub or-fails : (x y : Bool) → (x || y) ≡ false → x ≡ false
or-fails true y e = e
or-fails false y e = refl

-- x and not y fails: where x holds, y does
pub and-not-elim : (x y : Bool) → (x && not y) ≡ false → x ≡ true → y ≡ true
and-not-elim true true e h = refl
and-not-elim true false e h = sym e
and-not-elim false y e h = cc

-- two tests are equal where each gives the other
pub bool-ext : (x y : Bool) → (x ≡ true → y ≡ true) → (y ≡ true → x ≡ true) → x ≡ y
bool-ext true y f g = sym (f refl)
bool-ext false true f g = g refl
bool-ext false false f g = refl

-- a test in code: the answer where it holds, and else the other
module _ {A : Type 0} (x y : A) {t b : Bool} (is : t ≡ b) where
  pub cond_yes : t ≡ true → x ≡ cond b x y
  cond_yes h = ap (λ (u : Bool). cond u x y) (sym h ∙ is)

  pub cond_no : t ≡ false → y ≡ cond b x y
  cond_no h = ap (λ (u : Bool). cond u x y) (sym h ∙ is)

-- two numbers are the same or not
pub either : {P : Type 0} (a b : ℕ) → (a ≡ b → P) → ((a ≡ b → ⊥) → P) → P
either {P} a b same differ = split (λ (t : Bool). P) (eqb a b) (λ u. same (eqb-true a b u))
    (λ u. differ (eqb-false a b u))
