-- The texts of all in turn: what they are, and how long.
-- Assumes nothing.
use mathlib.Core.Path.{◌≡◌, refl, sym, ap, ap₂, ◌∙◌}
use mathlib.Core.List.{List, [], ◌∷◌, ◌++◌, map}
use Prim.Native.Nat.{ℕ, suc, ◌+◌}
use native.Mathlib.Omega.{arith}
use Rattle.emit.specs.Numbers.{entry, over}

over-same : (f g : ℕ → List ℕ) → ((x : ℕ) → f x ≡ g x) → (l : List ℕ) → over f l ≡ over g l
unfolding over
over-same f g e [] = refl
over-same f g e (x ∷ l) = ap₂ (λ (s t : List ℕ). s ++ t) (e x) (over-same f g e l)

pub over-map : (f : ℕ → List ℕ) (g : ℕ → ℕ) (l : List ℕ) → over f (map g l) ≡ over (λ (x : ℕ). f (g x)) l
unfolding over
over-map f g [] = refl
over-map f g (x ∷ l) = ap (λ (t : List ℕ). f (g x) ++ t) (over-map f g l)

-- entries numbered from 0, and from 1
pub from_zero : (l : List ℕ) → over (λ (v : ℕ). entry (0 + v)) l ≡ over entry l
from_zero l = over-same (λ (v : ℕ). entry (0 + v)) entry (λ x. let same : 0 + x ≡ x = omega arith in ap entry same) l

pub from_one : (l : List ℕ) → over (λ (v : ℕ). entry (1 + v)) l ≡ over entry (map suc l)
from_one l =
    over-same (λ (v : ℕ). entry (1 + v)) (λ (v : ℕ). entry (suc v))
    (λ x. let same : 1 + x ≡ suc x = omega arith in ap entry same) l
    ∙ sym (over-map entry suc l)
