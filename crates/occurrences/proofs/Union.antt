-- What is in a union is in the mask of some step.
use mathlib.Core.Path.{◌≡◌, refl, sym, ap, ◌∙◌}
use mathlib.Core.Logic.{◌↔◌}
use mathlib.Core.Bool.{Bool, true, false, ◌||◌, or-true}
use mathlib.Core.List.{List, [], ◌∷◌}
use Prim.Native.Nat.{ℕ, zero, suc, ◌<◌}
use native.Mathlib.Omega.{arith}
use lib.ListN.{length, get_or}
use Rattle.mask.specs.Mask.{has}
use Rattle.mask.proofs.Laws.{has-or, has-zero}
use Rattle.route.specs.Steps.{blank, union}
use Rattle.route.specs.declared.Step.{Step}

module _ (f : Step → ℕ) (p : ℕ) where
  -- some step has it
  abbrev pub Some : List Step → Type 0
  Some l = (k : ℕ) × (k < length l) × (has (f (get_or l k blank)) p ≡ true)

  from-union : (l : List Step) → has (union f l) p ≡ true → Some l
  unfolding union
  from-union [] e = absurd (let z : false ≡ true = sym (has-zero p) ∙ e in cc)
  from-union (s ∷ l) e = go (has (f s) p) refl (sym (has-or (f s) (union f l) p) ∙ e) (from-union l)
    where
      go : (t : Bool) → has (f s) p ≡ t → (t || has (union f l) p) ≡ true → (has (union f l) p ≡ true → Some l)
          → Some (s ∷ l)
      go true h e on = (0, omega arith, h)
      go false h e on = let (k, b, w) = on e in (suc k, omega arith, w)

  to-union : (l : List Step) (k : ℕ) → k < length l → has (f (get_or l k blank)) p ≡ true → has (union f l) p ≡ true
  unfolding union
  to-union [] k b w = absurd (omega arith)
  to-union (s ∷ l) zero b w = rw (has-or (f s) (union f l) p, w)
  to-union (s ∷ l) (suc k) b w =
      has-or (f s) (union f l) p ∙ ap (λ (t : Bool). has (f s) p || t) (to-union l k (omega arith) w)
      ∙ or-true (has (f s) p)

  pub union-iff : (l : List Step) → (has (union f l) p ≡ true) ↔ Some l
  union-iff l = (from-union l, λ s. to-union l s.0 s.1 s.2)
