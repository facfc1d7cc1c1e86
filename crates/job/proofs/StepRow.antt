-- The rows of one step's line in turn, where there is room for the step: 2, 3 and 5.
use mathlib.Core.Path.{◌≡◌, refl, sym, ap, ◌∙◌}
use mathlib.Core.Bool.{Bool, true, false, not}
use mathlib.Core.List.{List, [], ◌∷◌}
use Prim.Native.Nat.{ℕ, ◌<◌}
use native.Mathlib.Omega.{arith}
use lib.Dec.{ltb}
use lib.ListN.{length}
use borrow.Author.Tests.{not-true, not-false, lt-ltb}
use Rattle.refusal.specs.Rows.{pass, refuse, unless, first}
use Rattle.route.specs.Steps.{names}
use Rattle.route.specs.declared.Step.{Step}
use Rattle.refusal.specs.declared.Outcome.{Outcome}
use Rattle.refusal.proofs.Rows.{row-passes, row-refuses, rows_end}
use Rattle.route.proofs.StepList.{length-names}
use Rattle.name_set.specs.Among.{among}
use Rattle.job.specs.Lines.{step_fits, lists_fit, step_row}

module _ (line places : ℕ) (earlier : List ℕ) (s : Step) where
  pub step-two : (f : Bool) → length earlier < 64 → f ≡ step_fits places s → not f ≡ true
      → refuse 2 line ≡ step_row line places earlier s
  unfolding step_row
  step-two f h fits t =
      sym (row-refuses (step_fits places s) 2 line _ (sym fits ∙ not-true f t) refl)
      ∙ sym (row-passes _ 4 line _ (lt-ltb (length earlier) 64 h))

  module _ (f l : Bool) (room : length earlier < 64) (fits : f ≡ step_fits places s) (fit : not f ≡ false)
      (lists : l ≡ lists_fit s) where
    after_two : (k : List Outcome)
        → first (unless (ltb (length earlier) 64) 4 line ∷ unless (step_fits places s) 2 line ∷ k) ≡ first k
    after_two k =
        row-passes _ 4 line _ (lt-ltb (length earlier) 64 room)
        ∙ row-passes (step_fits places s) 2 line k (sym fits ∙ not-false f fit)

    pub step-three : not l ≡ true → refuse 3 line ≡ step_row line places earlier s
    unfolding step_row
    step-three t = sym (row-refuses (lists_fit s) 3 line _ (sym lists ∙ not-true l t) refl) ∙ sym (after_two _)

    pub step-five : (known : Bool) → not l ≡ false → known ≡ among s.name earlier
        → known ≡ true → refuse 5 line ≡ step_row line places earlier s
    unfolding step_row
    step-five known t is e =
        sym (row-refuses (not (among s.name earlier)) 5 line [] (ap not (sym is ∙ e)) refl)
        ∙ sym (row-passes (lists_fit s) 3 line _ (sym lists ∙ not-false l t))
        ∙ sym (after_two _)

    pub step-none : (known : Bool) → not l ≡ false → known ≡ among s.name earlier → known ≡ false
        → pass ≡ step_row line places earlier s
    unfolding step_row
    step-none known t is e =
        sym rows_end
        ∙ sym (row-passes (not (among s.name earlier)) 5 line [] (ap not (sym is ∙ e)))
        ∙ sym (row-passes (lists_fit s) 3 line _ (sym lists ∙ not-false l t))
        ∙ sym (after_two _)

-- the steps above
pub names-few : (l : List Step) → length l < 64 → length (names l) < 64
names-few l h = omega (arith, length-names l)
