-- The rows of a list's steps in turn: what a pass over them meets. A step that passes leaves the rows of those below
-- it, and a step that is refused is the answer.
use mathlib.Core.Path.{◌≡◌, refl, sym, ap, ap₂, ◌∙◌}
use mathlib.Core.List.{List, [], ◌∷◌, ◌++◌}
use Prim.Native.Nat.{ℕ, ◌+◌, ◌≤◌}
use native.Mathlib.Omega.{arith}
use native.Mathlib.Numerals.{add-one}
use lib.ListN.{length, take}
use lib.Seq.{take-suc, length-take-le}
use borrow.Author.Tests.{le-ltb}
use Rattle.refusal.specs.Rows.{pass, refuse, first}
use Rattle.refusal.specs.declared.Outcome.{Outcome}
use Rattle.refusal.specs.declared.Refusal.{Refusal}
use Rattle.refusal.specs.Refusal.{number_of}
use Rattle.refusal.proofs.Rows.{head-refuses, row-refuses, rows_end}
use Rattle.refusal.proofs.Answered.{err-refuses, ok-passes}
use Rattle.route.specs.Steps.{names}
use Rattle.route.specs.declared.Step.{Step}
use Rattle.route.proofs.StepList.{length-names, get_or-names}
use Rattle.flat.proofs.InTurn.{Turns, turn-at, turn-inside}
use Rattle.job.specs.Lines.{step_row, step_rows}

-- i of the steps have passed
module _ (line places : ℕ) {l left : List Step} {i : ℕ} (whole : Outcome) (turns : Turns l i left)
    (inv : first (step_rows (line + i) places (take i (names l)) left) ≡ whole) where
  pub steps-end : left ≡ [] → pass ≡ whole
  unfolding step_rows
  steps-end over =
      sym rows_end
      ∙ ap (λ (x : List Step). first (step_rows (line + i) places (take i (names l)) x)) (sym over)
      ∙ inv

  module _ {s : Step} {after : List Step} (next : left ≡ s ∷ after) where
    here : first
        (step_row (line + i) places (take i (names l)) s ∷ step_rows (line + i + 1) places
        (take i (names l) ++ (s.name ∷ [])) after) ≡ whole
    unfolding step_rows
    here = ap (λ (x : List Step). first (step_rows (line + i) places (take i (names l)) x)) (sym next) ∙ inv

    -- the 65th
    pub steps-over : i ≤ 64 → 64 ≤ i → refuse 4 (line + 64) ≡ whole
    steps-over low high =
        ap (λ (n : ℕ). refuse 4 (line + n)) full
        ∙ sym (head-refuses _ _ refl)
        ∙ ap (λ (x : Outcome). first
        (x ∷ step_rows (line + i + 1) places (take i (names l) ++ (s.name ∷ [])) after)) (sym refused)
        ∙ here
      where
        full : 64 ≡ i
        full = omega arith

        long : length (take i (names l)) ≡ i
        long = length-take-le i (names l) (omega (arith, turns.within, length-names l))

        refused : step_row (line + i) places (take i (names l)) s ≡ refuse 4 (line + i)
        refused =
            unfold step_row in row-refuses _ 4 (line + i) _
            (le-ltb (length (take i (names l))) 64 (omega (arith, long))) refl

    module _ {k : ℕ} (at : k ≡ i) (earlier : List ℕ) (above : earlier ≡ take k (names l)) where
      row_is : step_row (line + k) places earlier s ≡ step_row (line + i) places (take i (names l)) s
      row_is =
          ap₂ (λ (n : ℕ) (x : List ℕ). step_row (line + n) places x s) at
          (above ∙ ap (λ (n : ℕ). take n (names l)) at)

      pub steps-refused : (e : Refusal) → refuse (number_of e.row) e.second ≡ step_row (line + k) places earlier s
          → refuse (number_of e.row) e.second ≡ whole
      steps-refused e is = err-refuses e _ (is ∙ row_is) _ ∙ here

      pub steps-passed : pass ≡ step_row (line + k) places earlier s
          → first (step_rows (line + (i + 1)) places (take (i + 1) (names l)) after) ≡ whole
      steps-passed is =
          ap₂ (λ (n : ℕ) (x : List ℕ). first (step_rows n places x after)) line_on names-on
          ∙ sym (ok-passes _ (is ∙ row_is) _)
          ∙ here
        where
          line_on : line + (i + 1) ≡ line + i + 1
          line_on = omega arith

          names-on : take (i + 1) (names l) ≡ take i (names l) ++ (s.name ∷ [])
          names-on =
              ap (λ (n : ℕ). take n (names l)) (add-one i)
              ∙ take-suc (names l) i 0 (omega (arith, turn-inside turns next, length-names l))
              ∙ ap (λ (x : ℕ). take i (names l) ++ (x ∷ []))
              (get_or-names l i ∙ ap (λ (x : Step). x.name) (sym (turn-at turns next)))
