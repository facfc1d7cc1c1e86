-- An operation that ends after row 9: a line refuses, a row from 6 to 9 refuses, or there is an answer. `stop` makes a
-- refusal of its two numbers.
use mathlib.Core.Path.{◌≡◌, refl, sym, ap, ◌∙◌}
use mathlib.Core.Bool.{false, cond}
use Prim.Native.Nat.{ℕ}
use lib.Dec.{eqb}
use borrow.Author.Tests.{eqb-false}
use Rattle.mask.proofs.Truth.{cond_yes, cond_no}
use Rattle.std.specs.Prelude.{Ok, Err}
use Rattle.refusal.specs.Rows.{refuse, first}
use Rattle.refusal.specs.Refusal.{number_of}
use Rattle.refusal.specs.declared.Refusal.{Refusal}
use Rattle.refusal.proofs.Answered.{number-some}
use Rattle.job.specs.Job.{Job}
use Rattle.job.specs.Lines.{line_rows}
use Rattle.running.specs.Run.{ran}
use Rattle.route.specs.Firing.{fired_of}
use Rattle.route.specs.declared.Marking.{Marking}
use Rattle.route.specs.declared.Fired.{Fired}
use Rattle.running.proofs.RunLine.{ran_line}

-- the rows from 6 to 9 pass, or one refuses
module _ (j : Job) where
  pub run-passes : (m : Marking) → fired_of (Ok m) ≡ ran j → (ran j).number ≡ 0
  run-passes m is = ap (λ (x : Fired). x.number) (sym is)

  pub run-number : (e : Refusal) → fired_of (Err e) ≡ ran j → eqb (ran j).number 0 ≡ false
  run-number e is = ap (λ (x : Fired). eqb x.number 0) (sym is) ∙ number-some e.row

  pub run-stops : (e : Refusal) → fired_of (Err e) ≡ ran j → (ran j).number ≡ 0 → ⊥
  run-stops e is = eqb-false (ran j).number 0 (run-number e is)

module _ {R : Type 0} (stop : ℕ → ℕ → R) (answer : R) (j : Job) where
  -- the whole, by run's number
  abbrev after_run : R
  after_run = cond (eqb (ran j).number 0) answer (stop (ran j).number (ran j).second)

  abbrev stopped : R
  stopped = stop (ran j).number (ran j).second

  -- run's refusal is that of the whole
  pub run_ends : (e : Refusal) → fired_of (Err e) ≡ ran j → stop (number_of e.row) e.second ≡ after_run
  run_ends e is =
      ap (λ (x : Fired). stop x.number x.second) is
      ∙ cond_no answer stopped refl (ap (λ (x : Fired). eqb x.number 0) (sym is) ∙ number-some e.row)

  -- a line refuses
  pub line-ends : (e : Refusal) → refuse (number_of e.row) e.second ≡ first (line_rows j)
      → stop (number_of e.row) e.second ≡ after_run
  line-ends e is = run_ends e (ran_line j e is)

  pub run-answers : (m : Marking) → fired_of (Ok m) ≡ ran j → answer ≡ after_run
  run-answers m is = cond_yes answer stopped refl (ap (λ (x : Fired). eqb x.number 0) (sym is))
