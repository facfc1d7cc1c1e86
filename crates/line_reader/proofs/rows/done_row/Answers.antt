-- `line_reader::rows::done_row`: rows 4 and 2.
use mathlib.Core.Path.{◌≡◌, refl, sym, ◌∙◌}
use mathlib.Core.Bool.{Bool, true, false, not}
use mathlib.Core.List.{[]}
use Prim.Native.Nat.{ℕ, ◌≤◌, ◌<◌}
use borrow.Author.Tests.{lt-ltb, le-ltb, not-true, not-false}
use Rattle.refusal.specs.Rows.{pass, refuse}
use Rattle.refusal.proofs.Rows.{row-passes, row-refuses, rows_end}
use Rattle.version.specs.Limits.{name_fits}
use Rattle.version.specs.declared.Version.{Version}
use Rattle.job.specs.Lines.{done_row}
use borrow.Author.Rules.{rules}
use Rattle.line_reader.proofs.rows.done_row.Goals as goal

module _ (v : Version) (line above n : ℕ) where
  four : 64 ≤ above → refuse 4 line ≡ done_row v line above n
  unfolding done_row
  four h = sym (row-refuses _ 4 line _ (le-ltb above 64 h) refl)

  module _ (f : Bool) (fits : f ≡ name_fits v n) (room : above < 64) where
    two : not f ≡ true → refuse 2 line ≡ done_row v line above n
    unfolding done_row
    two h = sym (row-passes _ 4 line _ (lt-ltb above 64 room)
        ∙ row-refuses (name_fits v n) 2 line [] (sym fits ∙ not-true f h) refl)

    fine : not f ≡ false → pass ≡ done_row v line above n
    unfolding done_row
    fine h = sym (row-passes _ 4 line _ (lt-ltb above 64 room)
        ∙ row-passes (name_fits v n) 2 line [] (sym fits ∙ not-false f h) ∙ rows_end)

pub returns-then-above-ge-STEPS : goal.returns-then-above-ge-STEPS
returns-then-above-ge-STEPS c = search (rules, four)

pub returns-then-not-name_fits : goal.returns-then-not-name_fits
returns-then-not-name_fits c = search (rules, two)

pub returns : goal.returns
returns c = search (rules, fine)
