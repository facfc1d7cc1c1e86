-- `line_reader::rows::start_row`: rows 2 and 3, on what is kept of the places.
use mathlib.Core.Path.{◌≡◌, refl, sym, ap, ◌∙◌}
use mathlib.Core.Bool.{true, false, not}
use mathlib.Core.List.{List, []}
use Prim.Native.Nat.{ℕ, ◌≤◌, ◌<◌}
use borrow.Author.Tests.{le-leb, lt-leb}
use Rattle.refusal.specs.Rows.{pass, refuse}
use Rattle.refusal.proofs.Rows.{row-passes, row-refuses, rows_end}
use Rattle.facts.specs.Forms.{all_below, rising, start_row}
use Rattle.tokens.specs.inner.Tokens.{no_entries, along}
use Rattle.tokens.specs.declared.Entries.{Entries}
use Rattle.line_reader.proofs.LineForm.{start_fits, start-rises}
use borrow.Author.Rules.{rules}
use Rattle.line_reader.proofs.rows.start_row.Goals as goal

module _ (count line : ℕ) (e : Entries) (l : List ℕ) (is : e ≡ along no_entries l) where
  two : count < e.top → refuse 2 line ≡ start_row line count l
  unfolding start_row
  two h = sym (row-refuses (all_below count l) 2 line _ (sym (start_fits e l is count) ∙ lt-leb _ _ h) refl)

  three : e.top ≤ count → e.falls ≡ true → refuse 3 line ≡ start_row line count l
  unfolding start_row
  three h f = sym (row-passes (all_below count l) 2 line _ (sym (start_fits e l is count) ∙ le-leb _ _ h)
      ∙ row-refuses (rising 0 l) 3 line [] (sym (start-rises e l is) ∙ ap not f) refl)

  fine : e.top ≤ count → e.falls ≡ false → pass ≡ start_row line count l
  unfolding start_row
  fine h f = sym (row-passes (all_below count l) 2 line _ (sym (start_fits e l is count) ∙ le-leb _ _ h)
      ∙ row-passes (rising 0 l) 3 line [] (sym (start-rises e l is) ∙ ap not f) ∙ rows_end)

pub returns-then-count-e : goal.returns-then-count-e
returns-then-count-e c = λ l is. search (rules, two)

pub returns-then-e : goal.returns-then-e
returns-then-e c = λ l is. search (rules, three)

pub returns : goal.returns
returns c = λ l is. search (rules, fine)
