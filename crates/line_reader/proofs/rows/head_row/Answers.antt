-- `line_reader::rows::head_row`: row 2.
use mathlib.Core.Path.{◌≡◌, sym, ◌∙◌}
use mathlib.Core.Bool.{Bool, true, false, not}
use Prim.Native.Nat.{ℕ}
use borrow.Author.Tests.{not-true, not-false}
use Rattle.refusal.specs.Rows.{pass, refuse}
use Rattle.job.specs.Lines.{places_fit}
use Rattle.line_reader.specs.inner.Rows.{head_row}
use Rattle.refusal.proofs.Rows.{unless-no, unless-yes}
use borrow.Author.Rules.{rules}
use Rattle.line_reader.proofs.rows.head_row.Goals as goal

module _ (line n : ℕ) (f : Bool) (fits : f ≡ places_fit n) where
  two : not f ≡ true → refuse 2 line ≡ head_row line n
  unfolding head_row
  two h = sym (unless-no (places_fit n) 2 line (sym fits ∙ not-true f h))

  fine : not f ≡ false → pass ≡ head_row line n
  unfolding head_row
  fine h = sym (unless-yes (places_fit n) 2 line (sym fits ∙ not-false f h))

pub returns-then-not-places_fit : goal.returns-then-not-places_fit
returns-then-not-places_fit c = search (rules, two)

pub returns : goal.returns
returns c = search (rules, fine)
