-- `line_reader::rows::step_row`: the four rows in turn.
use Rattle.line_reader.proofs.RowForms.{row-four, row-two, row-three, row-five, row-none}
use borrow.Author.Rules.{rules}
use Rattle.line_reader.proofs.rows.step_row.Goals as goal

pub returns-then-count-ge-STEPS : goal.returns-then-count-ge-STEPS
returns-then-count-ge-STEPS c = λ f is. search (rules, row-four)

pub returns-then-not-line_fits : goal.returns-then-not-line_fits
returns-then-not-line_fits c = λ f is. search (rules, row-two)

pub returns-then-not-line_lists : goal.returns-then-not-line_lists
returns-then-not-line_lists c = λ f is. search (rules, row-three)

pub returns-then-has : goal.returns-then-has
returns-then-has c = λ f is. search (rules, row-five)

pub returns : goal.returns
returns c = λ f is. search (rules, row-none)
