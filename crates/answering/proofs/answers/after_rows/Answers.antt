-- `answering::answers::after_rows`: once the kept left are filled too, all are.
use borrow.Author.Rules.{rules}
use Rattle.answering.proofs.AfterRows.{rows-init, rows_step, rows-done}
use Rattle.answering.proofs.answers.after_rows.Goals as goal

pub loop-i-init : goal.loop-i-init
loop-i-init c = search (rules, rows-init)

pub loop-i-preserved : goal.loop-i-preserved
loop-i-preserved c = rows_step _ _ _ _ c.loop-i.invariant _ _ c.in-Some.ensures.steps

pub returns : goal.returns
returns c l is = rows-done _ _ _ _ c.loop-i.invariant c.in-None.ensures.steps l is
