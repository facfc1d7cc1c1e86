-- `answering::answers::after_rows`: once the kept left are filled too, all are.
use Rattle.answering.proofs.AfterRows.{Rows}
use Rattle.answering.proofs.answers.after_rows.Given as goal

abbrev pub invariant-loop-i : goal.invariant-loop-i
invariant-loop-i l = Rows l.rows l.kept l.after l.i-iterator.left
