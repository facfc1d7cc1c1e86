-- `answering::answers::last_writers`: the writers from here on, and the variables that are written nowhere there.
use Rattle.flat.specs.Flat.{steps_in}
use Rattle.answering.proofs.LastWriters.{Wrote}
use Rattle.answering.proofs.answers.last_writers.Given as goal

abbrev pub invariant-loop-i : goal.invariant-loop-i
invariant-loop-i l = Wrote l.vars (steps_in l.occurrences) l.writers l.left l.i
