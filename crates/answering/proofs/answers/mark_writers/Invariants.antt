-- `answering::answers::mark_writers`: once the variables left have the number too, all have it.
use Rattle.answering.proofs.LastWriters.{Marking}
use Rattle.answering.proofs.answers.mark_writers.Given as goal

abbrev pub invariant-loop-v : goal.invariant-loop-v
invariant-loop-v l = Marking l.hit l.number l.initial.writers l.writers l.v-iterator.left
