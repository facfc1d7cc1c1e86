-- `answering::answers::mark_writers`: once the variables left have the number too, all have it.
use borrow.Author.Rules.{rules}
use Rattle.answering.proofs.LastWriters.{marking-init, marking_step, marking-done}
use Rattle.answering.proofs.answers.mark_writers.Goals as goal

pub loop-v-init : goal.loop-v-init
loop-v-init c = search (rules, marking-init)

pub loop-v-preserved : goal.loop-v-preserved
loop-v-preserved c = marking_step _ _ _ _ _ c.loop-v.invariant _ _ c.in-Some.ensures.steps

pub returns : goal.returns
returns c = record {
  writers_len = c.loop-v.invariant.room;
  by_index = λ v h. marking-done _ _ _ _ _ c.loop-v.invariant c.in-None.ensures.steps v;
}
