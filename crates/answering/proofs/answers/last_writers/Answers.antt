-- `answering::answers::last_writers`: the writers from here on, and the variables that are written nowhere there.
use Rattle.answering.proofs.LastWriters.{wrote-init, wrote-step, wrote-early, wrote-done}
use Rattle.answering.proofs.answers.last_writers.Goals as goal

pub loop-i-init : goal.loop-i-init
loop-i-init c = wrote-init _ _ _ c.count-i.ensures

pub returns-then-left-eq0 : goal.returns-then-left-eq0
returns-then-left-eq0 c new e = wrote-early _ new _ _ _ _ c.if-left-eq0.true c.loop-i.invariant e

pub loop-i-preserved : goal.loop-i-preserved
loop-i-preserved c = search wrote-step

pub returns : goal.returns
returns c new e = wrote-done _ new _ _ _ _ c.loop-i-test.false c.loop-i.invariant e
