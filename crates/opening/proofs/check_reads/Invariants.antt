-- `opening::check_reads`: the rows of the steps that are left answer for all.
use Rattle.flat.specs.Flat.{steps_in, steps_left}
use Rattle.opening.specs.Unwritten.{reads_among}
use Rattle.opening.proofs.EachStep.{StepsLeft}
use Rattle.opening.proofs.check_reads.Given as goal

abbrev pub invariant-loop-i : goal.invariant-loop-i
invariant-loop-i l =
    StepsLeft (reads_among l.written) 23 l.line (steps_in l.steps) l.i-iterator.count (steps_left l.i-iterator.iter)
