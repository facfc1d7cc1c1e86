-- `converting::down::check_steps`: the rows of the steps that are left answer for all.
use Rattle.flat.specs.Flat.{steps_in, steps_left}
use Rattle.opening.proofs.EachStep.{StepsLeft}
use Rattle.converting.specs.Beyond.{says_step}
use Rattle.converting.proofs.down.check_steps.Given as goal

abbrev pub invariant-loop-i : goal.invariant-loop-i
invariant-loop-i l =
    StepsLeft says_step 22 l.line (steps_in l.steps) l.i-iterator.count (steps_left l.i-iterator.iter)
