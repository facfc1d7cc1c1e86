-- `occurrences::narrow`: the steps passed are occurrences, those left are as they were.
use Rattle.occurrences.proofs.Narrowed.{Narrowing}
use Rattle.occurrences.proofs.narrow.Given as goal

abbrev pub invariant-loop-i : goal.invariant-loop-i
invariant-loop-i l = Narrowing l.places l.initial.steps l.i l.steps
