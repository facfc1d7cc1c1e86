-- `records::fill`: after k turns the first k steps of the numbers stand over the list.
use mathlib.Core.Path.{◌≡◌}
use Rattle.flat.specs.Flat.{steps_in}
use Rattle.records.specs.Overlaid.{overlaid}
use Rattle.records.proofs.fill.Given as goal

abbrev pub invariant-loop-k : goal.invariant-loop-k
invariant-loop-k l = l.out ≡ overlaid l.k (steps_in l.steps) l.initial.out
