-- `occurrences::shared`: the places that two steps so far take from, with those that the steps left make so, are all.
use Rattle.flat.specs.Flat.{steps_in, steps_left}
use Rattle.occurrences.proofs.SharedPlaces.{Sharing}
use Rattle.occurrences.proofs.shared.Given as goal

abbrev pub invariant-loop-s : goal.invariant-loop-s
invariant-loop-s l = Sharing (steps_in l.steps) l.once l.twice (steps_left l.s-iterator)
