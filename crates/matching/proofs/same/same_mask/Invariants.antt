-- `matching::same::same_mask`: what has been gathered is the mask of those passed.
use Rattle.flat.specs.Flat.{steps_in, steps_left}
use Rattle.matching.proofs.SameMask.{SameSoFar}
use Rattle.matching.proofs.same.same_mask.Given as goal

abbrev pub invariant-loop-i : goal.invariant-loop-i
invariant-loop-i l =
    let it = l.i-iterator in
    SameSoFar (steps_in l.pairs.occurrences.now) l.pairs.matches.now it.count (steps_left it.iter.a)
    (steps_left it.iter.b) l.same
