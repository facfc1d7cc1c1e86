-- `records::lay`: the steps laid so far are the first of the list's, of which at most 65 are laid.
use mathlib.Core.Path.{◌≡◌}
use lib.ListN.{length, take}
use Rattle.flat.specs.Flat.{steps_in}
use Rattle.records.proofs.lay.Given as goal

abbrev pub invariant-loop-i : goal.invariant-loop-i
invariant-loop-i l =
    (length l.into ≡ length l.initial.into)
    × (take l.i (steps_in l.into) ≡ take l.i l.laid)
