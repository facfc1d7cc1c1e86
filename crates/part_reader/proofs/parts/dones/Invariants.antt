-- `part_reader::parts::dones`: a name put away for each line that no row refuses.
use Prim.Native.Nat.{◌-◌}
use lib.ListN.{length}
use Rattle.refusal.specs.Refusal.{outcome_of}
use Rattle.part_reader.proofs.DoneLines.{Named}
use Rattle.part_reader.proofs.parts.dones.Given as goal

abbrev pub invariant-loop-at : goal.invariant-loop-at
invariant-loop-at l =
    Named l.v l.s l.initial.list l.list l.initial.at l.initial.lines (outcome_of l.initial.rows)
    (outcome_of l.rows) l.lines l.at l.len

abbrev pub decreases-loop-at : goal.decreases-loop-at
decreases-loop-at l = length l.s - l.at
