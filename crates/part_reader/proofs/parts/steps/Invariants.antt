-- `part_reader::parts::steps`: a step put away for each line that no row refuses.
use Prim.Native.Nat.{◌-◌}
use lib.ListN.{length}
use Rattle.refusal.specs.Refusal.{outcome_of}
use Rattle.part_reader.proofs.StepLines.{Stepped}
use Rattle.part_reader.proofs.parts.steps.Given as goal

abbrev pub invariant-loop-v : goal.invariant-loop-v
invariant-loop-v l = Stepped l.v l.s l.places l.list l.hint l.initial.at l.initial.lines (outcome_of l.initial.rows)
    (outcome_of l.rows)
    l.lines l.at l.len

abbrev pub decreases-loop-v : goal.decreases-loop-v
decreases-loop-v l = length l.s - l.at
