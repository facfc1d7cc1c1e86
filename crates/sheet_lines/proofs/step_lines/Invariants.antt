-- `sheet_lines::step_lines`: the steps that are left.
use Rattle.emit.proofs.Loops.{Left}
use Rattle.flat.specs.Flat.{steps_in, steps_left}
use Rattle.sheet_lines.proofs.EachLine.{form_lines}
use Rattle.sheet_lines.proofs.step_lines.Given as goal

abbrev pub invariant-loop-s : goal.invariant-loop-s
invariant-loop-s l = Left (form_lines (steps_left l.s-iterator)) l.out l.p (form_lines (steps_in l.steps)) l.initial.out l.at
