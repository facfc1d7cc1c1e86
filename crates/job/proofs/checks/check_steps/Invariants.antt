-- `job::checks::check_steps`: the rows of the steps that are left, given the names of those passed, answer for all.
use mathlib.Core.Path.{◌≡◌}
use mathlib.Core.List.{[]}
use Prim.Native.Nat.{◌+◌, ◌≤◌}
use lib.ListN.{take}
use Rattle.refusal.specs.Rows.{first}
use Rattle.route.specs.Steps.{names}
use Rattle.name_set.specs.inner.Hints.{Hinted}
use Rattle.flat.specs.Flat.{steps_in, steps_left}
use Rattle.flat.proofs.InTurn.{Turns}
use Rattle.job.specs.Lines.{step_rows}
use Rattle.job.proofs.checks.check_steps.Given as goal

abbrev pub invariant-loop-i : goal.invariant-loop-i
invariant-loop-i l =
    let i = l.i-iterator.count in
    let left = steps_left l.i-iterator.iter in
    (i ≤ 64)
    × (Turns (steps_in l.steps) i left
    × (Hinted (take i (names (steps_in l.steps))) l.hint
    × (first (step_rows (l.line + i) l.count (take i (names (steps_in l.steps))) left)
    ≡ first (step_rows l.line l.count [] (steps_in l.steps)))))
