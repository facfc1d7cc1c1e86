-- `job::lines::check_done`: the rows of the done lines that are left answer for all.
use mathlib.Core.Path.{◌≡◌}
use Prim.Native.Nat.{◌+◌, ◌≤◌}
use lib.ListN.{drop}
use Rattle.refusal.specs.Rows.{first}
use Rattle.version.specs.Limits.{present}
use Rattle.job.specs.Lines.{done_rows}
use Rattle.job.proofs.lines.check_done.Given as goal

abbrev pub invariant-loop-i : goal.invariant-loop-i
invariant-loop-i l =
    (l.i ≤ 64)
    × (first (done_rows present (l.line + l.i) l.i (drop l.i l.done))
    ≡ first (done_rows present l.line 0 l.done))
