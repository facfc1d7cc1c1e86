-- `converting::down::check_done`: the rows of the done lines that are left answer for all.
use Prim.Native.Nat.{◌+◌, ◌≤◌}
use lib.ListN.{length, drop}
use Rattle.refusal.specs.Rows.{first, each_line}
use Rattle.converting.specs.Beyond.{says_name}
use Rattle.refusal.proofs.EachLine.{Rest}
use Rattle.converting.proofs.down.check_done.Given as goal

abbrev pub invariant-loop-i : goal.invariant-loop-i
invariant-loop-i l =
    (l.i ≤ length l.done)
    × (Rest says_name 22 (l.line + l.i) (drop l.i l.done) (first (each_line says_name 22 l.line l.done)))
