-- `sheet_lines::done_lines`: the names that are left.
use mathlib.Core.Path.{◌≡◌}
use lib.ListN.{length, drop}
use Rattle.emit.proofs.Loops.{Left}
use Rattle.sheet_lines.proofs.EachLine.{name_lines}
use Rattle.sheet_lines.proofs.done_lines.Given as goal

abbrev pub invariant-loop-name : goal.invariant-loop-name
invariant-loop-name l =
    (length l.out ≡ length l.initial.out)
    × Left (name_lines (drop l.name-index l.done)) l.out l.p (name_lines l.done) l.initial.out l.at
