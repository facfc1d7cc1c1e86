-- `listing_tables::after_lines`: from one kept occurrence to the next.
use Rattle.mask.specs.Mask.{members}
use Rattle.emit.specs.Numbers.{over}
use Rattle.emit.proofs.Loops.{Left}
use Rattle.listing_lines.specs.Lines.{after_lines}
use Rattle.listing_tables.proofs.EachLine.{line_of}
use Rattle.listing_tables.proofs.after_lines.Given as goal

abbrev pub invariant-loop-i : goal.invariant-loop-i
invariant-loop-i l =
    Left (over (line_of l.rows) (members 64 l.i-iterator.left)) l.out l.end (after_lines l.kept l.rows) l.initial.out l.at
