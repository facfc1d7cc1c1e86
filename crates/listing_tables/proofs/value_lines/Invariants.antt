-- `listing_tables::value_lines`: the variables in turn.
use mathlib.Core.Path.{◌≡◌}
use lib.ListN.{length}
use Rattle.emit.proofs.Loops.{Left}
use Rattle.listing_lines.specs.Lines.{value_lines}
use Rattle.listing_tables.proofs.EachLine.{values_from}
use Rattle.listing_tables.proofs.value_lines.Given as goal

abbrev pub invariant-loop-v : goal.invariant-loop-v
invariant-loop-v l =
    (length l.out ≡ length l.initial.out)
    × Left (values_from l.writers l.v) l.out l.end (value_lines l.writers) l.initial.out l.at
