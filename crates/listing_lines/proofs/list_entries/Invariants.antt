-- `listing_lines::list_entries`: entry by entry.
use mathlib.Core.Path.{◌≡◌}
use lib.ListN.{length, drop}
use Rattle.emit.specs.Numbers.{entry, over}
use Rattle.emit.proofs.Loops.{Left}
use Rattle.listing_lines.proofs.list_entries.Given as goal

abbrev pub invariant-loop-n : goal.invariant-loop-n
invariant-loop-n l =
    (length l.out ≡ length l.initial.out)
    × Left (over entry (drop l.n-index l.l)) l.out l.end (over entry l.l) l.initial.out l.at
