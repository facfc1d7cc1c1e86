-- `precedence::table_of`: the rows so far are filled, and the readers and writers of each variable, the last putter of
-- each place, and those that cut cloth, are those of the occurrences so far.
use mathlib.Core.Path.{◌≡◌}
use lib.ListN.{length}
use Rattle.mask.specs.Mask.{collect}
use Rattle.flat.specs.Flat.{steps_in, steps_left}
use Rattle.flat.proofs.InTurn.{Turns}
use Rattle.precedence.specs.Precedence.{puts_until, row}
use Rattle.precedence.specs.inner.ByItem.{ByItem}
use Rattle.precedence.proofs.Filled.{Filled}
use Rattle.precedence.proofs.RowByItem.{read_by, written_by, cut_by}
use Rattle.precedence.proofs.table_of.Given as goal

abbrev pub invariant-loop-i : goal.invariant-loop-i
invariant-loop-i l =
    let i = l.i-iterator.count in
    Turns (steps_in l.occurrences) i (steps_left l.i-iterator.iter)
    × ((length l.rows ≡ 64)
    × (Filled (row (steps_in l.occurrences)) i l.rows
    × (ByItem 32 (written_by (steps_in l.occurrences)) i l.writers
    × (ByItem 32 (read_by (steps_in l.occurrences)) i l.readers
    × (ByItem 64 (puts_until (steps_in l.occurrences) i) i l.putters
    × (l.cut ≡ collect (cut_by (steps_in l.occurrences)) i))))))
