-- `order_entries::check_list`: the row of the entries that are left answers for all.
use mathlib.Core.Path.{◌≡◌}
use Prim.Native.Nat.{◌+◌}
use lib.ListN.{drop}
use Rattle.order_entries.specs.Entries.{list_row}
use Rattle.order_entries.proofs.check_list.Given as goal

abbrev pub invariant-loop-i : goal.invariant-loop-i
invariant-loop-i l = list_row l.kept l.seen (l.i + 1) (drop l.i l.order) ≡ list_row l.kept 0 1 l.order
