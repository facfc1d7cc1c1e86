-- `order_entries::fire_list`: the entries so far are placed, and the rows of those that are left answer for all.
use Rattle.flat.specs.Flat.{steps_in}
use Rattle.order_entries.proofs.Entry.{Placed}
use Rattle.order_entries.proofs.fire_list.Given as goal

abbrev pub invariant-loop-i : goal.invariant-loop-i
invariant-loop-i l = Placed l.order l.kept l.rows (steps_in l.matches) l.initial.m.tokens l.placed l.m.tokens l.i
