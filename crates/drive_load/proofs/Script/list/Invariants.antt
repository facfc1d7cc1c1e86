-- `Script::list`: no more entries so far than turns, of which there are at most as many as the bound.
use Rattle.std.proofs.Common.{◌≤◌, length}
use Rattle.drive_load.proofs.Script.list.Given as goal

abbrev pub invariant-loop : goal.invariant-loop
invariant-loop g l = (length l.list.items ≤ l.counter) × ((l.counter ≤ l.end) × (l.end ≤ l.bound))
