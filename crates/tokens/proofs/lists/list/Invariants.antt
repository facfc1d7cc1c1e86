-- `tokens::lists::list`: entry by entry, reading goes on.
use Prim.Native.Nat.{◌-◌}
use lib.ListN.{length}
use Rattle.tokens.proofs.ListBytes.{Entered}
use Rattle.tokens.proofs.lists.list.Given as goal

abbrev pub invariant-loop-i : goal.invariant-loop-i
invariant-loop-i l =
    Entered l.v l.s l.from (record { mask = l.mask; top = l.top; count = l.count; falls = l.falls }) l.i

abbrev pub decreases-loop-i : goal.decreases-loop-i
decreases-loop-i l = length l.s - l.i
