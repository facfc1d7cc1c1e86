-- `precedence::after_takes`: what is gathered, then the entries at the places that are left as they were.
use mathlib.Core.Path.{◌≡◌}
use lib.ListN.{length}
use Rattle.precedence.proofs.ByItem.{Gathering}
use Rattle.precedence.proofs.Changing.{Putting}
use Rattle.precedence.proofs.after_takes.Given as goal

abbrev pub invariant-loop-p : goal.invariant-loop-p
invariant-loop-p l = Gathering 64 l.putters l.taken l.p-iterator.left l.from

abbrev pub invariant-loop-p-2 : goal.invariant-loop-p-2
invariant-loop-p-2 l =
    (length l.putters ≡ length l.initial.putters)
    × Putting l.initial.putters l.put l.own l.p-iterator.left l.putters
