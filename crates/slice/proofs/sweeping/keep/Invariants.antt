-- `slice::sweeping::keep`: the loop is the sweep, from the position it has come down to.
use mathlib.Core.Path.{◌≡◌}
use Prim.Native.Nat.{◌≤◌}
use lib.ListN.{length}
use Rattle.flat.specs.Flat.{steps_in}
use Rattle.slice.proofs.Sweep.{sweep_from}
use Rattle.slice.proofs.sweeping.keep.Given as goal

abbrev pub invariant-loop-i : goal.invariant-loop-i
invariant-loop-i l =
    (l.i ≤ length (steps_in l.occurrences))
    × (sweep_from (steps_in l.occurrences) l.vars l.i ≡ record { live = l.live; tokens = l.tokens; kept = l.kept })
