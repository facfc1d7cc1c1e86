-- `flat::laying::lay`: the steps laid so far are the first of the route's.
use mathlib.Core.Path.{◌≡◌}
use Prim.Native.Nat.{◌≤◌}
use lib.ListN.{length, take}
use Rattle.route.specs.Steps.{steps_of}
use Rattle.flat.specs.Flat.{steps_in}
use Rattle.flat.proofs.laying.lay.Given as goal

abbrev pub invariant-loop-i : goal.invariant-loop-i
invariant-loop-i l =
    ((l.i ≤ l.r.len) × ((l.i ≤ 64) × (length l.into ≡ length l.initial.into))) × (take l.i (steps_in l.into) ≡ take l.i (steps_of l.r))
