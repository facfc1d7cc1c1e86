-- `opening::gather`: what is gathered so far, together with the union over the steps that are left, is the union
-- over all.
use mathlib.Core.Path.{◌≡◌}
use Prim.Native.Nat.{ℕ}
use lib.Bits.{bit_or}
use Rattle.route.specs.Steps.{union}
use Rattle.flat.specs.Flat.{steps_in, steps_left}
use Rattle.route.specs.declared.Step.{Step}
use Rattle.opening.proofs.gather.Given as goal

abbrev pub takes : Step → ℕ
takes s = s.ins

abbrev pub puts : Step → ℕ
puts s = s.outs

abbrev pub writes : Step → ℕ
writes s = s.writes

abbrev pub invariant-loop-s : goal.invariant-loop-s
invariant-loop-s l =
    (bit_or l.ins (union takes (steps_left l.s-iterator)) ≡ union takes (steps_in l.steps))
    × (bit_or l.outs (union puts (steps_left l.s-iterator)) ≡ union puts (steps_in l.steps))
    × (bit_or l.writes (union writes (steps_left l.s-iterator)) ≡ union writes (steps_in l.steps))
