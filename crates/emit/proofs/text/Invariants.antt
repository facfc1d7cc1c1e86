-- `emit::text`: byte by byte.
use mathlib.Core.Path.{◌≡◌}
use mathlib.Core.List.{[], ◌∷◌}
use Prim.Native.Nat.{ℕ}
use lib.ListN.{length, drop}
use Rattle.emit.specs.Numbers.{over}
use Rattle.emit.proofs.Loops.{Left}
use Rattle.emit.proofs.text.Given as goal

abbrev pub invariant-loop-b : goal.invariant-loop-b
invariant-loop-b l =
    (length l.out ≡ length l.initial.out)
    × Left (over (λ (b : ℕ). b ∷ []) (drop l.b-index l.t)) l.out l.end l.t l.initial.out l.at
