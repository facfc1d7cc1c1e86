-- `answering::answers::straight_order`: the numbers so far.
use mathlib.Core.Path.{◌≡◌}
use Prim.Native.Nat.{ℕ, ◌+◌}
use lib.ListN.{length}
use Rattle.answering.proofs.Filling.{Filling}
use Rattle.answering.proofs.answers.straight_order.Given as goal

abbrev pub invariant-loop-i : goal.invariant-loop-i
invariant-loop-i l = (length l.number-items ≡ l.len) × Filling (λ (k : ℕ). k + 1) l.i l.number-items
