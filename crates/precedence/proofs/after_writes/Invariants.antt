-- `precedence::after_writes`: what is gathered of both, and the entries at the variables that are left lack the
-- occurrence.
use mathlib.Core.Path.{◌≡◌}
use lib.ListN.{length}
use Rattle.precedence.proofs.ByItem.{Gathering}
use Rattle.precedence.proofs.Changing.{Joining, Untouched}
use Rattle.precedence.proofs.after_writes.Given as goal

abbrev pub invariant-loop-v : goal.invariant-loop-v
invariant-loop-v l =
    (length l.writers ≡ length l.initial.writers)
    × (Gathering 32 l.readers l.vars l.v-iterator.left l.read
    × (Gathering 32 l.initial.writers l.vars l.v-iterator.left l.wrote
    × (Untouched l.v-iterator.left l.initial.writers l.writers
    × Joining 32 l.initial.writers l.vars l.own l.v-iterator.left l.writers)))
