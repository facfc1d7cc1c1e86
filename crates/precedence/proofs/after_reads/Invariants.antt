-- `precedence::after_reads`: what is gathered, and the entries at the variables that are left lack the occurrence.
use mathlib.Core.Path.{◌≡◌}
use lib.ListN.{length}
use Rattle.precedence.proofs.ByItem.{Gathering}
use Rattle.precedence.proofs.Changing.{Joining}
use Rattle.precedence.proofs.after_reads.Given as goal

abbrev pub invariant-loop-v : goal.invariant-loop-v
invariant-loop-v l =
    (length l.readers ≡ length l.initial.readers)
    × (Gathering 32 l.writers l.vars l.v-iterator.left l.wrote
    × Joining 32 l.initial.readers l.vars l.own l.v-iterator.left l.readers)
