-- `reader::part::past_lines`: what follows the lines that are left is what follows all of them.
use mathlib.Core.Path.{◌≡◌}
use lib.ListN.{drop}
use Rattle.facts.specs.JobPart.{after_lines}
use Rattle.reader.proofs.part.past_lines.Given as goal

abbrev pub invariant-loop-i : goal.invariant-loop-i
invariant-loop-i l = after_lines l.left (drop l.i l.s) ≡ after_lines l.n l.s
