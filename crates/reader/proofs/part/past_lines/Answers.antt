-- `reader::part::past_lines`: what follows the lines that are left is what follows all of them.
use mathlib.Core.Path.{◌≡◌}
use native.Mathlib.Omega.{arith}
use lib.ListN.{length}
use borrow.Author.Rules.{rules}
use Rattle.facts.proofs.LineEnds.{lines_none, lines_end, lines-lf, lines-on}
use Rattle.reader.proofs.part.past_lines.Goals.{then-b-eq10, else-b-eq10}
use Rattle.reader.proofs.part.past_lines.Goals as goal

pub returns-then-left-eq0 : goal.returns-then-left-eq0
returns-then-left-eq0 c = record { within = search rules; rest = search (rules, lines_none) }

pub loop-i-preserved : goal.loop-i-preserved
loop-i-preserved c = elim c.if-b-eq10.branch [
  | then-b-eq10 w ↦ search (rules, lines-lf)
  | else-b-eq10 w ↦ search (rules, lines-on)
]

pub returns : goal.returns
returns c =
    let e : length c.args.s.now ≡ c.loop-i.i = omega arith in
    record { within = omega arith; rest = rw e (search (rules, lines_end)) }
