-- `tokens::numbers::number`: digit by digit, reading goes on.
use Rattle.tokens.proofs.NumberBytes.{Counts}
use Rattle.tokens.proofs.numbers.number.Given as goal

abbrev pub invariant-loop-i : goal.invariant-loop-i
invariant-loop-i l = Counts l.fn.v l.s l.from l.n l.i l.left
