-- `tokens::texts::agreeing`: byte by byte, as long as they agree.
use Rattle.tokens.proofs.TextBytes.{Agreed}
use Rattle.tokens.proofs.texts.agreeing.Given as goal

abbrev pub invariant-loop-i : goal.invariant-loop-i
invariant-loop-i l = Agreed l.s l.from l.w l.i
