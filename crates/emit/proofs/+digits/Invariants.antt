-- `emit::digits`, the cycle of calls of one function: the measure is the number.
use Rattle.emit.proofs.+digits.Given as goal

abbrev pub decreases-digits : goal.decreases-digits
decreases-digits l = l.n
