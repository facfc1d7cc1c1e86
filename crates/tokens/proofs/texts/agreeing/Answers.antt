-- `tokens::texts::agreeing`: byte by byte, as long as they agree.
use Rattle.tokens.proofs.TextBytes.{agreed-init, agreed-step, agreed-done, text-over, text-other}
use borrow.Author.Rules.{rules}
use Rattle.tokens.proofs.texts.agreeing.Goals.{then-s-from-via-then-s-from, then-s-from-via-else-s-from+then-s-from-2}
use Rattle.tokens.proofs.texts.agreeing.Goals as goal

pub loop-i-init : goal.loop-i-init
loop-i-init c = search (rules, agreed-init)

pub returns-then-s-from : goal.returns-then-s-from
returns-then-s-from c = elim c.then-s-from.branch [
  | then-s-from-via-then-s-from w ↦ search (rules, text-over)
  | then-s-from-via-else-s-from+then-s-from-2 w ↦ search (rules, text-other)
]

pub loop-i-preserved : goal.loop-i-preserved
loop-i-preserved c = search (rules, agreed-step)

pub returns : goal.returns
returns c = search (rules, agreed-done)
