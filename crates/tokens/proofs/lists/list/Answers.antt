-- `tokens::lists::list`: entry by entry, reading goes on.
use Rattle.tokens.proofs.ListBytes.{entered-init, entered-low, entered-high, list-closes, list-other}
use Rattle.tokens.proofs.ListBytes.{list-number, list-over}
use borrow.Author.Rules.{rules}
use Rattle.tokens.specs.inner.Tokens.{ListOn}
use Rattle.tokens.proofs.Bytes.{handed}
use Rattle.tokens.proofs.lists.list.Goals as goal

pub loop-i-init : goal.loop-i-init
loop-i-init c = search (rules, entered-init)

pub returns-then-b-eq41 : goal.returns-then-b-eq41
returns-then-b-eq41 c = search (rules, list-closes)

pub returns-then-b-ne32 : goal.returns-then-b-ne32
returns-then-b-ne32 c = search (rules, list-other)

pub returns-in_err-n : goal.returns-in_err-n
returns-in_err-n c =
    handed (ListOn c.args.v c.args.s.now c.args.from) _ _ c.from_residual.ensures.1
    (list-number _ _ _ _ _ c.loop-i.invariant c.loop-i-test.true _ c.if-b-ne32.false c.in_err-n.ensures)

pub loop-i-preserved-then-e-top : goal.loop-i-preserved-then-e-top
loop-i-preserved-then-e-top c = search (rules, entered-low)

pub loop-i-preserved : goal.loop-i-preserved
loop-i-preserved c = search (rules, entered-high)

pub returns : goal.returns
returns c = search (rules, list-over)
