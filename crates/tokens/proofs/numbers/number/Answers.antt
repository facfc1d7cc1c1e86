-- `tokens::numbers::number`: digit by digit, reading goes on.
use borrow.Author.Rules.{rules}
use Rattle.tokens.proofs.NumberBytes.{counts-init, counts-step, counts-other, counts-full, counts-over}
use Rattle.tokens.proofs.NumberBytes.{number-zero, number-over, number-other}
use Rattle.tokens.proofs.numbers.number.Goals.{then-not-is_ascii_digit-2-via-then-not-is_ascii_digit-2}
use Rattle.tokens.proofs.numbers.number.Goals.{then-not-is_ascii_digit-2-via-else-not-is_ascii_digit-2+then-left-eq0}
use Rattle.tokens.proofs.numbers.number.Goals as goal

pub returns-in_default : goal.returns-in_default
returns-in_default c = number-over _ _ _ c.requires c.in_default.ensures.lookup.3

pub returns-then-not-is_ascii_digit : goal.returns-then-not-is_ascii_digit
returns-then-not-is_ascii_digit c = search (
  rules,
  number-other c.args.v c.args.s.now c.args.from
      c.requires c.in-Some.field-0.now,
)

pub returns-then-b-eq48 : goal.returns-then-b-eq48
returns-then-b-eq48 c = search (rules, number-zero)

pub loop-i-init : goal.loop-i-init
loop-i-init c = search (rules, counts-init)

pub returns-then-not-is_ascii_digit-2 : goal.returns-then-not-is_ascii_digit-2
returns-then-not-is_ascii_digit-2 c = elim c.then-not-is_ascii_digit-2.branch [
  | then-not-is_ascii_digit-2-via-then-not-is_ascii_digit-2 w ↦ search (rules, counts-other)
  | then-not-is_ascii_digit-2-via-else-not-is_ascii_digit-2+then-left-eq0 w ↦ search (rules, counts-full)
]

pub loop-i-preserved : goal.loop-i-preserved
loop-i-preserved c = search (rules, counts-step)

pub returns : goal.returns
returns c = search (rules, counts-over)
