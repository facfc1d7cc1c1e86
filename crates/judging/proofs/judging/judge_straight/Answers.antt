-- `judging::judging::judge_straight`: all in turn, and all of them kept.
use mathlib.Core.Path.{ap, ◌∙◌}
use Prim.Native.Nat.{ℕ}
use borrow.Author.Rules.{rules}
use lib.ListN.{length}
use Rattle.mask.specs.Mask.{below}
use Rattle.mask.proofs.Members.{below-few}
use Rattle.flat.specs.Flat.{steps_in}
use Rattle.precedence.specs.Order.{in_turn}
use Rattle.answering.specs.Answer.{answer}
use Rattle.judging.proofs.JudgeRows.{straight-list}
use Rattle.judging.proofs.judging.judge_straight.Goals as goal

pub answered-requires : goal.answered-requires
answered-requires c = search (rules, below-few)

pub returns : goal.returns
returns c from new rows vars m =
    let done = steps_in c.args.occurrences.now in
    let n = c.count-len.ensures in
    c.answered.ensures from new (in_turn 0 (length done)) rows vars
    (straight-list from new done _ _ _ n c.straight_order-order.ensures m)
    ∙ ap (λ (k : ℕ). answer from new done k (in_turn 0 (length done)))
    (c.below-kept.ensures ∙ ap (λ (k : ℕ). below k) n)
