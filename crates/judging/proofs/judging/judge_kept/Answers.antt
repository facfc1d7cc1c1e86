-- `judging::judging::judge_kept`: the search over the candidates finds the first fit list of the kept.
use borrow.Author.Rules.{rules}
use Rattle.judging.proofs.JudgeRows.{passing-matched, passing-few, passing-limit, order-short}
use Rattle.judging.proofs.JudgeRows.{order-judged, none-judged}
use Rattle.judging.proofs.judging.judge_kept.Goals as goal

-- the columns of the kept
pub columns-c-requires : goal.columns-c-requires
columns-c-requires c = search (rules, passing-limit, passing-matched)

pub answered-requires : goal.answered-requires
answered-requires c = search (rules, order-short, passing-few)

pub returns-in_default-clause-answers_first : goal.returns-in_default-clause-answers_first
returns-in_default-clause-answers_first c = λ k. search (rules, none-judged k)

pub returns-clause-answers_first : goal.returns-clause-answers_first
returns-clause-answers_first c = search (rules, order-judged)
