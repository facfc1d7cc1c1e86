-- `occurrences::narrow`: the steps passed are occurrences, those left are as they were.
use borrow.Author.Rules.{rules}
use Rattle.occurrences.proofs.Narrowed.{narrowing-inside, narrowing-step, narrowing-done}
use Rattle.occurrences.proofs.narrow.Goals as goal

pub step_at-s-requires : goal.step_at-s-requires
step_at-s-requires c = search (rules, narrowing-inside)

pub put-requires : goal.put-requires
put-requires c = search (rules, narrowing-inside)

pub loop-i-preserved : goal.loop-i-preserved
loop-i-preserved c = search (rules, narrowing-step)

pub returns-clause-holds : goal.returns-clause-holds
returns-clause-holds c = λ l. search (rules, narrowing-done)
