-- `flat::laying::lay`: the steps laid so far are the first of the route's.
use borrow.Author.Rules.{rules}
use Rattle.flat.proofs.LaidSteps.{lay-end, lay-on, lay-over}
use Rattle.flat.proofs.laying.lay.Goals as goal

pub returns-then-i-ge-STEPS : goal.returns-then-i-ge-STEPS
returns-then-i-ge-STEPS c = search (rules, lay-over)

pub loop-i-preserved : goal.loop-i-preserved
loop-i-preserved c = (search rules, search (rules, lay-on))

pub returns : goal.returns
returns c = search (rules, lay-end)
