-- `flat::put`: four numbers stored are one step stored.
use borrow.Author.Rules.{rules}
use Rattle.flat.proofs.FlatSteps.{flat-put-step}
use Rattle.flat.proofs.put.Goals as goal

pub returns : goal.returns
returns c = search (rules, flat-put-step)
