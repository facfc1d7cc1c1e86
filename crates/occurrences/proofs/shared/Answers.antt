-- `occurrences::shared`: one step more leaves the same places, and at the end nothing is left.
use borrow.Author.Rules.{rules}
use Rattle.occurrences.proofs.SharedPlaces.{sharing-init, sharing-step, sharing-done}
use Rattle.occurrences.proofs.shared.Goals as goal

pub loop-s-init : goal.loop-s-init
loop-s-init c = search (rules, sharing-init)

pub loop-s-preserved : goal.loop-s-preserved
loop-s-preserved c = search (rules, sharing-step)

pub returns : goal.returns
returns c = search (rules, sharing-done)
