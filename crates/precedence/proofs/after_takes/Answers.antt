-- `precedence::after_takes`: what is gathered, then the entries at the places that are left as they were.
use borrow.Author.Rules.{rules}
use Rattle.precedence.proofs.ByItem.{gathering-init, gathering-step, gathering-done}
use Rattle.precedence.proofs.Changing.{putting-init, putting-step}
use Rattle.precedence.proofs.Putters.{putting-done}
use Rattle.precedence.proofs.after_takes.Goals as goal

pub loop-p-init : goal.loop-p-init
loop-p-init c = search (rules, gathering-init)

pub loop-p-preserved : goal.loop-p-preserved
loop-p-preserved c = search (rules, gathering-step)

pub loop-p-2-init : goal.loop-p-2-init
loop-p-2-init c = (search rules, search (rules, putting-init))

pub loop-p-2-preserved : goal.loop-p-2-preserved
loop-p-2-preserved c = (search rules, search (rules, putting-step))

pub returns : goal.returns
returns c = record { gathers = search (rules, gathering-done); puts = search (rules, putting-done) }
