-- `precedence::after_reads`: what is gathered, and the entries at the variables that are left lack the occurrence.
use borrow.Author.Rules.{rules}
use Rattle.precedence.proofs.ByItem.{gathering-init, gathering-step, gathering-done}
use Rattle.precedence.proofs.ByItem.{joining-done}
use Rattle.precedence.proofs.Changing.{joining-init, joining-step}
use Rattle.precedence.proofs.after_reads.Goals as goal

pub loop-v-init : goal.loop-v-init
loop-v-init c = (search rules, (search (rules, gathering-init), search (rules, joining-init)))

pub loop-v-preserved : goal.loop-v-preserved
loop-v-preserved c = (search rules, (search (rules, gathering-step), search (rules, joining-step)))

pub returns : goal.returns
returns c = record {
  gathers = search (rules, gathering-done);
  joins = search (rules, joining-done);
}
