-- `precedence::after_writes`: what is gathered of both, and the entries at the variables that are left lack the
-- occurrence.
use mathlib.Core.Path.{refl}
use borrow.Author.Rules.{rules}
use Rattle.precedence.proofs.ByItem.{gathering-init, gathering-step, gathering-joined, gathering-both}
use Rattle.precedence.proofs.ByItem.{joining-done}
use Rattle.precedence.proofs.Changing.{untouched-step, joining-init, joining-step}
use Rattle.precedence.proofs.after_writes.Goals as goal

pub loop-v-init : goal.loop-v-init
loop-v-init c = (
  search rules,
  (search (rules, gathering-init), (search (rules, gathering-init), (λ v h. refl, search (rules, joining-init)))),
)

pub loop-v-preserved : goal.loop-v-preserved
loop-v-preserved c = (
  search rules,
  (
    search (rules, gathering-step),
    (search (rules, gathering-joined), (search (rules, untouched-step), search (rules, joining-step))),
  ),
)

pub returns : goal.returns
returns c = record {
  by_index = search (rules, gathering-both);
  joins = search (rules, joining-done);
}
