-- `listing_tables::value_lines`: the variables in turn.
use borrow.Author.Rules.{rules}
use Rattle.listing_tables.proofs.EachLine.{values-start, values-room, values-turn, values-end}
use Rattle.listing_tables.proofs.value_lines.Goals as goal

pub loop-v-init : goal.loop-v-init
loop-v-init c = (search rules, search (rules, values-start))

pub value_line-end-requires : goal.value_line-end-requires
value_line-end-requires c = search (rules, values-room)

pub loop-v-preserved : goal.loop-v-preserved
loop-v-preserved c = (search rules, search (rules, values-turn))

pub returns : goal.returns
returns c = search (rules, values-end)
