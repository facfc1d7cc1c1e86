-- `listing_tables::after_lines`: from one kept occurrence to the next.
use borrow.Author.Rules.{rules}
use Rattle.emit.proofs.Loops.{mask_end}
use Rattle.listing_tables.proofs.EachLine.{after-start, row_room, row-turn}
use Rattle.listing_tables.proofs.after_lines.Goals as goal

pub loop-i-init : goal.loop-i-init
loop-i-init c = after-start _ _ _ (search rules) c.requires

pub after_line-end-requires : goal.after_line-end-requires
after_line-end-requires c = record { i_bound = search rules; room = search (rules, row_room) }

pub loop-i-preserved : goal.loop-i-preserved
loop-i-preserved c = row-turn _ _ c.loop-i.invariant c.in-Some.ensures.steps c.after_line-end.ensures

pub returns : goal.returns
returns c = search (rules, mask_end)
