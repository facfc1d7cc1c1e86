-- `order_entries::fresh`: 0 and numbers over 64 are never kept; else one look into the mask.
use borrow.Author.Rules.{rules}
use Rattle.order_entries.proofs.Row16.{fresh-out, fresh-in}
use Rattle.order_entries.proofs.fresh.Goals as goal

pub returns-then-contains : goal.returns-then-contains
returns-then-contains c = search (rules, fresh-in)

pub returns-else-contains : goal.returns-else-contains
returns-else-contains c = search (rules, fresh-out)
