-- `listing_lines::order_line`: the word, the entries that the list has, the end.
use borrow.Author.Rules.{rules}
use Rattle.listing_lines.proofs.Line.{order-long, order-first, order-second, order-third, order-whole}
use Rattle.listing_lines.proofs.order_line.Goals as goal

pub text-first-requires : goal.text-first-requires
text-first-requires c = search (rules, order-first)

pub slice_bounds-list_entries-end : goal.slice_bounds-list_entries-end
slice_bounds-list_entries-end c = search (rules, order-long)

pub list_entries-last-requires : goal.list_entries-last-requires
list_entries-last-requires c = search (rules, order-second)

pub text-requires : goal.text-requires
text-requires c = search (rules, order-third)

pub returns : goal.returns
returns c = search (rules, order-whole)
