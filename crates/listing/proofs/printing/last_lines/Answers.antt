-- `listing::printing::last_lines`: one line after another.
use borrow.Author.Rules.{rules}
use Rattle.listing.proofs.ListingText.{three-first, three-second, three_third, three-whole}
use Rattle.listing.proofs.printing.last_lines.Goals as goal

pub order_line-middle-requires : goal.order_line-middle-requires
order_line-middle-requires c = search (rules, three-first)

pub marking_line-end-requires : goal.marking_line-end-requires
marking_line-end-requires c = search (rules, three-second)

pub value_lines-requires : goal.value_lines-requires
value_lines-requires c = search (rules, three_third)

pub returns : goal.returns
returns c = search (rules, three-whole)
