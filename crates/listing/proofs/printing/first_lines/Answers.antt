-- `listing::printing::first_lines`: one after another.
use borrow.Author.Rules.{rules}
use Rattle.emit.proofs.Chains.{two-first, two-second, two-whole}
use Rattle.listing.proofs.printing.first_lines.Goals as goal

pub moved_line-end-requires : goal.moved_line-end-requires
moved_line-end-requires c = search (rules, two-first)

pub after_lines-requires : goal.after_lines-requires
after_lines-requires c = search (rules, two-second)

pub returns : goal.returns
returns c = search (rules, two-whole)
