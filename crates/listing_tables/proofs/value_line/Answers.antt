-- `listing_tables::value_line`: a blank variable has no line.
use borrow.Author.Rules.{rules}
use Rattle.listing_tables.proofs.TableLine.{value_none, value-first, value-second, value-third, value-whole}
use Rattle.listing_tables.proofs.value_line.Goals as goal

pub returns-then-writer-eq0 : goal.returns-then-writer-eq0
returns-then-writer-eq0 c = search (rules, value_none)

pub figure-first-requires : goal.figure-first-requires
figure-first-requires c = search (rules, value-first)

pub entry-last-requires : goal.entry-last-requires
entry-last-requires c = search (rules, value-second)

pub text-requires : goal.text-requires
text-requires c = search (rules, value-third)

pub returns : goal.returns
returns c = search (rules, value-whole)
