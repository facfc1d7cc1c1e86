-- `listing_tables::after_line`: the word with the occurrence, its row, the end; an empty row has no line.
use borrow.Author.Rules.{rules}
use Rattle.listing_tables.proofs.TableLine.{after_first, after-second, after-third, after-whole, after_none}
use Rattle.listing_tables.proofs.after_line.Goals as goal

pub returns-then-row-eq0 : goal.returns-then-row-eq0
returns-then-row-eq0 c = search (rules, after_none)

pub figure-first-requires : goal.figure-first-requires
figure-first-requires c = search (rules, after_first)

pub entries-last-requires : goal.entries-last-requires
entries-last-requires c = record {
  first_bound = search rules;
  room = search (rules, after-second);
}

pub text-requires : goal.text-requires
text-requires c = search (rules, after-third)

pub returns : goal.returns
returns c = search (rules, after-whole)
