-- `listing_lines::marking_line`: the word, the members, the end.
use borrow.Author.Rules.{rules}
use Rattle.listing_lines.proofs.Line.{marking-first, marking-second, marking-third, marking-whole}
use Rattle.listing_lines.proofs.marking_line.Goals as goal

pub text-first-requires : goal.text-first-requires
text-first-requires c = search (rules, marking-first)

pub entries-last-requires : goal.entries-last-requires
entries-last-requires c = record {
  first_bound = search rules;
  room = search (rules, marking-second);
}

pub text-requires : goal.text-requires
text-requires c = search (rules, marking-third)

pub returns : goal.returns
returns c = search (rules, marking-whole)
