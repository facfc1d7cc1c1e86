-- `listing_lines::refused_line`: the word with the number, the second number, the end.
use borrow.Author.Rules.{rules}
use Rattle.listing_lines.proofs.Line.{refused-first, refused-second, refused-third, refused-whole}
use Rattle.listing_lines.proofs.refused_line.Goals as goal

pub figure-first-requires : goal.figure-first-requires
figure-first-requires c = search (rules, refused-first)

pub entry-last-requires : goal.entry-last-requires
entry-last-requires c = search (rules, refused-second)

pub text-requires : goal.text-requires
text-requires c = search (rules, refused-third)

pub returns : goal.returns
returns c = search (rules, refused-whole)
