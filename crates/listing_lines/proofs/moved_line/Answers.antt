-- `listing_lines::moved_line`: two figures and the end.
use borrow.Author.Rules.{rules}
use Rattle.listing_lines.proofs.Line.{moved-first, moved-second, moved-third, moved-whole}
use Rattle.listing_lines.proofs.moved_line.Goals as goal

pub figure-middle-requires : goal.figure-middle-requires
figure-middle-requires c = search (rules, moved-first)

pub figure-last-requires : goal.figure-last-requires
figure-last-requires c = search (rules, moved-second)

pub text-requires : goal.text-requires
text-requires c = search (rules, moved-third)

pub returns : goal.returns
returns c = search (rules, moved-whole)
