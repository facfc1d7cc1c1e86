-- `listing_lines::figure`: the word, then the entry.
use borrow.Author.Rules.{rules}
use Rattle.emit.proofs.Chains.{two-first, two-second, two-whole}
use Rattle.listing_lines.proofs.figure.Goals as goal

pub text-end-requires : goal.text-end-requires
text-end-requires c = search (rules, two-first)

pub entry-requires : goal.entry-requires
entry-requires c = search (rules, two-second)

pub returns : goal.returns
returns c = search (rules, two-whole)
