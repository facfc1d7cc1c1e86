-- `listing::printing::text`: a refusal, or the first lines and the last.
use borrow.Author.Rules.{rules}
use Rattle.emit.proofs.Chains.{emits-as}
use Rattle.listing.proofs.ListingText.{refusal_is, refusal-room, success-first, success-second, success-whole}
use Rattle.listing.proofs.printing.text.Goals as goal

pub refused_line-requires : goal.refused_line-requires
refused_line-requires c = search (rules, refusal-room)

pub returns-then-a-ne0 : goal.returns-then-a-ne0
returns-then-a-ne0 c = search (rules, emits-as, refusal_is)

pub first_lines-middle-requires : goal.first_lines-middle-requires
first_lines-middle-requires c = search (rules, success-first)

pub last_lines-requires : goal.last_lines-requires
last_lines-requires c = search (rules, success-second)

pub returns : goal.returns
returns c = search (rules, success-whole)
