-- `listing::printing::write_listing`: what the closure writes ends within its slice.
use borrow.Author.Rules.{rules}
use Rattle.out_slice.proofs.TextInSlice.{end-inside}
use Rattle.listing.proofs.ListingText.{listing-fits}
use Rattle.listing.proofs.printing.write_listing.Goals as goal

pub write-requires-clause-inside : goal.write-requires-clause-inside
write-requires-clause-inside c x n y room post = search (rules, end-inside, listing-fits)
