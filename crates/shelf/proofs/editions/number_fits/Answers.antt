-- `shelf::editions::number_fits`: both tests, the second only where the first holds.
use borrow.Author.Rules.{rules}
use Rattle.shelf.proofs.Numbers.{fits-above, fits_below}
use Rattle.shelf.proofs.editions.number_fits.Goals as goal

pub returns-then-last-number : goal.returns-then-last-number
returns-then-last-number c = search (rules, fits-above)

pub returns-else-last-number : goal.returns-else-last-number
returns-else-last-number c = search (rules, fits_below)
