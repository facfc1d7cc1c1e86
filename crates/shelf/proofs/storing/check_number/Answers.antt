-- `shelf::storing::check_number`: the rows in turn.
use mathlib.Core.Path.{sym}
use lib.Seq.{length-take-le}
use borrow.Author.Rules.{rules}
use Rattle.shelf.proofs.GoodShelf.{good-few}
use Rattle.shelf.proofs.PutRows.{shelf-bad, number-bad, shelf-full, shelf-room}
use Rattle.shelf.proofs.storing.check_number.Goals as goal

pub returns-then-not-is_good : goal.returns-then-not-is_good
returns-then-not-is_good c = search (rules, shelf-bad)

pub slice_bounds-numbers-end : goal.slice_bounds-numbers-end
slice_bounds-numbers-end c = search (rules, good-few)

pub slice_bounds-last_of-end : goal.slice_bounds-last_of-end
slice_bounds-last_of-end c = sym (length-take-le _ _ (search rules))

pub returns-then-not-number_fits : goal.returns-then-not-number_fits
returns-then-not-number_fits c = search (rules, number-bad)

pub returns-then-len-ge-EDITIONS : goal.returns-then-len-ge-EDITIONS
returns-then-len-ge-EDITIONS c = search (rules, shelf-full)

pub returns : goal.returns
returns c = search (rules, shelf-room)
