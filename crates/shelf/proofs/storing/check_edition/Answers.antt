-- `shelf::storing::check_edition`: the route laid as numbers; what it has past its 65th step changes nothing.
use mathlib.Core.Path.{sym}
use lib.Seq.{length-take-le}
use borrow.Author.Rules.{rules}
use Rattle.job.proofs.LongLists.{alone-laid}
use Rattle.shelf.proofs.storing.check_edition.Goals as goal

pub slice_bounds-check_alone-end : goal.slice_bounds-check_alone-end
slice_bounds-check_alone-end c = sym (length-take-le _ _ (search rules))

pub returns : goal.returns
returns c = search (rules, alone-laid)

pub returns-in_err-check_alone : goal.returns-in_err-check_alone
returns-in_err-check_alone c = search (rules, alone-laid)
