-- `shelf::storing::check`: the rows of the shelf and the number, then those of the route.
use borrow.Author.Rules.{rules}
use Rattle.shelf.proofs.PutRows.{put-stops, put-goes-on}
use Rattle.shelf.proofs.storing.check.Goals as goal

pub returns-in_err-check_number : goal.returns-in_err-check_number
returns-in_err-check_number c = search (rules, put-stops)

pub returns : goal.returns
returns c =
    let passed = c.in_ok-check_number.ensures in
    search (rules, put-goes-on)
