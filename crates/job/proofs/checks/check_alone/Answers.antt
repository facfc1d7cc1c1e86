-- `job::checks::check_alone`: the lines, then rows 6, 7 and 23.
use borrow.Author.Rules.{rules}
use Rattle.job.proofs.Rows.{route-places, route-few}
use Rattle.job.proofs.AloneRows.{alone-lines, alone-opens}
use Rattle.job.proofs.checks.check_alone.Goals as goal

pub returns-in_err-check_route-clause-outcome : goal.returns-in_err-check_route-clause-outcome
returns-in_err-check_route-clause-outcome c = search (rules, alone-lines)

pub open-requires : goal.open-requires
open-requires c = let passed = c.in_ok-check_route.ensures in search (rules, route-places, route-few)

pub returns-clause-outcome : goal.returns-clause-outcome
returns-clause-outcome c = let passed = c.in_ok-check_route.ensures in search (rules, alone-opens)
