-- `job::checks::check_head`: the head's row, then the start line's.
use borrow.Author.Rules.{rules}
use Rattle.job.proofs.Rows.{head-places, head-two, start-two, head-pass}
use Rattle.job.proofs.checks.check_head.Goals as goal

pub returns-then-not-places_fit : goal.returns-then-not-places_fit
returns-then-not-places_fit c = search (rules, head-two)

pub start_fits-requires : goal.start_fits-requires
start_fits-requires c = search (rules, head-places)

pub returns-then-not-start_fits : goal.returns-then-not-start_fits
returns-then-not-start_fits c = search (rules, start-two)

pub returns : goal.returns
returns c = search (rules, head-pass)
