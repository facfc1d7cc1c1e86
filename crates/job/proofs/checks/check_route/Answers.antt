-- `job::checks::check_route`: the head, the steps, and whether there is one.
use borrow.Author.Rules.{rules}
use Rattle.job.proofs.Rows.{head-count, route-head, route-steps, route-none, route-pass}
use Rattle.job.proofs.checks.check_route.Goals as goal

pub returns-in_err-check_head : goal.returns-in_err-check_head
returns-in_err-check_head c = search (rules, route-head)

pub check_steps-requires : goal.check_steps-requires
check_steps-requires c = let headed = c.in_ok-check_head.ensures in search (rules, head-count)

pub returns-in_err-check_steps : goal.returns-in_err-check_steps
returns-in_err-check_steps c = let headed = c.in_ok-check_head.ensures in search (rules, route-steps)

pub returns-then-count-eq0 : goal.returns-then-count-eq0
returns-then-count-eq0 c =
    let headed = c.in_ok-check_head.ensures in
    let passed = c.in_ok-check_steps.ensures in
    search (rules, route-none)

pub returns : goal.returns
returns c =
    let headed = c.in_ok-check_head.ensures in
    let passed = c.in_ok-check_steps.ensures in
    search (rules, route-pass)
