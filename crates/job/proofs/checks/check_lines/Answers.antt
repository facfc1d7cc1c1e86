-- `job::checks::check_lines`: the old route's lines, the new route's, the done lines; the lengths say where each
-- begins.
use borrow.Author.Rules.{rules}
use Rattle.job.specs.Job.{job_in}
use Rattle.job.proofs.Rows.{route-few, head-fits, lines-old, lines_new, lines-done}
use Rattle.job.proofs.checks.check_lines.Goals as goal

pub returns-in_err-check_route : goal.returns-in_err-check_route
returns-in_err-check_route c = search (rules, lines-old)

pub next_head-requires : goal.next_head-requires
next_head-requires c = let passed = c.in_ok-check_route.ensures in search (rules, route-few)

pub check_route-requires-2 : goal.check_route-requires-2
check_route-requires-2 c = let passed = c.in_ok-check_route.ensures in search (rules, head-fits, route-few)

pub returns-in_err-check_route-2 : goal.returns-in_err-check_route-2
returns-in_err-check_route-2 c =
    let refused =
    lines_new (job_in c.args.job)
    c.in_ok-check_route.ensures _ c.next_head.ensures c.in_err-check_route-2.field-0.0 c.in_err-check_route-2.ensures in
    search rules

pub job_line-requires : goal.job_line-requires
job_line-requires c =
    let old = c.in_ok-check_route.ensures in
    let new = c.in_ok-check_route-2.ensures in
    search (rules, route-few)

pub returns : goal.returns
returns c =
    let old = c.in_ok-check_route.ensures in
    let new = c.in_ok-check_route-2.ensures in
    search (rules, lines-done)
