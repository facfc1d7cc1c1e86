-- `converting::down::check_said`: the old route's lines, the new route's, the done lines.
use borrow.Author.Rules.{rules}
use Rattle.job.specs.Job.{job_in}
use Rattle.job.proofs.Rows.{lists-fit, head-fits}
use Rattle.converting.proofs.Beyond.{old-beyond, new-beyond, done-beyond}
use Rattle.converting.proofs.down.check_said.Goals as goal

pub check_route-requires : goal.check_route-requires
check_route-requires c = search lists-fit

pub returns-in_err-check_route : goal.returns-in_err-check_route
returns-in_err-check_route c = search (rules, old-beyond)

pub next_head-requires : goal.next_head-requires
next_head-requires c = search lists-fit

pub check_route-requires-2 : goal.check_route-requires-2
check_route-requires-2 c = search (lists-fit, head-fits)

pub returns-in_err-check_route-2 : goal.returns-in_err-check_route-2
returns-in_err-check_route-2 c =
    let refused =
    new-beyond (job_in c.args.job)
    c.in_ok-check_route.ensures _ c.next_head.ensures c.in_err-check_route-2.field-0.0 c.in_err-check_route-2.ensures in
    search rules

pub job_line-requires : goal.job_line-requires
job_line-requires c = search lists-fit

pub check_done-requires : goal.check_done-requires
check_done-requires c = search lists-fit

pub returns : goal.returns
returns c =
    done-beyond (job_in c.args.job) c.in_ok-check_route.ensures _ c.next_head.ensures c.in_ok-check_route-2.ensures _
    c.job_line.ensures.value _ c.check_done.ensures
