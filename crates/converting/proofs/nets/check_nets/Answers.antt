-- `converting::nets::check_nets`: the old route, then the new.
use borrow.Author.Rules.{rules}
use Rattle.job.specs.Job.{job_in}
use Rattle.converting.proofs.BothNets.{old-net, new-net, nets-pass}
use Rattle.converting.proofs.nets.check_nets.Goals as goal

pub returns-in_err-open_at : goal.returns-in_err-open_at
returns-in_err-open_at c =
    let refused = old-net c.args.v (job_in c.args.job) _ _ c.start_lines-starts.ensures.value c.new_head-head.ensures
    c.in_err-open_at.field-0.0 c.in_err-open_at.ensures.outcome in
    search rules

pub returns-in_err-open_at-2 : goal.returns-in_err-open_at-2
returns-in_err-open_at-2 c =
    let refused = new-net c.args.v (job_in c.args.job) _ _ c.start_lines-starts.ensures.value c.new_head-head.ensures
    c.in_ok-open_at.ensures.outcome c.in_err-open_at-2.field-0.0 c.in_err-open_at-2.ensures.outcome in
    search rules

pub returns : goal.returns
returns c =
    nets-pass c.args.v (job_in c.args.job) _ _ c.start_lines-starts.ensures.value c.new_head-head.ensures
    c.in_ok-open_at.ensures.outcome c.in_ok-open_at-2.ensures.outcome
