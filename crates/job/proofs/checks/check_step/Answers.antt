-- `job::checks::check_step`: the rows in turn; row 4 passes.
use borrow.Author.Rules.{rules}
use Rattle.job.proofs.StepRow.{step-two, step-three, step-five, step-none, names-few}
use Rattle.job.proofs.checks.check_step.Goals as goal

pub returns-then-not-step_fits : goal.returns-then-not-step_fits
returns-then-not-step_fits c = search (rules, step-two, names-few)

pub returns-then-not-lists_fit : goal.returns-then-not-lists_fit
returns-then-not-lists_fit c = search (rules, step-three, names-few)

pub returns-then-has : goal.returns-then-has
returns-then-has c = search (rules, step-five, names-few)

pub returns : goal.returns
returns c = search (rules, step-none, names-few)
