-- `preparing::prepare`: the rows from 6 to 9, and else the occurrences against the new route's steps for them.
use mathlib.Core.Path.{ap, ◌∙◌}
use borrow.Author.Rules.{rules}
use Rattle.refusal.specs.Refusal.{outcome_of}
use Rattle.job.specs.Job.{job_in}
use Rattle.job.proofs.Rows.{lists-fit}
use Rattle.running.proofs.AfterRun.{run-stops}
use Rattle.preparing.proofs.Preparation.{run-refused, gathers-filled, rows-weighed, prepared-weighed}
use Rattle.preparing.proofs.prepare.Goals as goal

pub job_line-line-requires : goal.job_line-line-requires
job_line-line-requires c = search lists-fit

pub returns-in-Err : goal.returns-in-Err
returns-in-Err c =
    let j = job_in c.args.job in
    let e = c.in-Err.e in
    let ran = c.in-Err.ensures.ran in
    let told = c.refused.ensures in
    record {
      rows = ap outcome_of told.0 ∙ run-refused j e ran;
      line = told.1 ∙ c.job_line-line.ensures.value;
      filled = λ passes. absurd (run-stops j e ran passes);
      weighed = λ passes. absurd (run-stops j e ran passes);
    }

pub narrow-requires : goal.narrow-requires
narrow-requires c = record { in_bounds = (search lists-fit, search rules) }

pub pairs_of-pairs-requires : goal.pairs_of-pairs-requires
pairs_of-pairs-requires c = record {
  in_bounds = search rules;
  filled = gathers-filled (job_in c.args.job) c.in-Ok.g c.in-Ok.ensures.ran _ _ _ c.in-Ok.ensures.gathers
      c.requires.lines_pass c.narrow.ensures.holds;
}

pub returns : goal.returns
returns c =
    let j = job_in c.args.job in
    let g = c.in-Ok.g in
    let ran = c.in-Ok.ensures.ran in
    let gathers = c.in-Ok.ensures.gathers in
    let lines = c.requires.lines_pass in
    let line = c.job_line-line.ensures.value in
    let narrowed = c.narrow.ensures.holds in
    let pairs = c.pairs_of-pairs.ensures in
    let prepared = prepared-weighed j g ran _ _ _ gathers lines narrowed _ line _ pairs _ c.weigh.ensures.weighed in
    record {
      rows = rows-weighed j g ran _ _ _ gathers lines narrowed _ line _ pairs _ c.weigh.ensures.rows;
      line = prepared.weighed.line-is;
      filled = λ passes. prepared.filled;
      weighed = λ passes. prepared.weighed;
    }
