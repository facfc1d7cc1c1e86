-- `judging::judging::judge_checked`: the rows to 12 as the prepared job has them, and what follows.
use borrow.Author.Rules.{rules}
use Rattle.job.specs.Job.{job_in}
use Rattle.preparing.proofs.Preparation.{rows-pass, prepared-of}
use Rattle.judging.proofs.JudgeOperation.{judged-refused, work-refused, prepared-passing, judged-prepared}
use Rattle.judging.proofs.JudgeOperation.{work-prepared}
use Rattle.judging.proofs.judging.judge_checked.Goals as goal

pub returns-in_err-p : goal.returns-in_err-p
returns-in_err-p c = record {
  value = search (rules, judged-refused);
  work_after = search (rules, work-refused);
}

pub pairs_of-pairs-requires : goal.pairs_of-pairs-requires
pairs_of-pairs-requires c =
    let told = c.prepare-p.ensures in
    let rows = rows-pass (job_in c.args.job) _ told.rows _ c.in_ok-p.was in
    let prepared = prepared-of (job_in c.args.job) _ _ _ rows told.filled told.weighed in
    record {
      in_bounds = search rules;
      filled = prepared.filled;
    }

pub judge_prepared-requires : goal.judge_prepared-requires
judge_prepared-requires c =
    let told = c.prepare-p.ensures in
    let rows = rows-pass (job_in c.args.job) _ told.rows _ c.in_ok-p.was in
    let prepared = prepared-of (job_in c.args.job) _ _ _ rows told.filled told.weighed in
    record {
      passing = search (rules, prepared-passing (job_in c.args.job) _ rows _ _ prepared);
      in_bounds = search rules;
    }

pub returns : goal.returns
returns c =
    let told = c.prepare-p.ensures in
    let rows = rows-pass (job_in c.args.job) _ told.rows _ c.in_ok-p.was in
    let prepared = prepared-of (job_in c.args.job) _ _ _ rows told.filled told.weighed in
    record {
      value = search (judged-prepared (job_in c.args.job) _ rows _ _ prepared);
      work_after = search (work-prepared (job_in c.args.job) _ rows _ _ prepared);
    }
