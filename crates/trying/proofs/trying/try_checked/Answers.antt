-- `trying::trying::try_checked`: the rows to 12, and else the list.
use borrow.Author.Rules.{rules}
use Rattle.job.specs.Job.{job_in}
use Rattle.trying.proofs.TryRows.{tried-refused}
use Rattle.preparing.proofs.Preparation.{rows-pass, prepared-of, kept-matched}
use Rattle.trying.proofs.AfterRow12.{tried-prepared}
use Rattle.trying.proofs.trying.try_checked.Goals as goal

pub returns-in_err-p : goal.returns-in_err-p
returns-in_err-p c = search (rules, tried-refused)

pub pairs_of-pairs-requires : goal.pairs_of-pairs-requires
pairs_of-pairs-requires c =
    let told = c.prepare-p.ensures in
    let rows = rows-pass (job_in c.args.job) _ told.rows _ c.in_ok-p.was in
    let prepared = prepared-of (job_in c.args.job) _ _ _ rows told.filled told.weighed in
    record {
      in_bounds = search rules;
      filled = prepared.filled;
    }

pub try_prepared-requires : goal.try_prepared-requires
try_prepared-requires c =
    let told = c.prepare-p.ensures in
    let rows = rows-pass (job_in c.args.job) _ told.rows _ c.in_ok-p.was in
    let prepared = prepared-of (job_in c.args.job) _ _ _ rows told.filled told.weighed in
    search (rules, kept-matched _ _ rows _ _ prepared)

pub returns : goal.returns
returns c =
    let told = c.prepare-p.ensures in
    let rows = rows-pass (job_in c.args.job) _ told.rows _ c.in_ok-p.was in
    let prepared = prepared-of (job_in c.args.job) _ _ _ rows told.filled told.weighed in
    search (rules, tried-prepared _ _ rows _ _ prepared)
