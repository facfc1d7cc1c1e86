-- `ops::print::answer`: the sheet's refusal, or judge's answer to the job that its lists hold.
use borrow.Author.Rules.{rules}
use Rattle.reader.proofs.JobOfLists.{lengths-few, read-passes}
use Rattle.ops.proofs.Prints.{answer-refused, work-refused, answer-judged, work-judged}
use Rattle.ops.proofs.print.answer.Goals as goal

pub returns-in_err-c : goal.returns-in_err-c
returns-in_err-c c =
    let refused = answer-refused _ c.in_err-c.field-0.0 _ _ _ c.in_err-c.ensures in
    record { value = search rules; work_after = search (rules, work-refused _ c.in_err-c.field-0.0 _ _ _ c.in_err-c.ensures) }

pub job-requires : goal.job-requires
job-requires c = search (rules, lengths-few)

pub judge_checked-requires : goal.judge_checked-requires
judge_checked-requires c = record {
  lines_pass = search (rules, read-passes);
  in_bounds = search rules;
}

pub returns : goal.returns
returns c = record {
  value =
      answer-judged _ c.in_ok-c.c _ _ _ c.in_ok-c.ensures _ c.job.ensures _ c.requires _ c.judge_checked.ensures.value;
  work_after =
      work-judged _ c.in_ok-c.c _ _ _ c.in_ok-c.ensures _ c.job.ensures _ _ c.judge_checked.ensures.work_after;
}
