-- `judging::judging::judge_lists`: row 14, then the lines, and where they pass the rest.
use borrow.Author.Rules.{rules}
use Rattle.judging.proofs.JudgeOperation.{judged-short, work-short, judged-line, work-line}
use Rattle.judging.proofs.judging.judge_lists.Goals as goal

pub returns-then-work-lt-WORK : goal.returns-then-work-lt-WORK
returns-then-work-lt-WORK c = record {
  value = search (rules, judged-short);
  work_after = search (rules, work-short);
}

pub returns-in_err-check_lines : goal.returns-in_err-check_lines
returns-in_err-check_lines c = record {
  value = search (rules, judged-line);
  work_after = search (rules, work-line);
}
