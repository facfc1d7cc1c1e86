-- `sheet_lines::job_lines`: its parts in turn.
use borrow.Author.Rules.{rules}
use Rattle.sheet_lines.proofs.InParts.{job-first, job-second, job-third, job-whole}
use Rattle.sheet_lines.proofs.job_lines.Goals as goal

pub opened-a-requires : goal.opened-a-requires
opened-a-requires c = search (rules, job-first)

pub closed-b-requires : goal.closed-b-requires
closed-b-requires c = search (rules, job-second)

pub done_lines-requires : goal.done_lines-requires
done_lines-requires c = search (rules, job-third)

pub returns : goal.returns
returns c = search (rules, job-whole)
