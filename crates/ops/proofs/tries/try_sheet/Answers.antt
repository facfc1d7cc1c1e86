-- `ops::tries::try_sheet`: the sheet's refusal, or try's answer to the job that its lists hold.
use borrow.Author.Rules.{rules}
use Rattle.reader.proofs.JobOfLists.{lengths-few, read-passes}
use Rattle.ops.proofs.SheetTry.{try-refused, try-tried}
use Rattle.ops.proofs.tries.try_sheet.Goals as goal

pub returns-in_err-c : goal.returns-in_err-c
returns-in_err-c c = let refused = try-refused _ c.args.order.now c.in_err-c.field-0.0 _ _ _ c.in_err-c.ensures in search rules

pub job-requires : goal.job-requires
job-requires c = search (rules, lengths-few)

pub try_checked-requires : goal.try_checked-requires
try_checked-requires c = search (rules, read-passes)

pub returns : goal.returns
returns c = try-tried _ c.args.order.now c.in_ok-c.c _ _ _ c.in_ok-c.ensures _ c.job.ensures _ c.try_checked.ensures
