-- `ops::print::print`: row 14, then the answer to the sheet and its listing.
use borrow.Author.Rules.{rules}
use Rattle.ops.proofs.ListingLength.{answer-length}
use Rattle.ops.proofs.Prints.{printed-short, out-short, work-short, printed-long, out-long}
use Rattle.ops.proofs.print.print.Goals as goal

pub returns-then-work-lt-WORK : goal.returns-then-work-lt-WORK
returns-then-work-lt-WORK c = record {
  value = search (rules, printed-short);
  work_after = search (rules, work-short);
  out_after = search (rules, out-short);
}

pub write_listing-requires : goal.write_listing-requires
write_listing-requires c = search (rules, answer-length)

pub returns : goal.returns
returns c = record {
  value = search (rules, printed-long);
  work_after = search rules;
  out_after = search (rules, out-long);
}
