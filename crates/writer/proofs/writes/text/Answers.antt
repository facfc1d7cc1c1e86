-- `writer::writes::text`: the two routes, then the job part.
use borrow.Author.Rules.{rules}
use Rattle.writer.proofs.WholeText.{text-first, text-second, text-third, text-whole}
use Rattle.writer.proofs.writes.text.Goals as goal

pub route_lines-a-requires : goal.route_lines-a-requires
route_lines-a-requires c = search (rules, text-first)

pub route_lines-b-requires : goal.route_lines-b-requires
route_lines-b-requires c = search (rules, text-second)

pub job_lines-requires : goal.job_lines-requires
job_lines-requires c = search (rules, text-third)

pub returns : goal.returns
returns c = search (rules, text-whole)
