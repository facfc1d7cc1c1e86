-- `sheet_lines::route_lines`: the head, the start line, then the steps.
use borrow.Author.Rules.{rules}
use Rattle.sheet_lines.proofs.InParts.{route-first, route-second, route-third, route-whole}
use Rattle.sheet_lines.proofs.route_lines.Goals as goal

pub word_line-a-requires : goal.word_line-a-requires
word_line-a-requires c = search (rules, route-first)

pub start_line-b-requires : goal.start_line-b-requires
start_line-b-requires c = search (rules, route-second)

pub step_lines-requires : goal.step_lines-requires
step_lines-requires c = search (rules, route-third)

pub returns : goal.returns
returns c = search (rules, route-whole)
