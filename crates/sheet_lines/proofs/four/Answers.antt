-- `sheet_lines::four`: the lists in turn.
use borrow.Author.Rules.{rules}
use Rattle.sheet_lines.proofs.InParts.{four-first, four-second, four-third, four-fourth, four-whole}
use Rattle.sheet_lines.proofs.four.Goals as goal

pub list-a-requires : goal.list-a-requires
list-a-requires c = search (rules, four-first)

pub list-b-requires : goal.list-b-requires
list-b-requires c = search (rules, four-second)

pub list-c-requires : goal.list-c-requires
list-c-requires c = search (rules, four-third)

pub list-requires : goal.list-requires
list-requires c = search (rules, four-fourth)

pub returns : goal.returns
returns c = search (rules, four-whole)
