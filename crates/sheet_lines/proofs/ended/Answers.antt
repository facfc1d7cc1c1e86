-- `sheet_lines::ended`: the mark where there is one, then the two bytes.
use borrow.Author.Rules.{rules}
use Rattle.sheet_lines.proofs.InParts.{marked-first, marked-second, marked-whole, unmarked-room, unmarked-whole}
use Rattle.sheet_lines.proofs.ended.Goals as goal

pub list-p-requires : goal.list-p-requires
list-p-requires c = search (rules, marked-first)

pub closed-requires : goal.closed-requires
closed-requires c = search (rules, marked-second)

pub returns-then-cloth : goal.returns-then-cloth
returns-then-cloth c = search (rules, marked-whole)

pub closed-requires-2 : goal.closed-requires-2
closed-requires-2 c = search (rules, unmarked-room)

pub returns : goal.returns
returns c = search (rules, unmarked-whole)
