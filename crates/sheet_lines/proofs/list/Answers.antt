-- `sheet_lines::list`: its parts in turn.
use borrow.Author.Rules.{rules}
use Rattle.sheet_lines.proofs.InParts.{list-first, list-second, list-third, list-fourth, list-whole}
use Rattle.sheet_lines.proofs.list.Goals as goal

pub put-a-requires : goal.put-a-requires
put-a-requires c = search (rules, list-first)

pub opened-b-requires : goal.opened-b-requires
opened-b-requires c = search (rules, list-second)

pub entries-c-requires : goal.entries-c-requires
entries-c-requires c = record {
  first_bound = search rules;
  room = search (rules, list-third);
}

pub put-requires : goal.put-requires
put-requires c = search (rules, list-fourth)

pub returns : goal.returns
returns c = search (rules, list-whole)
