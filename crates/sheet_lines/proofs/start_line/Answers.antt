-- `sheet_lines::start_line`: its parts in turn where the version has it, else nothing.
use borrow.Author.Rules.{rules}
use Rattle.sheet_lines.proofs.InParts.{start_first, start-second, start-third, start-whole, start-lacks}
use Rattle.sheet_lines.proofs.start_line.Goals as goal

pub opened-a-requires : goal.opened-a-requires
opened-a-requires c = search (rules, start_first)

pub entries-b-requires : goal.entries-b-requires
entries-b-requires c = record {
  first_bound = search rules;
  room = search (rules, start-second);
}

pub closed-requires : goal.closed-requires
closed-requires c = search (rules, start-third)

pub returns-then-v : goal.returns-then-v
returns-then-v c = search (rules, start-whole)

pub returns : goal.returns
returns c = search (rules, start-lacks)
