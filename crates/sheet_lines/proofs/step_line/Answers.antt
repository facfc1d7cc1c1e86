-- `sheet_lines::step_line`: its parts in turn.
use borrow.Author.Rules.{rules}
use Rattle.sheet_lines.proofs.InParts.{step-first, step-second, step-third, step-fourth, step-whole}
use Rattle.sheet_lines.proofs.step_line.Goals as goal

pub opened-a-requires : goal.opened-a-requires
opened-a-requires c = search (rules, step-first)

pub entry-b-requires : goal.entry-b-requires
entry-b-requires c = search (rules, step-second)

pub four-c-requires : goal.four-c-requires
four-c-requires c = search (rules, step-third)

pub ended-requires : goal.ended-requires
ended-requires c = search (rules, step-fourth)

pub returns : goal.returns
returns c = search (rules, step-whole)
