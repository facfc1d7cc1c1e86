-- `sheet_lines::word_line`: its parts in turn.
use borrow.Author.Rules.{rules}
use Rattle.sheet_lines.proofs.InParts.{word_first, word-second, word-third, word-whole}
use Rattle.sheet_lines.proofs.word_line.Goals as goal

pub opened-a-requires : goal.opened-a-requires
opened-a-requires c = search (rules, word_first)

pub entry-b-requires : goal.entry-b-requires
entry-b-requires c = search (rules, word-second)

pub closed-requires : goal.closed-requires
closed-requires c = search (rules, word-third)

pub returns : goal.returns
returns c = search (rules, word-whole)
