-- `sheet_lines::opened`: the bracket, then the word.
use borrow.Author.Rules.{rules}
use Rattle.sheet_lines.proofs.InParts.{opening-first, opening-second, opening-whole}
use Rattle.sheet_lines.proofs.opened.Goals as goal

pub put-p-requires : goal.put-p-requires
put-p-requires c = search (rules, opening-first)

pub word-requires : goal.word-requires
word-requires c = search (rules, opening-second)

pub returns : goal.returns
returns c = search (rules, opening-whole)
