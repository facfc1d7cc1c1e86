-- `sheet_lines::done_lines`: the names that are left.
use borrow.Author.Rules.{rules}
use Rattle.emit.proofs.Loops.{left-start}
use Rattle.sheet_lines.proofs.EachLine.{names-lined, each-room, each_turn, each-end}
use Rattle.sheet_lines.proofs.done_lines.Goals as goal

pub loop-name-init : goal.loop-name-init
loop-name-init c = (search rules, search (rules, left-start))

pub word_line-p-requires : goal.word_line-p-requires
word_line-p-requires c = search (rules, each-room names-lined 0)

pub loop-name-preserved : goal.loop-name-preserved
loop-name-preserved c = (search rules, search (rules, each_turn names-lined 0))

pub returns : goal.returns
returns c = search (rules, each-end names-lined 0)
