-- `reader::reads::read_by`: the lists, and both routes of them.
use Rattle.reader.proofs.WholeSheet.{sheet-refused, sheet-read}
use borrow.Author.Rules.{rules}
use Rattle.reader.proofs.reads.read_by.Goals as goal

pub returns-in_err-c : goal.returns-in_err-c
returns-in_err-c c = search (rules, sheet-refused)

pub returns : goal.returns
returns c = search (rules, sheet-read)
