-- `reader::lists::read_lists_by`: row 1, and the rows of the lines.
use Rattle.reader.proofs.WholeSheet.{read-broken}
use Rattle.reader.proofs.lists.read_lists_by.Goals as goal

pub returns-in-Err : goal.returns-in-Err
returns-in-Err c = read-broken _ _ _ _ _ _ _ c.at.ensures c.in-Err.ensures
