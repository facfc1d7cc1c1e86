-- `layout::words::size`: the row of the word, six bytes to a row.
use native.Mathlib.Omega.{arith}
use Rattle.layout.proofs.Letters.{row_below, table-length, table-room}
use Rattle.layout.proofs.words.size.Goals as goal

pub overflow_mul-result : goal.overflow_mul-result
overflow_mul-result c = omega (arith, c.place-n.ensures, row_below c.args.w)

pub bounds-table-n : goal.bounds-table-n
bounds-table-n c =
    omega (arith, table-room _ _ c.args.w c.requires c.place-n.ensures 0 (omega arith))

pub returns : goal.returns
returns c = search table-length
