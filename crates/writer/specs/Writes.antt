-- What write answers and what it leaves in the lent slice.
use Rattle.std.specs.Prelude.{List, ℕ}
use Rattle.out_slice.specs.OutSlice.{wrote_past, out_past}
use Rattle.out_slice.specs.declared.Wrote.{Wrote}
use Rattle.refusal.specs.Rows.{first}
use Rattle.job.specs.Job.{Job}
use Rattle.job.specs.Lines.{line_rows}
use Rattle.writer.specs.Written.{written}

-- rows 4, 2, 3 and 5, then the text, or 15; n is the slice's length
abbrev pub wrote : Job → ℕ → Wrote
wrote j n = wrote_past (first (line_rows j)) (written j) n

-- the text and the bytes past it; all bytes where write refuses
abbrev pub out_after : Job → List ℕ → List ℕ
out_after j o = out_past (first (line_rows j)) (written j) o
