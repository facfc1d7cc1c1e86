-- `reader::part::job_part`: what is read says how many lines to pass.
use Rattle.reader.proofs.WholeSheet.{part-refused, part-read}
use Rattle.reader.proofs.part.job_part.Goals as goal

pub returns-in_default : goal.returns-in_default
returns-in_default c = part-refused _ _ _ _ _ c.in_default.ensures

pub returns : goal.returns
returns c = part-read _ _ _ _ c.in-Ok.c c.in-Ok.ensures _ c.past_lines-k.ensures
