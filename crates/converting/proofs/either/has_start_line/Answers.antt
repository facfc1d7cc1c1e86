-- `converting::either::has_start_line`: past the first line.
use Rattle.layout.specs.Words.{spelling}
use Rattle.converting.proofs.Told.{tells}
use Rattle.converting.proofs.either.has_start_line.Goals as goal

pub returns : goal.returns
unfolding spelling
returns c = tells _ _ c.past_lines-k.ensures _ c.starts_with.ensures.value
