-- `lent_reading::put`: the names copied, and what stood past them.
use borrow.Author.Rules.{rules}
use Rattle.records.specs.Overlaid.{overlaid}
use Rattle.lent_reading.proofs.put.Goals as goal

pub returns : goal.returns
unfolding overlaid
returns c = search rules
