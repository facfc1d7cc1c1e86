-- `flat::count`: four numbers a step.
use mathlib.Core.Path.{sym}
use Rattle.flat.proofs.FlatSteps.{length-flat}
use Rattle.flat.proofs.count.Goals as goal

pub returns : goal.returns
returns c = sym (length-flat _)
