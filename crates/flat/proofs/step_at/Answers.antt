-- `flat::step_at`: step i is made of the four numbers from 4 i on.
use Rattle.flat.proofs.FlatSteps.{flat-read}
use Rattle.flat.proofs.step_at.Goals as goal

pub returns : goal.returns
returns c = search flat-read
