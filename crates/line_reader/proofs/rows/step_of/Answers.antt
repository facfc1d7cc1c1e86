-- `line_reader::rows::step_of`: the record of the form.
use mathlib.Core.Path.{◌∙◌}
use Rattle.line_reader.proofs.LineForm.{step-form}
use Rattle.line_reader.proofs.rows.step_of.Goals as goal

pub returns : goal.returns
returns c = λ v f n limits is few fits. c.«of».ensures ∙ step-form _ f is v n limits few fits
