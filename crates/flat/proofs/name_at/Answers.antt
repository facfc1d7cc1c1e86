-- `flat::name_at`: the first of the four numbers.
use mathlib.Core.Path.{sym, ap, ◌∙◌}
use Rattle.flat.proofs.FlatSteps.{flat-at}
use Rattle.route.specs.declared.Step.{Step}
use Rattle.flat.proofs.name_at.Goals as goal

pub returns : goal.returns
returns c = c.low.ensures ∙ ap (λ (s : Step). s.name) (sym (flat-at _ _ c.requires))
