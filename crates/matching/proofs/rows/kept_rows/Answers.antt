-- `matching::rows::kept_rows`: row 10, and else the lines.
use mathlib.Core.Path.{ap, ◌∙◌}
use mathlib.Core.Bool.{not}
use Rattle.refusal.specs.Rows.{refuse}
use Rattle.refusal.specs.Refusal.{number_of}
use Rattle.refusal.specs.declared.Refusal.{Refusal}
use Rattle.matching.proofs.KeptLimit.{rows-over, rows-lines}
use Rattle.matching.proofs.rows.kept_rows.Goals as goal

pub returns-then-not-limited : goal.returns-then-not-limited
returns-then-not-limited c =
    λ from new l is kept same straight.
    ap (λ (e : Refusal). refuse (number_of e.row) e.second) c.at.ensures
    ∙ rows-over _ from new l _ _ kept straight _ c.limited.ensures (ap not c.if-not-limited.true)

pub returns : goal.returns
returns c =
    λ from new l is kept same straight.
    c.kept_lines.ensures new l is same
    ∙ rows-lines _ from new l _ _ kept straight _ c.limited.ensures (ap not c.if-not-limited.false)
