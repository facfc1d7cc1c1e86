-- `matching::same::same_mask`: what has been gathered is the mask of those passed.
use mathlib.Core.Path.{◌∙◌}
use mathlib.Core.Logic.{⊎_elim}
use borrow.Author.Rules.{rules}
use Rattle.flat.proofs.InTurn.{turns-done}
use Rattle.matching.proofs.SameMask.{same-init, same-hit, same-miss, same-done}
use Rattle.matching.proofs.same.same_mask.Goals as goal

pub loop-i-init : goal.loop-i-init
loop-i-init c = same-init (search rules) (search rules) (search rules)

pub loop-i-preserved-then-same_data : goal.loop-i-preserved-then-same_data
loop-i-preserved-then-same_data c =
    let (next, at, on, _) = c.in-Some.ensures.steps in
    same-hit c.loop-i.invariant next c.same_data.ensures on c.if-same_data.true at c.bit-same.ensures

pub loop-i-preserved : goal.loop-i-preserved
loop-i-preserved c =
    let (next, at, on, _) = c.in-Some.ensures.steps in
    same-miss c.loop-i.invariant next c.same_data.ensures on c.if-same_data.false

pub returns : goal.returns
returns c =
    let inv = c.loop-i.invariant in
    same-done inv (⊎_elim (λ e. turns-done inv.turns e.1.0) (λ e. turns-done inv.beside e.1.0 ∙ c.args.pairs.alike)
    c.in-None.ensures.steps.0)
