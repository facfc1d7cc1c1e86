-- `converting::down::check_steps`: the rows of the steps that are left answer for all.
use mathlib.Core.Path.{refl}
use borrow.Author.Rules.{rules}
use Rattle.flat.specs.Flat.{steps_in}
use Rattle.opening.proofs.EachStep.{left-init, left-end, left-refused, left-on}
use Rattle.converting.specs.Beyond.{says_step}
use Rattle.converting.proofs.down.check_steps.Goals as goal

pub loop-i-init : goal.loop-i-init
loop-i-init c = left-init says_step 22 c.args.line (steps_in c.args.steps.now) (search rules) (search rules)

pub returns-then-not-says_step : goal.returns-then-not-says_step
returns-then-not-says_step c =
    let (next, _, _, _) = c.in-Some.ensures.steps in
    let refused = left-refused _ _ _ _ c.loop-i.invariant next c.says_step.ensures refl c.if-not-says_step.true in
    search rules

pub loop-i-preserved : goal.loop-i-preserved
loop-i-preserved c =
    let (next, at, on, _) = c.in-Some.ensures.steps in
    left-on _ _ _ _ c.loop-i.invariant next c.says_step.ensures on c.if-not-says_step.false

pub returns : goal.returns
returns c = left-end _ _ _ _ c.loop-i.invariant c.in-None.ensures.steps.0.0
