-- `opening::check_reads`: the rows of the steps that are left answer for all.
use mathlib.Core.Path.{refl}
use borrow.Author.Rules.{rules}
use Rattle.flat.specs.Flat.{steps_in}
use Rattle.opening.specs.Unwritten.{reads_among}
use Rattle.opening.proofs.EachStep.{left-init, left-end, left-refused, left-on}
use Rattle.opening.proofs.check_reads.Goals as goal

pub loop-i-init : goal.loop-i-init
loop-i-init c =
    left-init (reads_among c.args.written) 23 c.args.line (steps_in c.args.steps.now) (search rules) (search rules)

pub returns-then-not-within : goal.returns-then-not-within
returns-then-not-within c =
    let (next, _, _, _) = c.in-Some.ensures.steps in
    let refused = left-refused _ _ _ _ c.loop-i.invariant next c.within.ensures refl c.if-not-within.true in
    search rules

pub loop-i-preserved : goal.loop-i-preserved
loop-i-preserved c =
    let (next, at, on, _) = c.in-Some.ensures.steps in
    left-on _ _ _ _ c.loop-i.invariant next c.within.ensures on c.if-not-within.false

pub returns : goal.returns
returns c = left-end _ _ _ _ c.loop-i.invariant c.in-None.ensures.steps.0.0
