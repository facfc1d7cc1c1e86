-- `part_reader::parts::steps`: a step put away for each line that no row refuses.
use mathlib.Core.Path.{sym}
use native.Mathlib.Omega.{arith}
use borrow.Author.Rules.{rules}
use Rattle.flat.specs.Flat.{steps_in}
use Rattle.tokens.proofs.Bytes.{handed}
use Rattle.part_reader.specs.inner.Prefix.{StepsOn}
use Rattle.part_reader.proofs.StepLines.{stepped-init, stepped-past, stepped-row, stepped-step}
use Rattle.part_reader.proofs.StepLines.{step_room, hinted-above, part_room, put-room}
use Rattle.part_reader.proofs.StepLines.{line-fits, line-later, steps-break, steps-done}
use Rattle.part_reader.proofs.PrefixStep.{rows-ok, rows-err}
use Rattle.part_reader.proofs.parts.steps.Goals as goal

pub loop-v-init : goal.loop-v-init
loop-v-init c = search (rules, stepped-init)

pub returns-in_err-l : goal.returns-in_err-l
returns-in_err-l c =
    handed (λ r. StepsOn c.args.v c.args.s.now c.args.p c.args.places r (steps_in c.loop-v.list)) _ _
    c.from_residual.ensures.1
    (steps-break _ _ _ _ _ _ _ _ _ _ c.loop-v.invariant _ c.stepping.ensures _ (search) c.in_err-l.ensures)

pub overflow_add-lines : goal.overflow_add-lines
overflow_add-lines c = search (rules, line-fits)

pub loop-v-smaller-then-is_err : goal.loop-v-smaller-then-is_err
loop-v-smaller-then-is_err c = search (rules, line-later)

pub loop-v-preserved-then-is_err : goal.loop-v-preserved-then-is_err
loop-v-preserved-then-is_err c =
    stepped-past _ _ _ _ _ _ _ _ _ _ _ _ c.loop-v.invariant _ c.in_ok-l.ensures _ c.stepping.ensures (search)
    (rows-err _ c.if-is_err.ensures.negation)

pub slice_bounds-step_row-end-in-loop-v : goal.slice_bounds-step_row-end-in-loop-v
slice_bounds-step_row-end-in-loop-v c = sym (search part_room)

pub step_row-rows-requires : goal.step_row-rows-requires
step_row-rows-requires c = search (rules, hinted-above)

pub loop-v-smaller-then-is_err-2 : goal.loop-v-smaller-then-is_err-2
loop-v-smaller-then-is_err-2 c = search (rules, line-later)

pub loop-v-preserved-then-is_err-2 : goal.loop-v-preserved-then-is_err-2
loop-v-preserved-then-is_err-2 c =
    stepped-row _ _ _ _ _ _ _ _ _ _ _ _ c.loop-v.invariant _ c.in_ok-l.ensures _ c.stepping.ensures
    (search) (rows-ok _ c.if-is_err.ensures.negation) _ c.step_row-rows.ensures
    (rows-err _ c.if-is_err-2.ensures.negation)

pub put-requires : goal.put-requires
put-requires c =
    put-room _ _ _ _ _ _ _ _ _ _ _ _ c.loop-v.invariant _ c.in_ok-l.ensures _ c.step_row-rows.ensures
    (rows-ok _ c.if-is_err-2.ensures.negation)

pub add-requires : goal.add-requires
add-requires c =
    step_room _ _ _ _ _ _ _ _ _ _ _ _ c.loop-v.invariant _ c.in_ok-l.ensures _ c.step_row-rows.ensures
    (rows-ok _ c.if-is_err-2.ensures.negation)

pub overflow_add-len : goal.overflow_add-len
overflow_add-len c = omega arith

pub loop-v-smaller : goal.loop-v-smaller
loop-v-smaller c = search (rules, line-later)

pub loop-v-preserved : goal.loop-v-preserved
loop-v-preserved c =
    stepped-step _ _ _ _ _ _ _ _ _ _ _ _ c.loop-v.invariant _ c.in_ok-l.ensures _ c.stepping.ensures
    (search) (rows-ok _ c.if-is_err.ensures.negation) _ c.step_row-rows.ensures
    (rows-ok _ c.if-is_err-2.ensures.negation) _ _ _
    c.step_of-one.ensures c.put.ensures.steps_after c.put.ensures.steps_len_unchanged c.add.ensures

pub returns : goal.returns
returns c = search (rules, steps-done)
