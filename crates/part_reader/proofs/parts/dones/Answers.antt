-- `part_reader::parts::dones`: a name put away for each line that no row refuses.
use native.Mathlib.Omega.{arith}
use borrow.Author.Rules.{rules}
use Rattle.tokens.proofs.Bytes.{handed}
use Rattle.part_reader.specs.inner.Prefix.{DonesOn}
use Rattle.part_reader.proofs.DoneLines.{named-init, named_past, named-row, named-name, done-room}
use Rattle.part_reader.proofs.DoneLines.{done-line-fits, done-later, dones-break, dones-done}
use Rattle.part_reader.proofs.PrefixStep.{rows-ok, rows-err}
use Rattle.part_reader.proofs.parts.dones.Goals as goal

pub loop-at-init : goal.loop-at-init
loop-at-init c = search (rules, named-init)

pub returns-in_err-n : goal.returns-in_err-n
returns-in_err-n c =
    handed (λ r. DonesOn c.args.v c.args.s.now c.args.p r c.args.list.now c.loop-at.list) _ _ c.from_residual.ensures.1
    (dones-break _ _ _ _ _ _ _ _ _ c.loop-at.invariant _ c.loop-at-test.true c.in_err-n.ensures)

pub overflow_add-lines : goal.overflow_add-lines
overflow_add-lines c = search (rules, done-line-fits)

pub loop-at-smaller-then-is_err : goal.loop-at-smaller-then-is_err
loop-at-smaller-then-is_err c = search (rules, done-later)

pub loop-at-preserved-then-is_err : goal.loop-at-preserved-then-is_err
loop-at-preserved-then-is_err c =
    named_past _ _ _ _ _ _ _ _ _ _ _ c.loop-at.invariant c.loop-at-test.true _ c.in_ok-n.ensures
    (rows-err _ c.if-is_err.ensures.negation)

pub loop-at-smaller-then-is_err-2 : goal.loop-at-smaller-then-is_err-2
loop-at-smaller-then-is_err-2 c = search (rules, done-later)

pub loop-at-preserved-then-is_err-2 : goal.loop-at-preserved-then-is_err-2
loop-at-preserved-then-is_err-2 c =
    named-row _ _ _ _ _ _ _ _ _ _ _ c.loop-at.invariant c.loop-at-test.true _ c.in_ok-n.ensures
    (rows-ok _ c.if-is_err.ensures.negation) _ c.v.view_is _
    c.done_row-rows.ensures (rows-err _ c.if-is_err-2.ensures.negation)

pub bounds-list-len : goal.bounds-list-len
bounds-list-len c =
    let test = c in
    let row = c in
    let less = done-room _ _ _ _ _ row.done_row-rows.ensures (rows-ok _ test.if-is_err-2.ensures.negation) in
    omega (arith, less)

pub loop-at-smaller : goal.loop-at-smaller
loop-at-smaller c = search (rules, done-later)

pub loop-at-preserved : goal.loop-at-preserved
loop-at-preserved c =
    named-name _ _ _ _ _ _ _ _ _ _ _ c.loop-at.invariant c.loop-at-test.true _ c.in_ok-n.ensures
    (rows-ok _ c.if-is_err.ensures.negation) _ c.v.view_is _
    c.done_row-rows.ensures (rows-ok _ c.if-is_err-2.ensures.negation) _ c.low.ensures

pub returns : goal.returns
returns c = search (rules, dones-done)
