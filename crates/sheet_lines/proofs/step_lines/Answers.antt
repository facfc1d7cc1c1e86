-- `sheet_lines::step_lines`: the steps that are left.
use borrow.Author.Rules.{rules}
use Rattle.emit.proofs.Loops.{left-start, left_as}
use Rattle.sheet_lines.proofs.EachLine.{steps-lined, none-left, first-room, first_turn}
use Rattle.sheet_lines.proofs.step_lines.Goals as goal

pub loop-s-init : goal.loop-s-init
loop-s-init c = left_as (search rules) (left-start c.requires)

pub step_line-p-requires : goal.step_line-p-requires
step_line-p-requires c = first-room steps-lined _ c.loop-s.invariant _ _ c.in-Some.ensures.steps

pub loop-s-preserved : goal.loop-s-preserved
loop-s-preserved c = first_turn steps-lined _ c.loop-s.invariant _ _ c.in-Some.ensures.steps c.step_line-p.ensures

pub returns : goal.returns
returns c = search (rules, none-left steps-lined)
