-- `records::fill`: one step more stands over the list after each turn.
use mathlib.Core.Path.{sym}
use borrow.Author.Rules.{rules}
use Rattle.route.specs.Steps.{blank}
use Rattle.records.proofs.Overlaid.{overlaid-none, overlaid-on}
use Rattle.records.proofs.fill.Goals as goal

pub loop-k-init : goal.loop-k-init
loop-k-init c = sym (overlaid-none _ _)

pub loop-k-preserved : goal.loop-k-preserved
loop-k-preserved c = search (rules, overlaid-on blank)
