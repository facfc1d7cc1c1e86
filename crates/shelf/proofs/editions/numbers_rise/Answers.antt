-- `shelf::editions::numbers_rise`: the numbers left rise from the last one passed.
use borrow.Author.Rules.{rules}
use Rattle.shelf.proofs.Numbers.{rise-stops, rise-on, rise-end}
use Rattle.shelf.proofs.editions.numbers_rise.Goals as goal

pub returns-then-not-number_fits : goal.returns-then-not-number_fits
returns-then-not-number_fits c = search (rules, rise-stops)

pub loop-n-preserved : goal.loop-n-preserved
loop-n-preserved c = search (rules, rise-on)

pub returns : goal.returns
returns c = search (rules, rise-end)
