-- `shelf::editions::numbers_rise`: the numbers left rise from the last one passed.
use mathlib.Core.Path.{◌≡◌}
use lib.ListN.{drop}
use Rattle.shelf.specs.Shelf.{rise}
use Rattle.shelf.proofs.editions.numbers_rise.Given as goal

abbrev pub invariant-loop-n : goal.invariant-loop-n
invariant-loop-n l = rise l.last (drop l.n-index l.numbers) ≡ rise 0 l.numbers
