-- `lookup::find`: below the beginning, or else above it.
use mathlib.Core.Path.{sym}
use native.Mathlib.Omega.{arith}
use lib.Seq.{length-take-le}
use borrow.Author.Rules.{rules}
use Rattle.lookup.proofs.Around.{steps_fit, lower-fits, lower-next, find-below, upper-more, upper-next}
use Rattle.lookup.proofs.Around.{find-above, find-nowhere}
use Rattle.lookup.proofs.find.Goals as goal

pub overflow_add-place : goal.overflow_add-place
overflow_add-place c = record { fits = search (rules, lower-fits) }

pub overflow_add-end : goal.overflow_add-end
overflow_add-end c = record { fits = search (rules, lower-next) }

pub returns-in-Some : goal.returns-in-Some
returns-in-Some c = search (rules, find-below)

pub slice_bounds-first-end-2 : goal.slice_bounds-first-end-2
slice_bounds-first-end-2 c = sym (length-take-le _ _ (grind (arith, steps_fit)))

pub overflow_add-after : goal.overflow_add-after
overflow_add-after c = record { fits = search (rules, upper-more) }

pub overflow_add-round : goal.overflow_add-round
overflow_add-round c = record { fits = search (rules, upper-next) }

pub returns-in-Some-first : goal.returns-in-Some-first
returns-in-Some-first c = search (rules, find-above)

pub returns : goal.returns
returns c = search (rules, find-nowhere)
