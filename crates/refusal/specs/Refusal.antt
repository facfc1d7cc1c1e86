-- The number of each row of the table of refusals, and what an answer says of the rows.
use Rattle.std.specs.Prelude.{ℕ, Result, Ok, Err}
use Rattle.refusal.specs.Rows.{pass, refuse}
use Rattle.refusal.specs.declared.Outcome.{Outcome}
use Rattle.refusal.specs.declared.Row.{Row}
use Rattle.refusal.specs.declared.Row.TheVariants.{Layout, OutOfRange, BadList, BadLength, NameTwice, UnusedPlace, NoStart, UnknownStep, CannotFire, TooManyKept, NotInNewRoute, UsesDiffer, NoFitOrder, ShortWork, ShortSlice, BadOrder, TooEarly, StepCannotFire, NoEdition, BadEdition, BadShelf, BeyondScope, UnwrittenRead}
use Rattle.refusal.specs.declared.Refusal.{Refusal}

abbrev pub number_of : Row → ℕ
number_of Layout = 1
number_of OutOfRange = 2
number_of BadList = 3
number_of BadLength = 4
number_of NameTwice = 5
number_of UnusedPlace = 6
number_of NoStart = 7
number_of UnknownStep = 8
number_of CannotFire = 9
number_of TooManyKept = 10
number_of NotInNewRoute = 11
number_of UsesDiffer = 12
number_of NoFitOrder = 13
number_of ShortWork = 14
number_of ShortSlice = 15
number_of BadOrder = 16
number_of TooEarly = 17
number_of StepCannotFire = 18
number_of NoEdition = 19
number_of BadEdition = 20
number_of BadShelf = 21
number_of BeyondScope = 22
number_of UnwrittenRead = 23

-- 0 and 0 where an answer holds a value, else the row's number and the second number
abbrev pub outcome_of : {A : Type 0} → Result A Refusal → Outcome
outcome_of (Ok a) = pass
outcome_of (Err r) = refuse (number_of r.row) r.second
