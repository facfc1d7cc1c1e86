-- What an answer says of the rows that it stands for: an error refuses, a value passes.
use Rattle.std.proofs.Common.{◌≡◌, refl, sym, ap, ◌∙◌, false, List, ◌∷◌, ◌++◌, eqb}
use Rattle.refusal.specs.Rows.{pass, refuse, first}
use Rattle.refusal.specs.declared.Outcome.{Outcome}
use Rattle.refusal.specs.Refusal.{number_of}
use Rattle.refusal.specs.declared.Row.{Row}
use Rattle.refusal.specs.declared.Row.TheVariants.{Layout, OutOfRange, BadList, BadLength, NameTwice, UnusedPlace, NoStart, UnknownStep, CannotFire, TooManyKept, NotInNewRoute, UsesDiffer, NoFitOrder, ShortWork, ShortSlice, BadOrder, TooEarly, StepCannotFire, NoEdition, BadEdition, BadShelf, BeyondScope, UnwrittenRead}
use Rattle.refusal.specs.declared.Refusal.{Refusal}
use Rattle.refusal.proofs.Rows.{head-refuses, head-passes, rows_pass, rows-refuse}

-- no row has the number 0
pub number-some : (r : Row) → eqb (number_of r) 0 ≡ false
number-some = elim [ Layout ↦ refl | OutOfRange ↦ refl | BadList ↦ refl | BadLength ↦ refl | NameTwice ↦ refl | UnusedPlace ↦ refl | NoStart ↦ refl | UnknownStep ↦ refl | CannotFire ↦ refl | TooManyKept ↦ refl | NotInNewRoute ↦ refl | UsesDiffer ↦ refl | NoFitOrder ↦ refl | ShortWork ↦ refl | ShortSlice ↦ refl | BadOrder ↦ refl | TooEarly ↦ refl | StepCannotFire ↦ refl | NoEdition ↦ refl | BadEdition ↦ refl | BadShelf ↦ refl | BeyondScope ↦ refl | UnwrittenRead ↦ refl ]

-- an error is the answer of all rows
pub err-refuses : (e : Refusal) (o : Outcome) → refuse (number_of e.row) e.second ≡ o → (l : List Outcome) → refuse (number_of e.row) e.second ≡ first (o ∷ l)
err-refuses e o is l = is ∙ sym (head-refuses o l (ap (λ (x : Outcome). eqb x.number 0) (sym is) ∙ number-some e.row))

-- a value leaves the answer to the rows that follow
pub ok-passes : (o : Outcome) → pass ≡ o → (l : List Outcome) → first (o ∷ l) ≡ first l
ok-passes o is l = head-passes o l (ap (λ (x : Outcome). eqb x.number 0) (sym is))

-- the same of rows in a list
pub err-rows : (e : Refusal) (a : List Outcome) → refuse (number_of e.row) e.second ≡ first a → (b : List Outcome) → refuse (number_of e.row) e.second ≡ first (a ++ b)
err-rows e a is b = is ∙ sym (rows-refuse a b (ap (λ (x : Outcome). eqb x.number 0) (sym is) ∙ number-some e.row))

pub ok-rows : (a : List Outcome) → pass ≡ first a → (b : List Outcome) → first (a ++ b) ≡ first b
ok-rows a is b = rows_pass a b (ap (λ (x : Outcome). eqb x.number 0) (sym is))
