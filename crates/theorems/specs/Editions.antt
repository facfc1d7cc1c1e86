-- The shelf of editions: the value as the code holds it, and two editions that a job may be judged between.
use Rattle.std.specs.Prelude.{◌≡◌, true, List, [], ◌∷◌, ℕ, ◌-◌, ◌<◌, length, drop, replicate}
use Rattle.std.proofs.Math.Option.{some}
use Rattle.refusal.specs.Rows.{AllPass}
use Rattle.route.specs.Steps.{steps_of}
use Rattle.route.specs.declared.Route.{Route}
use Rattle.job.specs.Alone.{alone_rows}
use Rattle.shelf.specs.Shelf.{no_edition, editions_of, good_shelf, route_of}
use Rattle.shelf.specs.declared.Edition.{Edition}
use Rattle.shelf.specs.declared.Shelf.{Shelf}

-- a shelf by value has eight entries
abbrev pub Eight : Shelf → Type 0
Eight s = length s.editions ≡ 8

-- its unused entries are 0
abbrev pub UnusedBlank : Shelf → Type 0
UnusedBlank s = drop s.len s.editions ≡ replicate (8 - s.len) no_edition

-- "A job names its edition and may be judged against any later one on the shelf."
pub record Later (s : Shelf) (edition target : ℕ) (old new : Route) : Type 0 where
  pub good : good_shelf s ≡ true
  pub later : edition < target
  pub old-is : route_of edition (editions_of s) ≡ some old
  pub new_is : route_of target (editions_of s) ≡ some new

-- "A route put on the shelf meets rows 4, 2, 3, 5, 6 and 7 as an old route does." 23: "The shelf looks for it too"
abbrev pub Meets : Route → Type 0
Meets r = AllPass (alone_rows r.places (steps_of r))

abbrev pub AllMeet : List Edition → Type 0
AllMeet [] = Unit {0}
AllMeet (e ∷ l) = Meets e.route × AllMeet l
