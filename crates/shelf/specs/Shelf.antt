-- "The shelf holds up to 8 editions of a route with rising numbers from 1 to 65,535."
use Rattle.std.specs.Prelude.{Bool, true, cond, ◌&&◌, List, [], ◌∷◌, map, ℕ, eqb, ltb, leb, take, replicate}
use Rattle.std.proofs.Math.Option.{Option, none, some}
use Rattle.route.specs.Steps.{no_route}
use Rattle.route.specs.declared.Route.{Route}
use Rattle.shelf.specs.declared.Edition.{Edition}
use Rattle.shelf.specs.declared.Shelf.{Shelf}

-- what an unused entry holds
abbrev pub no_edition : Edition
no_edition = record { number = 0; route = no_route }

-- the empty shelf
abbrev pub no_shelf : Shelf
no_shelf = record { len = 0; editions = replicate 8 no_edition }

-- the editions stored
abbrev pub editions_of : Shelf → List Edition
editions_of s = take s.len s.editions

-- their numbers
unfoldable pub numbers_in : List Edition → List ℕ
numbers_in l = map (λ (e : Edition). e.number) l

-- the last of a list of numbers, or `last` where it is empty
unfoldable pub last_of : ℕ → List ℕ → ℕ
last_of last [] = last
last_of last (n ∷ l) = last_of n l

-- "the last stored (0 on an empty shelf)"
abbrev pub last_number : Shelf → ℕ
last_number s = last_of 0 (numbers_in (editions_of s))

-- a number above the last stored and not "over 65,535"
unfoldable pub number_fits : ℕ → ℕ → Bool
number_fits last n = ltb last n && leb n 65535

-- "rising numbers from 1 to 65,535", above the last one
unfoldable pub rise : ℕ → List ℕ → Bool
rise last [] = true
rise last (n ∷ l) = number_fits last n && rise n l

-- a shelf handed in without "over 8 editions" and without "numbers that don't rise within 1 to 65,535"
unfoldable pub good_shelf : Shelf → Bool
good_shelf s = leb s.len 8 && rise 0 (numbers_in (editions_of s))

-- the route of an edition "on the shelf"
unfoldable pub route_of : ℕ → List Edition → Option Route
route_of n [] = none
route_of n (e ∷ l) = cond (eqb e.number n) (some e.route) (route_of n l)
