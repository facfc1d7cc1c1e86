-- A route is its places, how many there are and which have a token at the start, and a list of steps. Definitions speak
-- of these, so that a route by value and a lent list of records share them.
use Rattle.std.specs.Prelude.{false, cond, List, [], ◌∷◌, ◌++◌, map, ℕ, ◌-◌, eqb, take, replicate}
use Rattle.std.proofs.Math.Option.{Option, none, some}
use Rattle.std.specs.Int.Bits.{bit_or}
use Rattle.route.specs.declared.Step.{Step}
use Rattle.route.specs.declared.Places.{Places}
use Rattle.route.specs.declared.Route.{Route}

-- the record with 0 in every field and no mark: what an unused entry holds
abbrev pub blank : Step
blank = record { name = 0; cloth = false; ins = 0; outs = 0; reads = 0; writes = 0 }

-- a route's places where there are none
abbrev pub no_places : Places
no_places = record { count = 0; start = 0 }

-- the route with no place and no step
abbrev pub no_route : Route
no_route = record { places = no_places; len = 0; steps = replicate 64 blank }

-- the steps of a route by value: as many as its length says. A length over 64 counts, though no record is stored past
-- the 64th
unfoldable pub steps_of : Route → List Step
steps_of r = take r.len r.steps ++ replicate (r.len - 64) blank

-- one mask of every step, taken together
unfoldable pub union : (Step → ℕ) → List Step → ℕ
union f [] = 0
union f (s ∷ l) = bit_or (f s) (union f l)

-- the names of the steps, in order
unfoldable pub names : List Step → List ℕ
names l = map (λ (s : Step). s.name) l

-- the first step of that name
unfoldable pub lookup : ℕ → List Step → Option Step
lookup n [] = none
lookup n (s ∷ l) = cond (eqb s.name n) (some s) (lookup n l)
