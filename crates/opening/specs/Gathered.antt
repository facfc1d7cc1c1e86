-- What one pass over a route's steps gathers.
use Rattle.std.specs.Prelude.{◌≡◌, List}
use Rattle.route.specs.Steps.{union}
use Rattle.route.specs.declared.Step.{Step}
use Rattle.opening.specs.declared.Gathered.{Gathered}

-- all in-places, all out-places and all written variables of the steps
pub record GatheredFrom (l : List Step) (e : Gathered) : Type 0 where
  pub ins : e.ins ≡ union (λ (s : Step). s.ins) l
  pub outs : e.outs ≡ union (λ (s : Step). s.outs) l
  pub writes : e.writes ≡ union (λ (s : Step). s.writes) l
