-- Straight replay: the whole done list in its own order on the new route. `l` is the list of the occurrences, `new` the
-- new route's steps, `from` the new start.
use Rattle.std.specs.Prelude.{◌≡◌, Bool, true, false, not, cond, ◌&&◌, List, [], ◌∷◌, map, ℕ, eqb, length, get_or}
use Rattle.std.proofs.Math.Option.{Option, none, some}
use Rattle.route.specs.Steps.{blank, lookup}
use Rattle.route.specs.Firing.{if_fires}
use Rattle.route.specs.declared.Step.{Step}
use Rattle.precedence.specs.Order.{in_turn}
use Rattle.search.specs.Search.{is_some}

-- both are marked, or neither
unfoldable pub same_mark : Bool → Bool → Bool
same_mark a b = cond a b (not b)

-- the same data, which are what is read and what is written, and the same mark
unfoldable pub same_data : Step → Option Step → Bool
same_data s none = false
same_data s (some t) = eqb t.reads s.reads && (eqb t.writes s.writes && same_mark t.cloth s.cloth)

-- the step's name "is in the new route with the same reads and writes"; 02: "compare this mark too"
unfoldable pub same_step : List Step → Step → Bool
same_step new s = same_data s (lookup s.name new)

unfoldable pub all_of : (Step → Bool) → List Step → Bool
all_of t [] = true
all_of t (s ∷ l) = t s && all_of t l

-- firing in turn the new route's steps of these names: the marking at the end, or none where one isn't there or can't
-- fire
unfoldable pub fire_all : List Step → ℕ → List Step → Option ℕ
fire_all new m [] = some m
fire_all new m (s ∷ l) = if_fires m (lookup s.name new) none none (λ t m'. fire_all new m' l)

-- the steps of a list of occurrences
unfoldable pub steps_on : List Step → List ℕ → List Step
steps_on l o = map (λ (i : ℕ). get_or l i blank) o

-- where there is a straight list: "each name is in the new route with the same reads and writes", and 02's mark, "and
-- all fire from the new start"
unfoldable pub runs_straight : ℕ → List Step → List Step → Bool
runs_straight from new l = all_of (same_step new) l && is_some (fire_all new from l)

-- "Straight: the whole done list in its own order, where .."
pub record Straight (from : ℕ) (new l : List Step) (o : List ℕ) : Type 0 where
  pub whole : o ≡ in_turn 0 (length l)
  pub runs : runs_straight from new l ≡ true
