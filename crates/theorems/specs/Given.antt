-- Which of the fit lists judge gives.
use Rattle.std.specs.Prelude.{◌≡◌, true, false, List, map, ℕ, suc, length}
use Rattle.job.specs.Job.{Job, new_start}
use Rattle.precedence.specs.Order.{in_turn}
use Rattle.matching.specs.Straight.{runs_straight}
use Rattle.search.specs.Dictionary.{NotAfter}
use Rattle.occurrences.specs.Occurrences.{occurrences_of}
use Rattle.theorems.specs.Demand3.{FitFor}

-- "The engine gives the straight list if there is one; else, of all fit lists, the first in dictionary order of
-- occurrence numbers."
pub record Given (j : Job) (o : List ℕ) : Type 0 where
  pub fit : FitFor j o
  pub straight : runs_straight (new_start j) j.new (occurrences_of j) ≡ true → o ≡ map suc (in_turn 0 (length j.done))
  pub first : runs_straight (new_start j) j.new (occurrences_of j) ≡ false → (q : List ℕ) → FitFor j q → NotAfter o q
