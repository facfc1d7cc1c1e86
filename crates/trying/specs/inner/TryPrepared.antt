-- An inner promise: what try starts from where no row to 12 refuses.
use Rattle.std.specs.Prelude.{◌≡◌, List, ℕ}
use Rattle.route.specs.declared.Step.{Step}
use Rattle.matching.specs.inner.Matched.{straight_end}
use Rattle.preparing.specs.declared.Prepared.{Prepared}
use Rattle.order_entries.specs.inner.Replayable.{Replayable}

-- what stands of a job that no row to 12 refuses: l are its occurrences, from the new start
pub record TryPrepared (from : ℕ) (new l : List Step) (p : Prepared) (matches : List Step) : Type 0 where
  pub start_is : p.start.tokens ≡ from
  pub straight-is : p.straight ≡ straight_end from new l
  pub kept-are : Replayable new l p.kept matches
