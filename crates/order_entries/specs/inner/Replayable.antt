-- An inner promise: what the rows of entries start from, of a job that no row to 12 refuses.
use Rattle.std.specs.Prelude.{◌≡◌, true, List, ℕ, get_or}
use Rattle.mask.specs.Mask.{has}
use Rattle.route.specs.Steps.{blank}
use Rattle.route.specs.declared.Step.{Step}
use Rattle.matching.specs.Straight.{same_step}
use Rattle.matching.specs.Fit.{kept_of}
use Rattle.matching.specs.inner.Matched.{matched}

-- the kept of the occurrences l and the new route's steps for l, where the new route has each kept one with the same
-- data
pub record Replayable (new l : List Step) (kept : ℕ) (matches : List Step) : Type 0 where
  pub kept-is : kept ≡ kept_of new l
  pub matches-are : matches ≡ matched new l
  pub all_same : (i : ℕ) → has kept i ≡ true → same_step new (get_or l i blank) ≡ true
