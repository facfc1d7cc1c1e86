-- An inner promise: the occurrences l against the new route's steps for them, as numbers: what rows 10 to 12 and
-- straight replay are found from.
use Rattle.std.specs.Prelude.{◌≡◌, cond, List, ℕ, eqb, length, get_or}
use Rattle.std.proofs.Math.Option.{Option, none, some}
use Rattle.mask.specs.Mask.{collect}
use Rattle.route.specs.Steps.{blank, names}
use Rattle.flat.specs.Flat.{steps_in}
use Rattle.route.specs.declared.Step.{Step}
use Rattle.job.specs.Lines.{AllNamed}
use Rattle.matching.specs.Straight.{same_step}
use Rattle.matching.specs.inner.Matched.{matched}

-- the numbers are those of the new route's steps for l. No occurrence has the name 0, so a match that has it isn't
-- there
pub record MatchesOf (new l : List Step) (matches : List ℕ) : Type 0 where
  pub named : AllNamed (names l)
  pub steps-are : steps_in matches ≡ matched new l

-- the step that a match is, if it is there
unfoldable pub present : Step → Option Step
present t = cond (eqb t.name 0) none (some t)

-- the occurrences that are in the new route with the same reads, writes and mark
unfoldable pub same_mask : List Step → List Step → ℕ
same_mask new l = collect (λ (i : ℕ). same_step new (get_or l i blank)) (length l)
