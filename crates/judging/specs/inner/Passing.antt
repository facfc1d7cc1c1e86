-- An inner promise: a job that no row to 12 refuses, as judge goes on from there.
use Rattle.std.specs.Prelude.{◌≡◌, List}
use Rattle.route.specs.declared.Step.{Step}
use Rattle.slice.specs.Slice.{variables}
use Rattle.matching.specs.Fit.{kept_of}
use Rattle.matching.specs.KeptRows.{kept_rows}
use Rattle.matching.specs.inner.Matched.{matched, straight_end}
use Rattle.preparing.specs.declared.Prepared.{Prepared}

-- the occurrences are l, and t the new route's steps for them
pub record Passing (p : Prepared) (l t : List Step) : Type 0 where
  pub new : List Step
  pub matches-are : t ≡ matched new l
  pub straight-is : p.straight ≡ straight_end p.start.tokens new l
  pub kept-is : p.kept ≡ kept_of new l
  pub vars-are : p.vars ≡ variables new
  pub passes : (kept_rows p.line p.start.tokens new l).number ≡ 0
