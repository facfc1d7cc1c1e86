-- What try and judge start from.
use Rattle.std.specs.Prelude.{◌≡◌, List, ℕ, ◌≤◌, length}
use Rattle.flat.specs.Flat.{Holds}
use Rattle.route.specs.declared.Step.{Step}
use Rattle.job.specs.Job.{Job, job_line, new_start}
use Rattle.running.specs.Run.{performed, ran}
use Rattle.occurrences.specs.Occurrences.{occurrences_of}
use Rattle.slice.specs.Slice.{variables}
use Rattle.matching.specs.Fit.{kept_of}
use Rattle.matching.specs.inner.Matched.{straight_end}
use Rattle.matching.specs.inner.Pairs.{done_in, matched_in}
use Rattle.matching.specs.declared.Pairs.{Pairs}
use Rattle.preparing.specs.declared.Prepared.{Prepared}

-- what is found of the occurrences l and their matches; `line` is that of `(job)`
pub record Weighed (line from : ℕ) (new l : List Step) (p : Prepared) : Type 0 where
  pub line-is : p.line ≡ line
  pub start_is : p.start.tokens ≡ from
  pub straight-is : p.straight ≡ straight_end from new l
  pub kept-is : p.kept ≡ kept_of new l
  pub vars-are : p.vars ≡ variables new

-- the numbers begin with the occurrences and the new route's steps for them, at most 64
pub record Filled (j : Job) (occurrences matches : List ℕ) : Type 0 where
  pub few : length j.done ≤ 64
  pub done-are : Holds (occurrences_of j) occurrences
  pub matches-are : Holds (performed j.new j.done) matches

-- the occurrences and the new route's steps for them
pub record PairsOf (j : Job) (x : Pairs) : Type 0 where
  pub done-are : done_in x ≡ occurrences_of j
  pub matches-are : matched_in x ≡ performed j.new j.done

-- a job that no row to 12 refuses
pub record PreparedOf (j : Job) (p : Prepared) (occurrences matches : List ℕ) : Type 0 where
  pub ran-passes : (ran j).number ≡ 0
  pub filled : Filled j occurrences matches
  pub weighed : Weighed (job_line j) (new_start j) j.new (occurrences_of j) p
