-- 02: "22, a form that 01's layout can't say (a name over 65,535, a cloth mark, a start other than the implied one), at
-- the first such line": the lines of a sheet of the present layout, top down.
use Rattle.std.specs.Prelude.{Bool, not, ◌&&◌, List, ◌∷◌, ◌++◌, ℕ, ◌+◌, eqb, leb}
use Rattle.version.specs.Limits.{scope}
use Rattle.route.specs.declared.Places.{Places}
use Rattle.route.specs.declared.Step.{Step}
use Rattle.route.specs.Firing.{implied_start}
use Rattle.refusal.specs.Rows.{unless, each_line}
use Rattle.refusal.specs.declared.Outcome.{Outcome}
use Rattle.job.specs.Job.{Job, new_line, job_line}

-- what 01's layout can say: a name, a step, a start
abbrev pub says_name : ℕ → Bool
says_name n = leb n scope.greatest

unfoldable pub says_step : Step → Bool
says_step s = says_name s.name && not s.cloth

unfoldable pub says_start : Places → List Step → Bool
says_start places l = eqb places.start (implied_start places.count l)

-- 22 at each of a route's lines that 01 can't say: its head, which has a count alone, is on `line`; its start line and
-- its steps follow
unfoldable pub beyond_route : ℕ → Places → List Step → List Outcome
beyond_route line places l = unless (says_start places l) 22 (line + 1) ∷ each_line says_step 22 (line + 2) l

unfoldable pub beyond_rows : Job → List Outcome
beyond_rows j =
    beyond_route 1 j.old_places j.old
    ++ (beyond_route (new_line j) j.new_places j.new ++ each_line says_name 22 (job_line j + 1) j.done)
