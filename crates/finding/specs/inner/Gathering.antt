-- What is found of a job's done names in both routes.
use Rattle.std.specs.Prelude.{◌≡◌, List, ℕ, Result, Ok, Err}
use Rattle.refusal.specs.declared.Refusal.{Refusal}
use Rattle.route.specs.Steps.{names}
use Rattle.flat.specs.Flat.{Holds}
use Rattle.lookup.specs.Around.{compared_all}
use Rattle.job.specs.Job.{Job}
use Rattle.running.specs.Run.{performed, Begins}
use Rattle.route.specs.Firing.{fired_of}
use Rattle.route.specs.declared.Fired.{Fired}
use Rattle.finding.specs.declared.Gathered.{Gathered}

-- run's answer
abbrev pub gathered_ran : Result Gathered Refusal → Fired
gathered_ran (Ok g) = fired_of (Ok g.begun.marking)
gathered_ran (Err e) = fired_of (Err e)

-- what stands of a job that no row to 9 refuses, the new route's steps for the done names, as numbers, and how many of
-- its names their look-ups compared
pub record Gathers (j : Job) (g : Gathered) (occurrences matches : List ℕ) : Type 0 where
  pub begins : Begins j g.begun occurrences
  pub matches-are : Holds (performed j.new j.done) matches
  pub compared_is : g.matched ≡ compared_all (names j.new) j.done
