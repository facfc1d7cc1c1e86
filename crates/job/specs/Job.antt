-- A job as records: both routes and the done list, and the lines that writing it would give.
use Rattle.std.specs.Prelude.{List, ℕ, ◌+◌, length, take}
use Rattle.route.specs.Steps.{steps_of}
use Rattle.flat.specs.Flat.{steps_in}
use Rattle.route.specs.declared.Places.{Places}
use Rattle.route.specs.declared.Step.{Step}
use Rattle.route.specs.declared.Route.{Route}
use Rattle.job.specs.declared.FlatJob.{FlatJob}
use Rattle.job.specs.declared.laying.RouteJob.{RouteJob}

pub record Job : Type 0 where
  pub old_places : Places
  pub old : List Step
  pub new_places : Places
  pub new : List Step
  pub done : List ℕ

-- the job of two routes by value and a done list
abbrev pub job_of : Route → Route → List ℕ → Job
job_of old new done =
    record { old_places = old.places; old = steps_of old; new_places = new.places; new = steps_of new; done = done }

-- the job of two lists of steps as numbers and a done list
abbrev pub flat_job : Places → List ℕ → Places → List ℕ → List ℕ → Job
flat_job old_places old new_places new done =
    record { old_places = old_places; old = steps_in old; new_places = new_places; new = steps_in new; done = done }

-- the same of a job that is lent
abbrev pub job_in : FlatJob → Job
job_in j = flat_job j.old_places j.old.now j.new_places j.new.now j.done.now

-- the same of a job whose routes are records
abbrev pub routes_in : RouteJob → Job
routes_in j = job_of j.old.now j.new.now j.done.now

-- the job with both lists cut to 65 steps
abbrev pub cut : Job → Job
cut j = record {
  old_places = j.old_places;
  old = take 65 j.old;
  new_places = j.new_places;
  new = take 65 j.new;
  done = j.done;
}

-- "Replay begins from the written places", and so do runs and fit orders: those of the old route, and of the new
abbrev pub old_start : Job → ℕ
old_start j = j.old_places.start

abbrev pub new_start : Job → ℕ
new_start j = j.new_places.start

-- The `(old` line is line 1; its start line and its steps follow. A head's next head stands right after its steps.
abbrev pub after_steps : ℕ → List Step → ℕ
after_steps line l = line + 2 + length l

-- the line of `(new`
abbrev pub new_line : Job → ℕ
new_line j = after_steps 1 j.old

-- the line of `(job)`; the done lines follow
abbrev pub job_line : Job → ℕ
job_line j = after_steps (new_line j) j.new
