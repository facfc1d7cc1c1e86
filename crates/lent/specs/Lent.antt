-- A job of lent lists.
use Rattle.std.specs.Prelude.{List, ℕ}
use Rattle.route.specs.declared.Places.{Places}
use Rattle.route.specs.declared.Step.{Step}
use Rattle.job.specs.Job.{Job}
use Rattle.lent.specs.declared.LentJob.{LentJob}

-- "each route is a lent list of step records": the whole lists, however long
abbrev pub lent_job : Places → List Step → Places → List Step → List ℕ → Job
lent_job old_places old new_places new done = record
    { old_places = old_places; old = old; new_places = new_places; new = new; done = done }

abbrev pub lent_in : LentJob → Job
lent_in j = lent_job j.old_places j.old.now j.new_places j.new.now j.done.now
