-- Running the done list on the old route: rows 6 to 9, 8 and 9 done line by done line. 23 stands "after 7 of the same
-- route", so before 8.
use Rattle.std.specs.Prelude.{◌≡◌, cond, List, [], ◌∷◌, map, ℕ, ◌+◌, eqb, Result, Ok, Err}
use Rattle.std.proofs.Math.Option.{get_or}
use Rattle.refusal.specs.declared.Refusal.{Refusal}
use Rattle.route.specs.Steps.{blank, names, lookup}
use Rattle.lookup.specs.Around.{compared_all}
use Rattle.flat.specs.Flat.{Holds}
use Rattle.route.specs.Firing.{if_fires, stopped, reached, fired_of}
use Rattle.route.specs.declared.Step.{Step}
use Rattle.job.specs.Job.{Job, job_line, old_start, new_start}
use Rattle.job.specs.Lines.{checked}
use Rattle.route.specs.declared.Fired.{Fired}
use Rattle.running.specs.declared.Begun.{Begun}

-- run's answer in numbers, of what stands after row 9
abbrev pub begun_ran : Result Begun Refusal → Fired
begun_ran (Ok b) = fired_of (Ok b.marking)
begun_ran (Err e) = fired_of (Err e)

-- the steps done: for each done name the route's step, whose reads, writes and mark are the occurrence's
unfoldable pub performed : List Step → List ℕ → List Step
performed steps done = map (λ (n : ℕ). get_or (lookup n steps) blank) done

-- 8: name not in the old route; 9: can't fire; else the next line from the next marking
unfoldable pub run_from : List Step → ℕ → ℕ → List ℕ → Fired
run_from steps m line [] = reached m
run_from steps m line (n ∷ l) = if_fires m (lookup n steps) (stopped 8 line) (stopped 9 line)
    (λ s m'. run_from steps m' (line + 1) l)

-- the operation run: the rows of the lines and of both routes, then the done lines from the old route's written places
unfoldable pub ran : Job → Fired
ran j =
    cond (eqb (checked j).number 0)
    (run_from j.old (old_start j) (job_line j + 1) j.done)
    (stopped (checked j).number (checked j).second)

-- what stands of a job that no row to 9 refuses: the new route's start, the steps done, as numbers, and how many of the
-- old route's names their look-ups compared
pub record Begins (j : Job) (b : Begun) (occurrences : List ℕ) : Type 0 where
  pub start_is : b.start.tokens ≡ new_start j
  pub done-are : Holds (performed j.old j.done) occurrences
  pub compared_is : b.compared ≡ compared_all (names j.old) j.done
