-- The operation try, row by row: a list of occurrence numbers that somebody hands in.
use Rattle.std.specs.Prelude.{Bool, true, false, cond, ◌&&◌, List, [], ◌∷◌, map, ℕ, suc, eqb, length}
use Rattle.std.proofs.Math.Option.{get_or}
use Rattle.route.specs.declared.Step.{Step}
use Rattle.job.specs.Job.{Job, job_line, new_start}
use Rattle.running.specs.Run.{ran}
use Rattle.occurrences.specs.Occurrences.{occurrences_of}
use Rattle.precedence.specs.Order.{in_turn}
use Rattle.matching.specs.Straight.{fire_all, runs_straight}
use Rattle.matching.specs.KeptRows.{kept_rows}
use Rattle.order_entries.specs.Entries.{try_entries}
use Rattle.route.specs.Firing.{stopped, reached}
use Rattle.route.specs.declared.Fired.{Fired}

-- two lists of numbers are equal
unfoldable pub same_list : List ℕ → List ℕ → Bool
same_list [] [] = true
same_list [] (y ∷ k) = false
same_list (x ∷ l) [] = false
same_list (x ∷ l) (y ∷ k) = eqb x y && same_list l k

-- after row 12: the straight list first, then rows 16, 17 and 18
unfoldable pub try_list : ℕ → List Step → List Step → List ℕ → Fired
try_list from new l o =
    cond (runs_straight from new l && same_list o (map suc (in_turn 0 (length l))))
    (reached (get_or (fire_all new from l) 0))
    (try_entries new l from o)

-- rows 10 to 12, then the list
unfoldable pub try_rows : ℕ → ℕ → List Step → List Step → List ℕ → Fired
try_rows line from new l o =
    cond (eqb (kept_rows line from new l).number 0)
    (try_list from new l o)
    (stopped (kept_rows line from new l).number (kept_rows line from new l).second)

-- the operation: the rows to 9, then the rest
unfoldable pub tried : Job → List ℕ → Fired
tried j o =
    cond (eqb (ran j).number 0)
    (try_rows (job_line j) (new_start j) j.new (occurrences_of j) o)
    (stopped (ran j).number (ran j).second)
