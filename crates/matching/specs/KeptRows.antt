-- Rows 10, 11 and 12: how many are kept, if the job isn't straight, and then the kept in turn.
use Rattle.std.specs.Prelude.{cond, ◌||◌, List, [], ◌∷◌, ℕ, ◌+◌, eqb, leb, get_or}
use Rattle.mask.specs.Mask.{members, count}
use Rattle.route.specs.Steps.{blank, lookup}
use Rattle.refusal.specs.Rows.{refuse, unless, first}
use Rattle.route.specs.declared.Step.{Step}
use Rattle.refusal.specs.declared.Outcome.{Outcome}
use Rattle.job.specs.Job.{Job, job_line, new_start}
use Rattle.running.specs.Run.{ran}
use Rattle.occurrences.specs.Occurrences.{occurrences_of}
use Rattle.search.specs.Search.{is_some}
use Rattle.matching.specs.Straight.{same_step, runs_straight}
use Rattle.matching.specs.Fit.{kept_of}

-- 11: not in the new route; 12: reads, writes or the mark differ; at its done line
unfoldable pub kept_row : List Step → ℕ → Step → Outcome
kept_row new line s = first (unless (is_some (lookup s.name new)) 11 line ∷ unless (same_step new s) 12 line ∷ [])

-- the kept in turn; `line` is that of the first done line
unfoldable pub kept_lines : List Step → List Step → ℕ → List ℕ → List Outcome
kept_lines new l line [] = []
kept_lines new l line (i ∷ o) = kept_row new (line + i) (get_or l i blank) ∷ kept_lines new l line o

-- 10 at the job line, then 11 and 12
unfoldable pub kept_rows : ℕ → ℕ → List Step → List Step → Outcome
kept_rows line from new l =
    first
    (unless (runs_straight from new l || leb (count 64 (kept_of new l)) 16) 10 line
    ∷ kept_lines new l (line + 1) (members 64 (kept_of new l)))

-- the rows to 12
unfoldable pub rows_to12 : Job → Outcome
rows_to12 j =
    cond (eqb (ran j).number 0)
    (kept_rows (job_line j) (new_start j) j.new (occurrences_of j))
    (refuse (ran j).number (ran j).second)
