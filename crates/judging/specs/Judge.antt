-- The operation judge: the straight list where there is one, else the first fit list, and all that the listing shows
-- of it.
use Rattle.std.specs.Prelude.{Bool, not, cond, ◌&&◌, List, ◌++◌, ℕ, eqb, leb, length, drop, replicate}
use Rattle.std.proofs.Math.Option.{Option, none, some}
use Rattle.mask.specs.Mask.{below}
use Rattle.route.specs.declared.Step.{Step}
use Rattle.job.specs.Job.{Job, job_line, new_start}
use Rattle.running.specs.Run.{ran}
use Rattle.occurrences.specs.Occurrences.{occurrences_of}
use Rattle.precedence.specs.Order.{in_turn}
use Rattle.matching.specs.Straight.{runs_straight}
use Rattle.matching.specs.Fit.{kept_of}
use Rattle.matching.specs.KeptRows.{kept_rows}
use Rattle.answering.specs.Answer.{judge_stopped, answer}
use Rattle.answering.specs.declared.Judged.{Judged}
use Rattle.candidates.specs.FirstFit.{first_fit}

-- the answer to the first fit list, or 13 where there is none
unfoldable pub judge_found : ℕ → ℕ → List Step → List Step → Option (List ℕ) → Judged
judge_found line from new l none = judge_stopped 13 line
judge_found line from new l (some o) = answer from new l (kept_of new l) o

-- rows 10 to 13. "After a straight answer all count as kept."
unfoldable pub judge_rows : ℕ → ℕ → List Step → List Step → Judged
judge_rows line from new l =
    cond (eqb (kept_rows line from new l).number 0)
    (cond (runs_straight from new l)
    (answer from new l (below (length l)) (in_turn 0 (length l)))
    (judge_found line from new l (first_fit from new l)))
    (judge_stopped (kept_rows line from new l).number (kept_rows line from new l).second)

-- the operation; `room` is the length of the work slice
unfoldable pub judged : Job → ℕ → Judged
judged j room =
    cond (leb 8192 room)
    (cond (eqb (ran j).number 0)
    (judge_rows (job_line j) (new_start j) j.new (occurrences_of j))
    (judge_stopped (ran j).number (ran j).second))
    (judge_stopped 14 0)

-- "after a search (rows to 12 passed, straight replay failed)"
unfoldable pub searched : Job → ℕ → Bool
searched j room =
    leb 8192 room
    && (eqb (ran j).number 0
    && (eqb (kept_rows (job_line j) (new_start j) j.new (occurrences_of j)).number 0
    && not (runs_straight (new_start j) j.new (occurrences_of j))))

-- "the first 8,192 bytes of the work slice are 0", or it is unchanged
unfoldable pub work_after : Job → List ℕ → List ℕ
work_after j work = cond (searched j (length work)) (replicate 8192 0 ++ drop 8192 work) work
