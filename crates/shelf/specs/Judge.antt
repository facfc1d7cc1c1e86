-- The operation judge between two editions: "The answer equals that of a sheet with these two routes."
use Rattle.std.specs.Prelude.{cond, List, ℕ, ltb, leb}
use Rattle.std.proofs.Math.Option.{Option, none, some}
use Rattle.route.specs.declared.Route.{Route}
use Rattle.job.specs.Job.{Job, job_of}
use Rattle.judging.specs.Judge.{judged, work_after}
use Rattle.answering.specs.Answer.{judge_stopped}
use Rattle.answering.specs.declared.Judged.{Judged}
use Rattle.shelf.specs.Shelf.{editions_of, good_shelf, route_of}
use Rattle.shelf.specs.declared.Shelf.{Shelf}

-- the job of two routes, where both are there
unfoldable pub job_of_routes : Option Route → Option Route → List ℕ → Option Job
job_of_routes (some old) (some new) done = some (job_of old new done)
job_of_routes (some old) none done = none
job_of_routes none new done = none

-- the job of two editions; none where one isn't on the shelf "or the target not later"
unfoldable pub job_between : Shelf → ℕ → ℕ → List ℕ → Option Job
job_between s edition target done =
    cond (ltb edition target)
    (job_of_routes (route_of edition (editions_of s)) (route_of target (editions_of s)) done)
    none

-- 19, or judge's answer
unfoldable pub judged_job : Option Job → ℕ → Judged
judged_job none room = judge_stopped 19 0
judged_job (some j) room = judged j room

-- "19 .. after 14", "21 .. with 1 and just before 19"
unfoldable pub judged_between : Shelf → ℕ → ℕ → List ℕ → ℕ → Judged
judged_between s edition target done room =
    cond (leb 8192 room)
    (cond (good_shelf s) (judged_job (job_between s edition target done) room) (judge_stopped 21 1))
    (judge_stopped 14 0)

-- unchanged, or as judge leaves it
unfoldable pub work_job : Option Job → List ℕ → List ℕ
work_job none work = work
work_job (some j) work = work_after j work

-- the work slice is judge's; a refusal by 14, 21 or 19 leaves it unchanged
unfoldable pub work_between : Shelf → ℕ → ℕ → List ℕ → List ℕ → List ℕ
work_between s edition target done work =
    cond (good_shelf s) (work_job (job_between s edition target done) work) work
