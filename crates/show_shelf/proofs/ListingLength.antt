-- No listing of an answer from the shelf is longer than 7,053 bytes: it is judge's answer, or a refusal.
use mathlib.Core.Path.{◌≡◌}
use mathlib.Core.Bool.{Bool, true, false, cond}
use mathlib.Core.List.{List}
use mathlib.Core.Option.{Option, none, some}
use Prim.Native.Nat.{ℕ, ◌≤◌}
use lib.Dec.{leb}
use lib.ListN.{length}
use Rattle.job.specs.Job.{Job}
use Rattle.answering.specs.Answer.{judge_stopped}
use Rattle.answering.specs.declared.Judged.{Judged}
use Rattle.listing.specs.Listing.{listing}
use Rattle.listing.proofs.Longest.{longest, stopped-short}
use Rattle.shelf.specs.Shelf.{good_shelf}
use Rattle.shelf.specs.Judge.{job_between, judged_job, judged_between}
use Rattle.shelf.specs.declared.Shelf.{Shelf}

pub between-length : (s : Shelf) (edition target : ℕ) (done : List ℕ) (room : ℕ) (a : Judged)
    → a ≡ judged_between s edition target done room → length (listing a) ≤ 7053
unfolding judged_between judged_job
between-length s edition target done room a is =
    rw is (go (leb 8192 room) (good_shelf s) (job_between s edition target done))
  where
    go : (t u : Bool) (j : Option Job)
        → length (listing (cond t (cond u (judged_job j room) (judge_stopped 21 1)) (judge_stopped 14 0))) ≤ 7053
    go true true (some j) = longest j room
    go true true none = stopped-short 19 0
    go true false j = stopped-short 21 1
    go false u j = stopped-short 14 0
