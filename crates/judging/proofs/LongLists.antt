-- Where the lines are refused judge answers that refusal, whatever else the job holds; so steps past the 65th of a list
-- change nothing.
use mathlib.Core.Path.{◌≡◌, sym, ap, ◌∙◌}
use mathlib.Core.Bool.{false, cond, and-false}
use mathlib.Core.List.{List}
use Prim.Native.Nat.{ℕ}
use lib.Dec.{eqb, leb}
use Rattle.job.specs.Job.{Job, cut}
use Rattle.running.specs.Run.{ran}
use Rattle.route.specs.declared.Fired.{Fired}
use Rattle.job.proofs.LongLists.{Refused, laid-alike}
use Rattle.running.proofs.LongLists.{ran-alike, ran-off}
use Rattle.answering.specs.Answer.{judge_stopped}
use Rattle.judging.specs.Judge.{judged, searched, work_after}
use Rattle.answering.specs.declared.Judged.{Judged}

refusal : ℕ → Fired → Judged
refusal room r = cond (leb 8192 room) (judge_stopped r.number r.second) (judge_stopped 14 0)

module _ (j : Job) (off : eqb (ran j).number 0 ≡ false) where
  judged-off : (room : ℕ) → judged j room ≡ refusal room (ran j)
  unfolding judged refusal
  judged-off room = rw off

  work-off : (work : List ℕ) → work_after j work ≡ work
  unfolding work_after searched
  work-off work = rw (off, and-false)

module _ (j k : Job) (r : Refused j k) where
  off : eqb (ran j).number 0 ≡ false
  off = ap (λ (x : Fired). eqb x.number 0) (ran-alike j k r) ∙ ran-off j k r

  judged-alike : (room : ℕ) → judged j room ≡ judged k room
  judged-alike room =
      judged-off j off room
      ∙ ap (refusal room) (ran-alike j k r)
      ∙ sym (judged-off k (ran-off j k r) room)

  work-alike : (work : List ℕ) → work_after j work ≡ work_after k work
  work-alike work = work-off j off work ∙ sym (work-off k (ran-off j k r) work)

-- ---- both lists laid as numbers

pub judged_cut : (room : ℕ) (j k : Job) → k ≡ cut j → (r : Judged) → r ≡ judged k room → r ≡ judged j room
judged_cut room = laid-alike (λ (j : Job). judged j room) (λ j k x. judged-alike j k x room)

pub work_cut : (work : List ℕ) (j k : Job) → k ≡ cut j → (w : List ℕ) → w ≡ work_after k work → w ≡ work_after j work
work_cut work = laid-alike (λ (j : Job). work_after j work) (λ j k x. work-alike j k x work)
