-- Judge between two editions is judge for their routes, and its listing is what print gives for the sheet that writing
-- gives: the sheet is read back as the records, and print judges those.
use mathlib.Core.Path.{◌≡◌, refl, sym, ap, ap₂, ◌∙◌}
use mathlib.Core.Bool.{Bool, true, false, cond}
use mathlib.Core.List.{List}
use mathlib.Core.Option.{Option, none, some}
use Prim.Native.Nat.{ℕ, ◌-◌, ◌≤◌, ◌<◌}
use borrow.Author.Tests.{le-leb, lt-ltb, ltb-true}
use lib.Dec.{eqb, ltb, leb}
use lib.ListN.{length, replicate}
use lib.Seq.{take-append_seam}
use Rattle.mask.proofs.Truth.{cond_yes, cond_no}
use Rattle.refusal.specs.Rows.{first}
use Rattle.route.specs.Steps.{steps_of}
use Rattle.route.specs.declared.Route.{Route}
use Rattle.job.specs.Job.{Job, job_of}
use Rattle.job.specs.Lines.{line_rows, LinesPass}
use Rattle.job.proofs.Rows.{LinesFit, pass_fits}
use Rattle.judging.specs.Judge.{judged, work_after}
use Rattle.answering.specs.Answer.{judge_stopped}
use Rattle.facts.specs.Facts.{read_of, job_read}
use Rattle.facts.specs.SheetRows.{filled, sheet_of}
use Rattle.facts.specs.LinesOf.{AllWide, as_records}
use Rattle.facts.specs.declared.Sheet.{Sheet}
use Rattle.facts.proofs.RowsFold.{filled-steps}
use Rattle.facts.proofs.Widths.{records-own}
use Rattle.writer.specs.Writes.{wrote}
use Rattle.writer.proofs.RoundTrips.{write-reads}
use Rattle.out_slice.proofs.PastRows.{past-fits}
use Rattle.writer.specs.Written.{written}
use Rattle.listing.specs.Listing.{listing}
use Rattle.ops.specs.Print.{sheet_answer, listing_of}
use Rattle.ops.proofs.Prints.{enough-work}
use Rattle.shelf.specs.Shelf.{editions_of, good_shelf, route_of}
use Rattle.shelf.specs.Judge.{job_of_routes, job_between, judged_job, judged_between, work_job, work_between}
use Rattle.shelf.specs.declared.Shelf.{Shelf}
use Rattle.shelf.proofs.JudgeBetween.{between-short, between-twenty-one}
use Rattle.theorems.specs.RoundTrip.{bytes_written}
use Rattle.theorems.specs.Editions.{Later}

-- ---- the sheet that writing gives is judged as the records

sheet-job : (j : Job) → LinesFit j → job_read (sheet_of j) ≡ j
unfolding filled
sheet-job j fit =
    λ i. record {
      old_places = j.old_places;
      old = filled-steps j.old_places j.old fit.old-fits.steps-fit i;
      new_places = j.new_places;
      new = filled-steps j.new_places j.new fit.new-fits.steps-fit i;
      done = take-append_seam j.done (replicate (64 - length j.done) 0) i;
    }

own-records : (j : Job) → AllWide j.old → AllWide j.new → as_records j ≡ j
unfolding as_records
own-records j old new =
    λ i. record {
      old_places = j.old_places;
      old = records-own j.old old i;
      new_places = j.new_places;
      new = records-own j.new new i;
      done = j.done;
    }

-- bytes that read as a job's records are answered as the job
pub read-judged : (j : Job) → LinesPass j → (s : List ℕ) → read_of s ≡ sheet_of j → sheet_answer s ≡ judged j 8192
unfolding sheet_answer
read-judged j passes s reads =
    ap (λ (x : Sheet). cond (eqb x.number 0) (judged (job_read x) 8192) (judge_stopped x.number x.second)) reads
    ∙ ap (λ (k : Job). judged k 8192) (sheet-job j (pass_fits j passes))

module _ (j : Job) (out : List ℕ) (success : (wrote j (length out)).number ≡ 0) where
  lines-pass : LinesPass j
  lines-pass = (past-fits (first (line_rows j)) (written j) (length out) success).0

  written-judged : AllWide j.old → AllWide j.new → sheet_answer (bytes_written j out) ≡ judged j 8192
  written-judged old new =
      read-judged j lines-pass (bytes_written j out) (write-reads j out success ∙ ap sheet_of (own-records j old new))

-- ---- judge between two editions

module _ (s : Shelf) (edition target : ℕ) (old new : Route) (l : Later s edition target old new) (done : List ℕ) where
  job_is : job_between s edition target done ≡ some (job_of old new done)
  unfolding job_between job_of_routes
  job_is =
      sym (cond_yes _ _ refl (lt-ltb edition target l.later))
      ∙ ap₂ (λ (x y : Option Route). job_of_routes x y done) l.old-is l.new_is

  pub shelf-judges : (room : ℕ) → judged_between s edition target done room ≡ judged (job_of old new done) room
  unfolding judged_between judged judged_job
  shelf-judges room = go (leb 8192 room) refl
    where
      go : (t : Bool) → leb 8192 room ≡ t
          → cond t (cond (good_shelf s) (judged_job (job_between s edition target done) room) (judge_stopped 21 1))
          (judge_stopped 14 0) ≡ judged (job_of old new done) room
      go true e =
          sym (cond_yes _ _ refl l.good) ∙ ap (λ (x : Option Job). judged_job x room) job_is
      go false e = cond_no _ _ refl e

  pub shelf-works : (work : List ℕ) → work_between s edition target done work ≡ work_after (job_of old new done) work
  unfolding work_between work_job
  shelf-works work =
      sym (cond_yes _ _ refl l.good) ∙ ap (λ (x : Option Job). work_job x work) job_is

  pub shelf-prints : AllWide (steps_of old) → AllWide (steps_of new) → (room : ℕ) → 8192 ≤ room → (out : List ℕ)
      → (wrote (job_of old new done) (length out)).number ≡ 0
      → listing (judged_between s edition target done room) ≡ listing_of (bytes_written (job_of old new done) out)
  unfolding listing_of
  shelf-prints a b room h out success =
      ap listing
      (shelf-judges room
      ∙ enough-work (job_of old new done) room h
      ∙ sym (written-judged (job_of old new done) out success a b))

-- 19 where no two editions are there, the target later
pub shelf-nineteen : (s : Shelf) (edition target : ℕ) (done : List ℕ) (room : ℕ) → good_shelf s ≡ true → 8192 ≤ room
    → ((old new : Route) → Later s edition target old new → ⊥)
    → judged_between s edition target done room ≡ judge_stopped 19 0
unfolding judged_between job_between judged_job job_of_routes
shelf-nineteen s edition target done room good h none-later =
    sym (cond_yes _ _ refl (le-leb 8192 room h))
    ∙ sym (cond_yes _ _ refl good)
    ∙ go (ltb edition target) refl (route_of edition (editions_of s)) refl (route_of target (editions_of s)) refl
  where
    go : (t : Bool) → ltb edition target ≡ t → (x : Option Route) → route_of edition (editions_of s) ≡ x
        → (y : Option Route) → route_of target (editions_of s) ≡ y
        → judged_job (cond t (job_of_routes x y done) none) room ≡ judge_stopped 19 0
    go true e (some old) p (some new) q =
        absurd (none-later old new (record { good = good; later = ltb-true _ _ e; old-is = p; new_is = q }))
    go true e (some old) p none q = refl
    go true e none p y q = refl
    go false e x p y q = refl

-- a short work slice, and a bad shelf where there is room
pub shelf-fourteen : (s : Shelf) (edition target : ℕ) (done : List ℕ) (room : ℕ) → room < 8192
    → judged_between s edition target done room ≡ judge_stopped 14 0
shelf-fourteen s edition target done room h = sym (between-short s edition target done room h)

pub shelf-bad : (s : Shelf) (edition target : ℕ) (done : List ℕ) (room : ℕ) → good_shelf s ≡ false → 8192 ≤ room
    → judged_between s edition target done room ≡ judge_stopped 21 1
shelf-bad s edition target done room off h = sym (between-twenty-one s edition target done off room h)
