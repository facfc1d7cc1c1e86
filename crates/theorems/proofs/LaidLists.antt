-- Both lists of a job laid as numbers, each to its 65th step: that job is the job cut to 65 steps a list, so the laws
-- on the cut job say that every operation answers for it as for the whole lists.
use mathlib.Core.Path.{◌≡◌, refl, ap₂}
use mathlib.Core.List.{List}
use Prim.Native.Nat.{ℕ}
use lib.ListN.{take}
use Rattle.out_slice.specs.declared.Wrote.{Wrote}
use Rattle.route.specs.declared.Fired.{Fired}
use Rattle.route.specs.declared.Step.{Step}
use Rattle.flat.specs.Flat.{Laid}
use Rattle.job.specs.Job.{Job, flat_job, cut}
use Rattle.job.proofs.LongLists.{Refused, laid-alike}
use Rattle.running.specs.Run.{ran}
use Rattle.running.proofs.LongLists.{ran_cut}
use Rattle.finding.specs.Comparisons.{comparisons}
use Rattle.finding.specs.declared.Compared.{Compared}
use Rattle.finding.proofs.ComparedRows.{comparisons_cut}
use Rattle.slicing.specs.Slicing.{sliced}
use Rattle.slicing.specs.declared.Sliced.{Sliced}
use Rattle.slicing.proofs.SliceRows.{sliced_cut}
use Rattle.trying.specs.Try.{tried}
use Rattle.trying.proofs.TryRows.{tried_cut}
use Rattle.answering.specs.declared.Judged.{Judged}
use Rattle.judging.specs.Judge.{judged, work_after}
use Rattle.judging.proofs.LongLists.{judged_cut, work_cut}
use Rattle.writer.specs.Writes.{wrote, out_after}
use Rattle.writer.proofs.LongLists.{wrote_cut, out_cut}

module _ (j : Job) (n : ℕ) (a : List ℕ) (m : ℕ) (b : List ℕ) (p : Laid j.old n a) (q : Laid j.new m b) where
  abbrev pub laid_job : Job
  laid_job = flat_job j.old_places (take n a) j.new_places (take m b) j.done

  pub laid-cut : laid_job ≡ cut j
  laid-cut =
      ap₂
      (λ (old new : List Step).
      record { old_places = j.old_places; old = old; new_places = j.new_places; new = new; done = j.done })
      p.steps-are q.steps-are

  pub same-laid : {X : Type 0} (f : Job → X) → ((j k : Job) → Refused j k → f j ≡ f k) → f laid_job ≡ f j
  same-laid f by = laid-alike f by j laid_job laid-cut (f laid_job) refl

  pub ran-laid : (r : Fired) → r ≡ ran laid_job → r ≡ ran j
  ran-laid = ran_cut j laid_job laid-cut

  pub comparisons-laid : (r : Compared) → r ≡ comparisons laid_job → r ≡ comparisons j
  comparisons-laid = comparisons_cut j laid_job laid-cut

  pub sliced-laid : (r : Sliced) → r ≡ sliced laid_job → r ≡ sliced j
  sliced-laid = sliced_cut j laid_job laid-cut

  pub tried-laid : (o : List ℕ) (r : Fired) → r ≡ tried laid_job o → r ≡ tried j o
  tried-laid o = tried_cut o j laid_job laid-cut

  pub judged-laid : (room : ℕ) (r : Judged) → r ≡ judged laid_job room → r ≡ judged j room
  judged-laid room = judged_cut room j laid_job laid-cut

  pub work-laid : (work w : List ℕ) → w ≡ work_after laid_job work → w ≡ work_after j work
  work-laid work = work_cut work j laid_job laid-cut

  pub wrote-laid : (room : ℕ) (r : Wrote) → r ≡ wrote laid_job room → r ≡ wrote j room
  wrote-laid room = wrote_cut room j laid_job laid-cut

  pub out-laid : (l o : List ℕ) → o ≡ out_after laid_job l → o ≡ out_after j l
  out-laid l = out_cut l j laid_job laid-cut
