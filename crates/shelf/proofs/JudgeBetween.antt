-- Judge between two editions, branch by branch: row 14, a bad shelf, 19, and judge for the two routes.
use mathlib.Core.Path.{◌≡◌, refl, sym, ap, ◌∙◌}
use mathlib.Core.Bool.{Bool, true, false, not, cond, ◌&&◌}
use mathlib.Core.List.{List}
use mathlib.Core.Option as maybe
use Prim.Native.Nat.{ℕ, ◌≤◌, ◌<◌}
use borrow.Author.Tests.{le-leb, lt-leb}
use lib.Dec.{leb}
use lib.ListN.{length, take, get_or}
use Rattle.std.specs.Prelude.{Option, Some, None}
use Rattle.mask.proofs.Truth.{cond_yes, cond_no}
use Rattle.job.specs.Job.{Job, job_of}
use Rattle.judging.specs.Judge.{judged, work_after}
use Rattle.judging.proofs.JudgeOperation.{work-short}
use Rattle.answering.specs.Answer.{judge_stopped}
use Rattle.answering.specs.declared.Judged.{Judged}
use Rattle.shelf.specs.Shelf.{numbers_in, rise, good_shelf}
use Rattle.shelf.specs.Judge.{job_between, judged_job, judged_between, work_job, work_between}
use Rattle.shelf.specs.inner.Entries.{entries_in}
use Rattle.shelf.specs.declared.Edition.{Edition}
use Rattle.shelf.specs.declared.Shelf.{Shelf}
use Rattle.shelf.proofs.GoodShelf.{good-no, good-yes}
use Rattle.shelf.proofs.EntriesFound.{no-job, the_job}

module _ (s : Shelf) (edition target : ℕ) (done : List ℕ) where
  abbrev job : maybe.Option Job
  job = job_between s edition target done

  -- row 14
  pub between-short : (room : ℕ) → room < 8192
      → judge_stopped 14 0 ≡ judged_between s edition target done room
  unfolding judged_between
  between-short room h = cond_no _ _ refl (lt-leb 8192 room h)

  pub between-short-work : (work : List ℕ) → length work < 8192 → work ≡ work_between s edition target done work
  unfolding work_between work_job
  between-short-work work h = go (good_shelf s) job
    where
      go : (t : Bool) (j : maybe.Option Job) → work ≡ cond t (work_job j work) work
      go true maybe.none = refl
      go true (maybe.some j) = work-short j work h
      go false j = refl

  -- a bad shelf, where there is room
  pub between-twenty-one : good_shelf s ≡ false → (room : ℕ) → 8192 ≤ room
      → judge_stopped 21 1 ≡ judged_between s edition target done room
  unfolding judged_between
  between-twenty-one off room h = cond_no _ _ refl off ∙ cond_yes _ _ refl (le-leb 8192 room h)

  -- the numbers stored say whether it is good
  module _ (v : List ℕ) (are : v ≡ numbers_in s.editions) (full : length s.editions ≡ 8) (t : Bool)
      (test : t ≡ (leb s.len (length v) && rise 0 (take s.len v))) where
    module _ (bad : not t ≡ true) where
      pub between-bad : (room : ℕ) → 8192 ≤ room
          → judge_stopped 21 1 ≡ judged_between s edition target done room
      between-bad = between-twenty-one (good-no s v are full t test bad)

      pub between-bad-work : (work : List ℕ) → work ≡ work_between s edition target done work
      unfolding work_between
      between-bad-work work = cond_no _ _ refl (good-no s v are full t test bad)

    -- a good shelf, and what job the editions make
    module _ (ok : not t ≡ false) where
      good : good_shelf s ≡ true
      good = good-yes s v are full t test ok

      answer : (j : maybe.Option Job) → job ≡ j → (room : ℕ) (r : Judged) → 8192 ≤ room → r ≡ judged_job j room
          → r ≡ judged_between s edition target done room
      unfolding judged_between
      answer j is room r h e =
          e ∙ ap (λ (x : maybe.Option Job). judged_job x room) (sym is) ∙ cond_yes _ _ refl good
          ∙ cond_yes _ _ refl (le-leb 8192 room h)

      answer-work : (j : maybe.Option Job) → job ≡ j → (work w : List ℕ) → w ≡ work_job j work
          → w ≡ work_between s edition target done work
      unfolding work_between
      answer-work j is work w e =
          e ∙ ap (λ (x : maybe.Option Job). work_job x work) (sym is) ∙ cond_yes _ _ refl good

      -- by the entries found
      module _ (f : Option (ℕ × ℕ)) (found : f ≡ entries_in edition target (take s.len v)) where
        module _ (missing : f ≡ None) where
          no_job : job ≡ maybe.none
          no_job = no-job s edition target v are full t test ok f found missing done

          pub between-nothing : (room : ℕ) → 8192 ≤ room
              → judge_stopped 19 0 ≡ judged_between s edition target done room
          unfolding judged_job
          between-nothing room h = answer maybe.none no_job room _ h refl

          pub between-nothing-work : (work : List ℕ) → work ≡ work_between s edition target done work
          unfolding work_job
          between-nothing-work work = answer-work maybe.none no_job work work refl

        module _ (i j : ℕ) (at : f ≡ Some (i, j)) where
          abbrev between : Edition → Job
          between d = job_of (get_or s.editions i d).route (get_or s.editions j d).route done

          is-between : (d : Edition) → job ≡ maybe.some (between d)
          is-between d = the_job s edition target v are full t test ok f found i j at done d

          pub between-judged : (d : Edition) (room : ℕ) (r : Judged) → 8192 ≤ room → r ≡ judged (between d) room
              → r ≡ judged_between s edition target done room
          unfolding judged_job
          between-judged d = answer (maybe.some (between d)) (is-between d)

          pub between-judged-work : (d : Edition) (work w : List ℕ) → w ≡ work_after (between d) work
              → w ≡ work_between s edition target done work
          unfolding work_job
          between-judged-work d = answer-work (maybe.some (between d)) (is-between d)
