-- The operation judge: row 14, the rows to 12 as the prepared job has them, and what follows; and the work slice after
-- each.
use mathlib.Core.Path.{◌≡◌, refl, sym, ap, ap₂, ◌∙◌}
use mathlib.Core.Bool.{Bool, true, false, not, cond, ◌&&◌, and-false}
use mathlib.Core.List.{List}
use Prim.Native.Nat.{ℕ, ◌≤◌, ◌<◌}
use lib.Dec.{eqb, leb}
use lib.ListN.{length}
use borrow.Author.Tests.{eq-eqb, le-leb, lt-leb}
use Rattle.refusal.specs.Rows.{pass, refuse, first}
use Rattle.refusal.specs.Refusal.{number_of}
use Rattle.refusal.specs.declared.Refusal.{Refusal}
use Rattle.refusal.specs.declared.Outcome.{Outcome}
use Rattle.refusal.proofs.Answered.{number-some}
use Rattle.route.specs.declared.Step.{Step}
use Rattle.job.specs.Job.{Job, job_line, new_start}
use Rattle.job.specs.Lines.{line_rows}
use Rattle.running.specs.Run.{ran}
use Rattle.occurrences.specs.Occurrences.{occurrences_of}
use Rattle.matching.specs.Straight.{runs_straight}
use Rattle.matching.specs.Fit.{kept_of}
use Rattle.matching.specs.KeptRows.{kept_rows, rows_to12}
use Rattle.matching.specs.inner.Matched.{matched, straight_end}
use Rattle.matching.specs.inner.Pairs.{done_in, matched_in}
use Rattle.matching.specs.declared.Pairs.{Pairs}
use Rattle.preparing.specs.inner.Preparing.{PairsOf, PreparedOf}
use Rattle.preparing.specs.declared.Prepared.{Prepared}
use Rattle.preparing.proofs.Preparation.{lines-refused, prepared-rows, pairs-matched}
use Rattle.work_slice.specs.WorkSlice.{cleared}
use Rattle.work_slice.proofs.Cleared.{cleared-is}
use Rattle.answering.specs.Answer.{judge_stopped}
use Rattle.judging.specs.Judge.{judge_rows, judged, searched, work_after}
use Rattle.judging.specs.inner.Passing.{Passing}
use Rattle.judging.specs.inner.Answers.{AnswersRows, Works}
use Rattle.answering.specs.declared.Judged.{Judged}
use Rattle.mask.proofs.Truth.{cond_yes, cond_no}

rows-refused :
    (line from : ℕ) (new l : List Step)
    → eqb (kept_rows line from new l).number 0 ≡ false
    → judge_stopped (kept_rows line from new l).number (kept_rows line from new l).second ≡ judge_rows line from new l
unfolding judge_rows
rows-refused line from new l e = cond_no _ _ refl e

module _ (j : Job) where
  abbrev done : List Step
  done = occurrences_of j

  abbrev kept : Outcome
  kept = kept_rows (job_line j) (new_start j) j.new done

  abbrev straight : Bool
  straight = runs_straight (new_start j) j.new done

  unsearched : (work : List ℕ) → searched j (length work) ≡ false → work ≡ work_after j work
  unfolding work_after
  unsearched work e = cond_no _ work refl e

  -- ---- row 14

  pub judged-short : (room : ℕ) → room < 8192 → judge_stopped 14 0 ≡ judged j room
  unfolding judged
  judged-short room short = cond_no _ _ refl (lt-leb 8192 room short)

  pub work-short : (work : List ℕ) → length work < 8192 → work ≡ work_after j work
  unfolding searched
  work-short work short =
      unsearched work
      (ap (λ (t : Bool). t && (eqb (ran j).number 0 && (eqb kept.number 0 && not straight)))
      (lt-leb 8192 (length work) short))

  -- ---- a row to 12 that refuses

  module _ (e : Refusal) where
    refuses : (o : Outcome) → refuse (number_of e.row) e.second ≡ o → eqb o.number 0 ≡ false
    refuses o is = ap (λ (x : Outcome). eqb x.number 0) (sym is) ∙ number-some e.row

    module _ (is : refuse (number_of e.row) e.second ≡ rows_to12 j) where
      pub judged-refused : (room : ℕ) → 8192 ≤ room → judge_stopped (number_of e.row) e.second ≡ judged j room
      unfolding judged rows_to12
      judged-refused room long = go (eqb (ran j).number 0) is ∙ cond_yes _ _ refl (le-leb 8192 room long)
        where
          go :
              (t : Bool)
              → refuse (number_of e.row) e.second ≡ cond t kept (refuse (ran j).number (ran j).second)
              → judge_stopped (number_of e.row) e.second
              ≡ cond t (judge_rows (job_line j) (new_start j) j.new done) (judge_stopped (ran j).number (ran j).second)
          go true h =
              ap (λ (x : Outcome). judge_stopped x.number x.second) h
              ∙ rows-refused (job_line j) (new_start j) j.new done (refuses kept h)
          go false h = ap (λ (x : Outcome). judge_stopped x.number x.second) h

      pub work-refused : (work : List ℕ) → work ≡ work_after j work
      unfolding searched rows_to12
      work-refused work =
          unsearched work
          (ap (λ (t : Bool). leb 8192 (length work) && t) (go (eqb (ran j).number 0) is)
          ∙ and-false (leb 8192 (length work)))
        where
          go :
              (t : Bool)
              → refuse (number_of e.row) e.second ≡ cond t kept (refuse (ran j).number (ran j).second)
              → (t && (eqb kept.number 0 && not straight)) ≡ false
          go true h = ap (λ (u : Bool). u && not straight) (refuses kept h)
          go false h = refl

    -- a line that is refused
    module _ (is : refuse (number_of e.row) e.second ≡ first (line_rows j)) where
      pub judged-line : (room : ℕ) → 8192 ≤ room → judge_stopped (number_of e.row) e.second ≡ judged j room
      judged-line = judged-refused (lines-refused j e is)

      pub work-line : (work : List ℕ) → work ≡ work_after j work
      work-line = work-refused (lines-refused j e is)

  -- ---- the rows to 12 pass

  module _
      (p : Prepared) (rows : pass ≡ rows_to12 j) (occurrences matches : List ℕ)
      (is : PreparedOf j p occurrences matches) (x : Pairs) (pairs : PairsOf j x) where
    pub rows-hold : kept.number ≡ 0
    rows-hold = prepared-rows j p rows occurrences matches is

    abbrev pub prepared-passing : Passing p (done_in x) (matched_in x)
    prepared-passing = record {
      new = j.new;
      matches-are = pairs-matched j p rows occurrences matches is x pairs ∙ ap (matched j.new) (sym pairs.done-are);
      straight-is =
          is.weighed.straight-is
          ∙ ap₂ (λ (m : ℕ) (x : List Step). straight_end m j.new x) (sym is.weighed.start_is) (sym pairs.done-are);
      kept-is = is.weighed.kept-is ∙ ap (kept_of j.new) (sym pairs.done-are);
      vars-are = is.weighed.vars-are;
      passes =
          ap (λ (l : List Step). (kept_rows p.line p.start.tokens j.new l).number) pairs.done-are
          ∙ ap₂ (λ (n m : ℕ). (kept_rows n m j.new done).number) is.weighed.line-is is.weighed.start_is
          ∙ rows-hold;
    }

    pub judged-prepared : (room : ℕ) (r : Judged) → 8192 ≤ room → AnswersRows p (done_in x) (matched_in x) r → r ≡ judged j room
    unfolding judged
    judged-prepared room r long answers =
        answers prepared-passing
        ∙ ap (judge_rows p.line p.start.tokens j.new) pairs.done-are
        ∙ ap₂ (λ (n m : ℕ). judge_rows n m j.new done) is.weighed.line-is is.weighed.start_is
        ∙ cond_yes _ _ refl (eq-eqb (ran j).number 0 is.ran-passes)
        ∙ cond_yes _ _ refl (le-leb 8192 room long)

    searched-is : (room : ℕ) → 8192 ≤ room → searched j room ≡ not straight
    unfolding searched
    searched-is room long =
        ap (λ (t : Bool). t && (eqb (ran j).number 0 && (eqb kept.number 0 && not straight)))
        (le-leb 8192 room long)
        ∙ ap₂ (λ (t u : Bool). t && (u && not straight)) (eq-eqb (ran j).number 0 is.ran-passes)
        (eq-eqb kept.number 0 rows-hold)

    pub work-prepared :
        (work after : List ℕ) → 8192 ≤ length work → Works p (done_in x) (matched_in x) work after → after ≡ work_after j work
    unfolding work_after
    work-prepared work after long works =
        works prepared-passing
        ∙ ap₂ (λ (m : ℕ) (x : List Step). cond (runs_straight m j.new x) work (cleared 8192 work)) is.weighed.start_is
        pairs.done-are
        ∙ turned straight
        ∙ ap₂ (λ (t : Bool) (x : List ℕ). cond t x work) (sym (searched-is (length work) long)) (cleared-is 8192 work)
      where
        turned : (t : Bool) → cond t work (cleared 8192 work) ≡ cond (not t) (cleared 8192 work) work
        turned true = refl
        turned false = refl
