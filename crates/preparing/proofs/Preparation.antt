-- A job after the rows to 12, by whether the done list has run.
use mathlib.Core.Path.{◌≡◌, refl, sym, ap, ◌∙◌}
use mathlib.Core.Bool.{true}
use mathlib.Core.List.{List, map}
use Prim.Native.Nat.{ℕ, ◌≤◌, ◌<◌}
use native.Mathlib.Omega.{arith}
use lib.ListN.{length}
use Rattle.mask.specs.Mask.{has}
use Rattle.std.specs.Prelude.{⊤, Result, Ok, Err}
use Rattle.refusal.specs.Rows.{pass, refuse, first}
use Rattle.refusal.specs.Refusal.{number_of, outcome_of}
use Rattle.refusal.specs.declared.Refusal.{Refusal}
use Rattle.refusal.specs.declared.Outcome.{Outcome}
use Rattle.refusal.proofs.Rows.{cond-zero-elim}
use Rattle.route.specs.declared.Step.{Step}
use Rattle.job.specs.Job.{Job, job_line, new_start}
use Rattle.job.specs.Lines.{line_rows, LinesPass}
use Rattle.running.specs.Run.{ran, performed}
use Rattle.route.specs.Firing.{fired_of}
use Rattle.finding.specs.inner.Gathering.{Gathers}
use Rattle.finding.specs.declared.Gathered.{Gathered}
use Rattle.job.proofs.Rows.{pass_fits}
use Rattle.running.proofs.AfterRun.{line-ends, run_ends, run-passes, run-answers}
use Rattle.route.specs.Steps.{names}
use Rattle.flat.specs.Flat.{Holds}
use Rattle.occurrences.specs.Occurrences.{shared, occurrence, occurrences_of}
use Rattle.occurrences.proofs.DoneOccurrences.{length-occurrences, names-occurrences, holds-narrowed}
use Rattle.running.proofs.DoneNames.{performed-names}
use Rattle.slice.specs.Slice.{variables}
use Rattle.slice.proofs.Sweep.{kept-below}
use Rattle.matching.specs.Fit.{kept_of}
use Rattle.matching.specs.KeptRows.{kept_rows, rows_to12}
use Rattle.matching.specs.inner.Matched.{matched}
use Rattle.matching.specs.inner.Pairs.{done_in, matched_in}
use Rattle.matching.specs.declared.Pairs.{Pairs}
use Rattle.preparing.specs.inner.Preparing.{Filled, PairsOf, PreparedOf}
use Rattle.matching.specs.inner.Matches.{MatchesOf}
use Rattle.preparing.specs.inner.Preparing.{Weighed}
use Rattle.preparing.specs.declared.Prepared.{Prepared}
use Rattle.matching.proofs.Matched.{length-matched}

module _ (j : Job) where
  -- rows 10 to 12 of the job
  abbrev pub job_rows : Outcome
  job_rows = kept_rows (job_line j) (new_start j) j.new (occurrences_of j)

  -- a line is refused
  pub lines-refused : (e : Refusal) → refuse (number_of e.row) e.second ≡ first (line_rows j)
      → refuse (number_of e.row) e.second ≡ rows_to12 j
  unfolding rows_to12
  lines-refused e is = line-ends refuse job_rows j e is

  -- a row from 6 to 9 refuses
  pub run-refused : (e : Refusal) → fired_of (Err e) ≡ ran j → refuse (number_of e.row) e.second ≡ rows_to12 j
  unfolding rows_to12
  run-refused e is = run_ends refuse job_rows j e is

  names-done : (ran j).number ≡ 0 → names (occurrences_of j) ≡ j.done
  names-done runs = names-occurrences j ∙ performed-names j runs

  matched-is : (ran j).number ≡ 0 → matched j.new (occurrences_of j) ≡ performed j.new j.done
  unfolding matched
  matched-is runs = ap (performed j.new) (names-done runs)

  -- the done list has run; `line` is that of `(job)`
  module _
      (g : Gathered) (is : fired_of (Ok g.begun.marking) ≡ ran j) (steps occurrences matches : List ℕ)
      (gathers : Gathers j g steps matches) (lines : LinesPass j)
      (narrowed : (l : List Step) → length l ≡ length j.done → Holds l steps
      → Holds (map (occurrence (shared j.old)) l) occurrences) where
    runs : (ran j).number ≡ 0
    runs = run-passes j _ is

    pub gathers-filled : Filled j occurrences matches
    gathers-filled =
        record {
          few = (pass_fits j lines).done-fit;
          done-are = holds-narrowed j steps occurrences gathers.begins.done-are narrowed;
          matches-are = gathers.matches-are;
        }

    module _ (line : ℕ) (line-is : line ≡ job_line j) (x : Pairs) (pairs : PairsOf j x) where
      matches-of : MatchesOf j.new (done_in x) x.matches.now
      matches-of =
          rw pairs.done-are
          (record {
            named = rw (names-done runs) (pass_fits j lines).done-names;
            steps-are = pairs.matches-are ∙ sym (matched-is runs);
          })

      pub rows-weighed :
          (o : Outcome)
          → (MatchesOf j.new (done_in x) x.matches.now → o ≡ kept_rows line g.begun.start.tokens j.new (done_in x))
          → o ≡ rows_to12 j
      unfolding rows_to12
      rows-weighed o weighs =
          let w : o ≡ job_rows = rw (line-is, gathers.begins.start_is, pairs.done-are) at (weighs matches-of) in
          w ∙ run-answers refuse job_rows j _ is

      pub prepared-weighed :
          (p : Prepared)
          → (MatchesOf j.new (done_in x) x.matches.now → Weighed line g.begun.start.tokens j.new (done_in x) p)
          → PreparedOf j p occurrences matches
      prepared-weighed p weighs =
          record {
            ran-passes = runs;
            filled = gathers-filled;
            weighed = rw (line-is, gathers.begins.start_is, pairs.done-are) at (weighs matches-of);
          }

  -- the rows to 12 pass: those to 9 do, and it is 10 to 12 that are left
  rows-parts : pass ≡ rows_to12 j → ((ran j).number ≡ 0) × (rows_to12 j ≡ job_rows)
  unfolding rows_to12
  rows-parts rows =
      cond-zero-elim {R = Outcome} (λ (o : Outcome). o.number) (ran j).number job_rows
      (refuse (ran j).number (ran j).second) refl (ap (λ (o : Outcome). o.number) (sym rows))

  pub rows-pass : (r : Result ⊤ Refusal) → outcome_of r ≡ rows_to12 j → (u : ⊤) → r ≡ Ok u → pass ≡ rows_to12 j
  rows-pass r is u ok = ap outcome_of (sym ok) ∙ is

  -- no row to 12 refuses: the done list has run, and all is told
  pub prepared-of :
      (p : Prepared) (occurrences matches : List ℕ)
      → pass ≡ rows_to12 j
      → ((ran j).number ≡ 0 → Filled j occurrences matches)
      → ((ran j).number ≡ 0 → Weighed (job_line j) (new_start j) j.new (occurrences_of j) p)
      → PreparedOf j p occurrences matches
  prepared-of p occurrences matches rows filled weighed =
      let runs = (rows-parts rows).0 in
      record {
        ran-passes = runs;
        filled = filled runs;
        weighed = weighed runs;
      }

  -- no row to 12 refuses
  module _ (p : Prepared) (rows : pass ≡ rows_to12 j) (occurrences matches : List ℕ) (is : PreparedOf j p occurrences matches) where
    pub prepared-rows : job_rows.number ≡ 0
    prepared-rows = ap (λ (o : Outcome). o.number) (sym (rows-parts rows).1 ∙ sym rows)

    pub steps-few : length (occurrences_of j) ≤ 64
    steps-few = omega (arith, length-occurrences j, is.filled.few)

    pub kept-has : (i : ℕ) → has p.kept i ≡ true → has (kept_of j.new (occurrences_of j)) i ≡ true
    kept-has i h = ap (λ (n : ℕ). has n i) (sym is.weighed.kept-is) ∙ h

    pub kept-done : (i : ℕ) → has p.kept i ≡ true → i < length (occurrences_of j)
    unfolding kept_of
    kept-done i h = kept-below (occurrences_of j) (variables j.new) i (kept-has i h)

    module _ (x : Pairs) (pairs : PairsOf j x) where
      pub pairs-matched : matched_in x ≡ matched j.new (occurrences_of j)
      pairs-matched = pairs.matches-are ∙ sym (matched-is is.ran-passes)

      pub kept-matched : (i : ℕ) → has p.kept i ≡ true → i < length (matched_in x)
      kept-matched i h = rw pairs-matched (omega (arith, length-matched j.new (occurrences_of j), kept-done i h))
