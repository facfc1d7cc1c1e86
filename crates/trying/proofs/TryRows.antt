-- The operation try, row by row: which part of the definition an answer is.
use mathlib.Core.Path.{◌≡◌, refl, sym, ap, ap₂, ◌∙◌}
use mathlib.Core.Bool.{Bool, true, false, cond, ◌&&◌}
use mathlib.Core.List.{List, map}
use mathlib.Core.Option.{get_or}
use Prim.Native.Nat.{ℕ, suc}
use lib.Dec.{eqb}
use lib.ListN.{length}
use Rattle.std.specs.Prelude.{Option, Some, None}
use Rattle.refusal.specs.Rows.{pass, refuse, first}
use Rattle.refusal.specs.Refusal.{number_of}
use Rattle.refusal.specs.declared.Refusal.{Refusal}
use Rattle.refusal.proofs.Answered.{number-some}
use Rattle.route.specs.declared.Step.{Step}
use Rattle.route.specs.declared.Marking.{Marking}
use Rattle.refusal.specs.declared.Outcome.{Outcome}
use Rattle.job.specs.Job.{Job, cut, job_line, new_start}
use Rattle.job.specs.Lines.{line_rows}
use Rattle.running.specs.Run.{ran}
use Rattle.occurrences.specs.Occurrences.{occurrences_of}
use Rattle.job.proofs.LongLists.{Refused, laid-alike}
use Rattle.running.proofs.LongLists.{ran-alike, ran-off}
use Rattle.precedence.specs.Order.{in_turn}
use Rattle.matching.specs.Straight.{fire_all, runs_straight}
use Rattle.matching.specs.KeptRows.{kept_rows, rows_to12}
use Rattle.matching.specs.inner.Matched.{straight_end}
use Rattle.preparing.specs.declared.Prepared.{Prepared}
use Rattle.preparing.proofs.Preparation.{lines-refused}
use Rattle.order_entries.specs.Entries.{try_entries}
use Rattle.route.specs.Firing.{stopped}
use Rattle.trying.specs.Try.{same_list, try_list, try_rows, tried}
use Rattle.order_entries.specs.inner.Replayable.{Replayable}
use Rattle.trying.specs.inner.TryPrepared.{TryPrepared}
use Rattle.route.specs.declared.Fired.{Fired}

-- ---- the straight list first

module _ (l : List Step) (p : Prepared) (matches : List Step) (o : List ℕ) (n : ℕ) (count : n ≡ length l) (f : Option Marking)
    (is : f ≡ cond (same_list o (map suc (in_turn 0 n))) p.straight None) where
  abbrev accepted : Marking → Fired
  accepted m = record { number = 0; second = 0; marking = m }

  module _ (from : ℕ) (new : List Step) (ready : TryPrepared from new l p matches) where
    abbrev end : Marking
    end = record { tokens = get_or (fire_all new from l) 0 }

    abbrev rows : Fired
    rows = try_entries new l from o

    -- by whether the new route runs straight, and whether the order is 1, 2, ..
    end_is : f ≡ cond (same_list o (map suc (in_turn 0 (length l)))) (cond (runs_straight from new l) (Some end) None) None
    unfolding straight_end
    end_is = is ∙ ap₂ (λ (k : ℕ) (e : Option Marking). cond (same_list o (map suc (in_turn 0 k))) e None) count ready.straight-is

    at-end : (m : Marking) → f ≡ Some m → accepted m ≡ try_list from new l o
    unfolding try_list
    at-end m e = go (runs_straight from new l) (same_list o (map suc (in_turn 0 (length l)))) (sym end_is ∙ e)
      where
        go : (s t : Bool) → cond t (cond s (Some end) None) None ≡ Some m → accepted m ≡ cond (s && t) (accepted end) rows
        go true true q = let same : end ≡ m = cc in ap accepted (sym same)
        go true false q = cc
        go false true q = cc
        go false false q = cc

    at_rows : f ≡ None → rows ≡ try_list from new l o
    unfolding try_list
    at_rows e = go (runs_straight from new l) (same_list o (map suc (in_turn 0 (length l)))) (sym end_is ∙ e)
      where
        go : (s t : Bool) → cond t (cond s (Some end) None) None ≡ None → rows ≡ cond (s && t) (accepted end) rows
        go true true q = cc
        go true false q = refl
        go false true q = refl
        go false false q = refl

  pub list-straight : (m : Marking) → f ≡ Some m → (from : ℕ) (new : List Step) → TryPrepared from new l p matches
      → accepted m ≡ try_list from new l o
  list-straight m e from new ready = at-end from new ready m e

  pub list-rows : (r : Fired) → f ≡ None → ((new : List Step) → Replayable new l p.kept matches
      → r ≡ try_entries new l p.start.tokens o) → (from : ℕ) (new : List Step) → TryPrepared from new l p matches
      → r ≡ try_list from new l o
  list-rows r e by from new ready = by new ready.kept-are ∙ ap (λ (m : ℕ). try_entries new l m o) ready.start_is
      ∙ at_rows from new ready e

-- ---- the operation

module _ (j : Job) (o : List ℕ) where
  abbrev list : Fired
  list = try_list (new_start j) j.new (occurrences_of j) o

  abbrev kept_outcome : Outcome
  kept_outcome = kept_rows (job_line j) (new_start j) j.new (occurrences_of j)

  -- try by the outcome of the rows to 12
  by-outcome : tried j o ≡ cond (eqb (rows_to12 j).number 0) list (stopped (rows_to12 j).number (rows_to12 j).second)
  unfolding tried try_rows rows_to12
  by-outcome = go (eqb (ran j).number 0) refl
    where
      rows_by : Bool → Outcome
      rows_by t = cond t kept_outcome (refuse (ran j).number (ran j).second)

      go : (t : Bool) → eqb (ran j).number 0 ≡ t
          → cond t (try_rows (job_line j) (new_start j) j.new (occurrences_of j) o)
          (stopped (ran j).number (ran j).second)
          ≡ cond (eqb (rows_by t).number 0) list (stopped (rows_by t).number (rows_by t).second)
      go true e = refl
      go false e = ap (λ (b : Bool). cond b list (stopped (ran j).number (ran j).second)) (sym e)

  by_row : (w : Outcome) → w ≡ rows_to12 j → cond (eqb w.number 0) list (stopped w.number w.second) ≡ tried j o
  by_row w is = ap (λ (x : Outcome). cond (eqb x.number 0) list (stopped x.number x.second)) is ∙ sym by-outcome

  -- a row to 12 refuses
  pub tried-refused : (e : Refusal) → refuse (number_of e.row) e.second ≡ rows_to12 j
      → stopped (number_of e.row) e.second ≡ tried j o
  tried-refused e is =
      ap (λ (t : Bool). cond t list (stopped (number_of e.row) e.second)) (sym (number-some e.row)) ∙ by_row _ is

  -- a line is refused
  pub tried-line : (e : Refusal) → refuse (number_of e.row) e.second ≡ first (line_rows j)
      → stopped (number_of e.row) e.second ≡ tried j o
  tried-line e is = tried-refused e (lines-refused j e is)

  pub tried-list : pass ≡ rows_to12 j → (r : Fired) → r ≡ list → r ≡ tried j o
  tried-list is r e = e ∙ by_row pass is

-- ---- both lists laid as numbers: what a list has past its 65th step changes nothing

tried-alike : (o : List ℕ) (j k : Job) → Refused j k → tried j o ≡ tried k o
unfolding tried
tried-alike o j k r = rw (ran-alike j k r, ran-off j k r)

pub tried_cut : (o : List ℕ) (j k : Job) → k ≡ cut j → (r : Fired) → r ≡ tried k o → r ≡ tried j o
tried_cut o = laid-alike (λ (j : Job). tried j o) (tried-alike o)
