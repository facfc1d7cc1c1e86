-- Row 16 over the whole order, and then 17 and 18: which part of the definition an answer is.
use mathlib.Core.Path.{◌≡◌, sym, ap, ◌∙◌}
use mathlib.Core.Bool.{Bool, cond}
use mathlib.Core.List.{List}
use Prim.Native.Nat.{ℕ}
use lib.Dec.{eqb}
use Rattle.refusal.specs.Rows.{pass, refuse}
use Rattle.refusal.specs.declared.Outcome.{Outcome}
use Rattle.refusal.specs.Refusal.{number_of}
use Rattle.refusal.specs.declared.Refusal.{Refusal}
use Rattle.refusal.proofs.Answered.{number-some}
use Rattle.route.specs.declared.Step.{Step}
use Rattle.precedence.specs.Table.{table}
use Rattle.matching.specs.Fit.{kept_of}
use Rattle.order_entries.specs.Entries.{list_row, try_from, try_entries}
use Rattle.route.specs.Firing.{stopped}
use Rattle.order_entries.specs.inner.Replayable.{Replayable}
use Rattle.route.specs.declared.Fired.{Fired}
use Rattle.order_entries.proofs.Row17.{positions}
use Rattle.order_entries.proofs.Entry.{Answers}

module _ (kept : ℕ) (o : List ℕ) where
  pub list-passes : pass ≡ list_row kept 0 1 o → (list_row kept 0 1 o).number ≡ 0
  list-passes is = ap (λ (x : Outcome). x.number) (sym is)

  module _ (l matches : List Step) (m : ℕ) where
    picked : (w : Outcome) → w ≡ list_row kept 0 1 o → (new : List Step) → kept ≡ kept_of new l
        → cond (eqb w.number 0) (try_from new l m 1 (positions o)) (stopped w.number w.second) ≡ try_entries new l m o
    unfolding try_entries
    picked w is new kept-is =
        ap (λ (x : Outcome). cond (eqb x.number 0) (try_from new l m 1 (positions o)) (stopped x.number x.second))
        (is ∙ ap (λ (n : ℕ). list_row n 0 1 o) kept-is)

    pub rows-refused : (e : Refusal) → refuse (number_of e.row) e.second ≡ list_row kept 0 1 o → (new : List Step)
        → Replayable new l kept matches → stopped (number_of e.row) e.second ≡ try_entries new l m o
    rows-refused e is new ready =
        ap (λ (t : Bool). cond t (try_from new l m 1 (positions o)) (stopped (number_of e.row) e.second))
        (sym (number-some e.row))
        ∙ picked _ is new ready.kept-is

    pub rows-tried : (r : Fired) (rows : List ℕ) → pass ≡ list_row kept 0 1 o → rows ≡ table l
        → Answers o kept rows matches m r → (new : List Step) → Replayable new l kept matches → r ≡ try_entries new l m o
    rows-tried r rows is rows_are answers new ready = answers new l ready rows_are ∙ picked pass is new ready.kept-is
