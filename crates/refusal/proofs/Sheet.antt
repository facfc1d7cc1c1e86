-- The rows of a sheet's lines in turn: those of the old route, of the new one from its head on, and of the done lines.
use Rattle.std.proofs.Common.{◌≡◌, sym, ap, ◌∙◌, ℕ, List, ◌++◌}
use Rattle.refusal.specs.Rows.{pass, refuse, first}
use Rattle.refusal.specs.Refusal.{number_of}
use Rattle.refusal.specs.declared.Outcome.{Outcome}
use Rattle.refusal.specs.declared.Refusal.{Refusal}
use Rattle.refusal.proofs.Answered.{err-rows, ok-rows}

-- the new head is on line n, and `(job)` on line m
module _ (old : List Outcome) (new done : ℕ → List Outcome) (n m : ℕ) where
  abbrev whole : Outcome
  whole = first (old ++ (new n ++ done m))

  pub sheet-old : (e : Refusal) → refuse (number_of e.row) e.second ≡ first old
      → refuse (number_of e.row) e.second ≡ whole
  sheet-old e is = err-rows e old is _

  module _ (passed : pass ≡ first old) (head : ℕ) (head-is : head ≡ n) where
    moved : (o : Outcome) → o ≡ first (new head) → o ≡ first (new n)
    moved o is = is ∙ ap (λ (k : ℕ). first (new k)) head-is

    pub sheet-new : (e : Refusal) → refuse (number_of e.row) e.second ≡ first (new head)
        → refuse (number_of e.row) e.second ≡ whole
    sheet-new e is = err-rows e (new n) (moved _ is) _ ∙ sym (ok-rows old passed _)

    pub sheet-done : pass ≡ first (new head) → (line : ℕ) → line ≡ m → (o : Outcome) → o ≡ first (done line)
        → o ≡ whole
    sheet-done passed' line line-is o last =
        last
        ∙ ap (λ (k : ℕ). first (done k)) line-is
        ∙ sym (ok-rows (new n) (moved _ passed') _)
        ∙ sym (ok-rows old passed _)
