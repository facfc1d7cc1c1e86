-- Row 22 over a sheet's lines in turn: the start line and the steps of a route, both routes, the done lines. Assumes
-- nothing.
use mathlib.Core.Path.{◌≡◌, refl, sym, ap, ◌∙◌}
use mathlib.Core.List.{List}
use Prim.Native.Nat.{ℕ, ◌+◌}
use lib.Dec.{eqb}
use borrow.Author.Tests.{eq-eqb, ne_eqb}
use Rattle.refusal.specs.Rows.{pass, refuse, first, each_line}
use Rattle.refusal.specs.Refusal.{number_of}
use Rattle.refusal.specs.declared.Outcome.{Outcome}
use Rattle.refusal.specs.declared.Refusal.{Refusal}
use Rattle.refusal.proofs.Rows.{row-passes, row-refuses}
use Rattle.refusal.proofs.Sheet.{sheet-old, sheet-new, sheet-done}
use Rattle.route.specs.Firing.{implied_start, implied_places}
use Rattle.route.specs.declared.Places.{Places}
use Rattle.route.specs.declared.Step.{Step}
use Rattle.job.specs.Job.{Job, new_line, job_line}
use Rattle.converting.specs.Beyond.{says_name, says_step, says_start, beyond_route, beyond_rows}

module _ (line : ℕ) (places : Places) (l : List Step) (p : Places) (implied : p ≡ implied_places places.count l) where
  start-is : p.start ≡ implied_start places.count l
  start-is = ap (λ (q : Places). q.start) implied

  pub start-beyond : (places.start ≡ p.start → ⊥) → refuse 22 (line + 1) ≡ first (beyond_route line places l)
  unfolding beyond_route says_start
  start-beyond off =
      sym (row-refuses (eqb places.start (implied_start places.count l)) 22 (line + 1) _
      (ne_eqb _ _ (λ e. off (e ∙ sym start-is))) refl)

  pub start-said : places.start ≡ p.start → (o : Outcome) → o ≡ first (each_line says_step 22 (line + 2) l)
      → o ≡ first (beyond_route line places l)
  unfolding beyond_route says_start
  start-said same o steps =
      steps ∙ sym (row-passes (eqb places.start (implied_start places.count l)) 22 (line + 1) _
      (eq-eqb _ _ (same ∙ start-is)))

-- both routes' lines, then the done lines
module _ (j : Job) where
  abbrev old_rows : List Outcome
  old_rows = beyond_route 1 j.old_places j.old

  abbrev new_at : ℕ → List Outcome
  new_at n = beyond_route n j.new_places j.new

  abbrev done_at : ℕ → List Outcome
  done_at n = each_line says_name 22 (n + 1) j.done

  pub old-beyond : (e : Refusal) → refuse (number_of e.row) e.second ≡ first old_rows
      → refuse (number_of e.row) e.second ≡ first (beyond_rows j)
  unfolding beyond_rows
  old-beyond = sheet-old old_rows new_at done_at (new_line j) (job_line j)

  module _ (passed : pass ≡ first old_rows) (head : ℕ) (head-is : head ≡ new_line j) where
    pub new-beyond : (e : Refusal) → refuse (number_of e.row) e.second ≡ first (beyond_route head j.new_places j.new)
        → refuse (number_of e.row) e.second ≡ first (beyond_rows j)
    unfolding beyond_rows
    new-beyond = sheet-new old_rows new_at done_at (new_line j) (job_line j) passed head head-is

    pub done-beyond : pass ≡ first (beyond_route head j.new_places j.new) → (line : ℕ) → line ≡ job_line j
        → (o : Outcome) → o ≡ first (each_line says_name 22 (line + 1) j.done) → o ≡ first (beyond_rows j)
    unfolding beyond_rows
    done-beyond = sheet-done old_rows new_at done_at (new_line j) (job_line j) passed head head-is
