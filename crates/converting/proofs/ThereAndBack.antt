-- There and back: where no row refuses a sheet one way, none refuses what is given the other way, and that gives the
-- first bytes again. Assumes nothing.
use mathlib.Core.Path.{◌≡◌, ap, ◌∙◌}
use mathlib.Core.Bool.{true}
use mathlib.Core.List.{List, ◌∷◌, ◌++◌}
use Prim.Native.Nat.{ℕ, ◌+◌}
use lib.Dec.{eqb}
use borrow.Author.Tests.{eq-eqb, eqb-true}
use Rattle.refusal.specs.Rows.{first}
use Rattle.refusal.specs.declared.Outcome.{Outcome}
use Rattle.refusal.proofs.Rows.{rows_pass, rows-passed, head-passes, head_passed}
use Rattle.version.specs.Limits.{scope, present}
use Rattle.job.specs.Job.{Job}
use Rattle.facts.specs.Facts.{read_by, read_of}
use Rattle.facts.proofs.PassingLines.{Passes}
use Rattle.converting.specs.Up.{scope_job, read_row, up_row, up_text}
use Rattle.converting.specs.Nets.{net_rows}
use Rattle.converting.specs.Beyond.{beyond_rows}
use Rattle.converting.specs.Down.{present_job, down_row, down_text}
use Rattle.converting.proofs.BothNets.{nets-in-another}
use Rattle.converting.proofs.Said.{said-passes}
use Rattle.converting.proofs.Raised.{up-number, up-job}
use Rattle.converting.proofs.Lowered.{down-number, down-job, up-again, up-said, down-again}

-- ---- what rows that pass say

module _ (s : List ℕ) (ok : (up_row s).number ≡ 0) where
  up-parts : (eqb (read_row (read_by scope s)).number 0 ≡ true) × Passes (net_rows scope (scope_job s))
  unfolding up_row
  up-parts = head_passed (read_row (read_by scope s)) _ (eq-eqb _ 0 ok)

  pub up-read : (read_by scope s).number ≡ 0
  up-read = eqb-true _ 0 up-parts.0

  nets-down : Passes (net_rows present (scope_job s))
  nets-down = nets-in-another scope present (scope_job s) up-parts.1

  pub down-passes : (down_row (up_text s)).number ≡ 0
  unfolding down_row
  down-passes =
      let t = up_text s in
      let j = scope_job s in
      eqb-true _ 0 (ap (λ (o : Outcome). eqb o.number 0)
      (head-passes (read_row (read_of t)) _ (eq-eqb _ 0 (up-number s up-read))
      ∙ ap (λ (k : Job). first (net_rows present k ++ beyond_rows k)) (up-job s up-read)
      ∙ rows_pass (net_rows present j) (beyond_rows j) nets-down)
      ∙ said-passes j (up-said s up-read))

  pub up-then-down : down_text (up_text s) ≡ s
  up-then-down = down-again s up-read

module _ (t : List ℕ) (ok : (down_row t).number ≡ 0) where
  abbrev j : Job
  j = present_job t

  down-parts : (eqb (read_row (read_of t)).number 0 ≡ true) × Passes (net_rows present j) × Passes (beyond_rows j)
  unfolding down_row
  down-parts =
      let (read, rest) = head_passed (read_row (read_of t)) _ (eq-eqb _ 0 ok) in
      let (nets, beyond) = rows-passed (net_rows present j) (beyond_rows j) rest in
      (read, nets, beyond)

  down-read : (read_of t).number ≡ 0
  down-read = eqb-true _ 0 down-parts.0

  nets-up : Passes (net_rows scope j)
  nets-up = nets-in-another present scope j down-parts.1

  pub up-passes : (up_row (down_text t)).number ≡ 0
  unfolding up_row
  up-passes =
      let s = down_text t in
      let pass = down-parts.2 in
      eqb-true _ 0 (ap (λ (o : Outcome). eqb o.number 0)
      (head-passes (read_row (read_by scope s)) _ (eq-eqb _ 0 (down-number t down-read pass))
      ∙ ap (λ (k : Job). first (net_rows scope k)) (down-job t down-read pass))
      ∙ nets-up)

  pub down-then-up : up_text (down_text t) ≡ t
  down-then-up = up-again t down-read down-parts.2
