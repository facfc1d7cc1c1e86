-- Try on a sheet's bytes: the sheet's refusal, or what try answers of its job.
use mathlib.Core.Path.{◌≡◌, refl, sym, ap, ◌∙◌}
use mathlib.Core.List.{List}
use Prim.Native.Nat.{ℕ, ◌*◌}
use Rattle.version.specs.Limits.{present}
use Rattle.std.specs.Prelude.{Ok, Err}
use lib.Dec.{eqb}
use lib.ListN.{take}
use borrow.Author.Tests.{eq-eqb}
use Rattle.facts.specs.Facts.{read_of}
use Rattle.job.specs.Job.{Job, flat_job}
use Rattle.route.specs.Firing.{stopped}
use Rattle.trying.specs.Try.{tried}
use Rattle.route.specs.declared.Fired.{Fired}
use Rattle.reader.specs.inner.Read.{ReadTo}
use Rattle.reader.specs.Refused.{counts_of}
use Rattle.reader.specs.declared.Lengths.{Lengths}
use Rattle.refusal.specs.Refusal.{number_of}
use Rattle.refusal.specs.declared.Refusal.{Refusal}
use Rattle.refusal.proofs.Answered.{number-some}
use Rattle.ops.specs.SheetTry.{tried_facts, tried_sheet}
use Rattle.reader.proofs.JobOfLists.{read-job}
use Rattle.mask.proofs.Truth.{cond_yes, cond_no}

module _ (s order : List ℕ) where
  pub try-refused : (e : Refusal) (old new done : List ℕ) → ReadTo s (counts_of (Err e)) old new done
      → stopped (number_of e.row) e.second ≡ tried_sheet s order
  unfolding tried_sheet tried_facts
  try-refused e old new done k =
      (λ i. stopped (k.number i) (k.second i))
      ∙ cond_no _ _ refl (ap (λ (n : ℕ). eqb n 0) (sym k.number) ∙ number-some e.row)

  pub try-tried : (c : Lengths) (old new done : List ℕ) → ReadTo s (counts_of (Ok c)) old new done → (j : Job)
      → j ≡ flat_job c.old_places (take (4 * c.old_len) old) c.new_places (take (4 * c.new_len) new) (take c.done_len done)
      → (t : Fired) → t ≡ tried j order → t ≡ tried_sheet s order
  unfolding tried_sheet tried_facts
  try-tried c old new done k j is t e =
      e
      ∙ ap (λ (j : Job). tried j order) (read-job present s c old new done k j is)
      ∙ cond_yes _ _ refl (eq-eqb (read_of s).number 0 (sym k.number))
