-- `line_reader::rows::new_row`: row 4 of the route above, then row 2.
use mathlib.Core.Path.{◌≡◌, refl, sym, ap, ◌∙◌}
use mathlib.Core.Bool.{Bool, true, false, not}
use mathlib.Core.List.{[], ◌∷◌}
use Prim.Native.Nat.{ℕ}
use lib.Dec.{eqb}
use borrow.Author.Tests.{eq-eqb, ne_eqb}
use Rattle.refusal.specs.Rows.{refuse, unless, first}
use Rattle.refusal.specs.declared.Outcome.{Outcome}
use Rattle.refusal.proofs.Rows.{row-passes, row-refuses}
use Rattle.job.specs.Lines.{places_fit}
use Rattle.line_reader.specs.inner.Rows.{head_row, new_row}
use borrow.Author.Rules.{rules}
use Rattle.line_reader.proofs.rows.new_row.Goals as goal

module _ (line above n : ℕ) where
  four : above ≡ 0 → refuse 4 line ≡ new_row line above n
  unfolding new_row
  four h = sym (row-refuses (not (eqb above 0)) 4 line _ (ap not (eq-eqb above 0 h)) refl)

  then : (o : Outcome) → (above ≡ 0 → ⊥) → o ≡ head_row line n → o ≡ new_row line above n
  unfolding new_row head_row
  then o h q = q ∙ sym (row-passes (not (eqb above 0)) 4 line (unless (places_fit n) 2 line ∷ [])
      (ap not (ne_eqb above 0 h)) ∙ alone (places_fit n))
    where
      alone : (t : Bool) → first (unless t 2 line ∷ []) ≡ unless t 2 line
      alone true = unfold first unless in refl
      alone false = unfold first unless in refl

pub returns-then-above-eq0 : goal.returns-then-above-eq0
returns-then-above-eq0 c = search (rules, four)

pub returns : goal.returns
returns c = search (rules, then)
