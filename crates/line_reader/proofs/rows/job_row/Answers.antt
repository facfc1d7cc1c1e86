-- `line_reader::rows::job_row`: row 4 of the route above.
use mathlib.Core.Path.{◌≡◌, sym, ap}
use mathlib.Core.Bool.{not}
use Prim.Native.Nat.{ℕ}
use lib.Dec.{eqb}
use borrow.Author.Tests.{eq-eqb, ne_eqb}
use Rattle.refusal.specs.Rows.{pass, refuse}
use Rattle.line_reader.specs.inner.Rows.{job_row}
use Rattle.refusal.proofs.Rows.{unless-no, unless-yes}
use borrow.Author.Rules.{rules}
use Rattle.line_reader.proofs.rows.job_row.Goals as goal

module _ (line above : ℕ) where
  four : above ≡ 0 → refuse 4 line ≡ job_row line above
  unfolding job_row
  four h = sym (unless-no (not (eqb above 0)) 4 line (ap not (eq-eqb above 0 h)))

  fine : (above ≡ 0 → ⊥) → pass ≡ job_row line above
  unfolding job_row
  fine h = sym (unless-yes (not (eqb above 0)) 4 line (ap not (ne_eqb above 0 h)))

pub returns-then-above-eq0 : goal.returns-then-above-eq0
returns-then-above-eq0 c = search (rules, four)

pub returns : goal.returns
returns c = search (rules, fine)
