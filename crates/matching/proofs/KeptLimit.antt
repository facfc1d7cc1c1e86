-- Row 10 by the end of the straight list as found: where it refuses, and where rows 11 and 12 are left.
use mathlib.Core.Path.{◌≡◌, refl, sym, ap, ap₂, ◌∙◌}
use mathlib.Core.Bool.{Bool, true, false, not, cond, ◌||◌}
use mathlib.Core.List.{List}
use mathlib.Core.Option.{get_or}
use Prim.Native.Nat.{ℕ, ◌+◌}
use lib.Dec.{leb}
use borrow.Author.Tests.{not-true, not-false}
use Rattle.std.specs.Prelude.{Option, Some, None, is_some}
use Rattle.mask.specs.Mask.{members, count}
use Rattle.mask.proofs.Truth.{split}
use Rattle.route.specs.declared.Step.{Step}
use Rattle.route.specs.declared.Marking.{Marking}
use Rattle.refusal.specs.Rows.{refuse, first}
use Rattle.refusal.proofs.Rows.{row-passes, row-refuses}
use Rattle.matching.specs.Straight.{fire_all, runs_straight}
use Rattle.matching.specs.Fit.{kept_of}
use Rattle.matching.specs.KeptRows.{kept_lines, kept_rows}
use Rattle.matching.specs.inner.Matched.{straight_end}

straight-test : (from : ℕ) (new l : List Step) → is_some (straight_end from new l) ≡ runs_straight from new l
unfolding straight_end
straight-test from new l =
    split (λ (t : Bool). is_some {T = Marking} (cond t (Some (record { tokens = get_or (fire_all new from l) 0 })) None) ≡ t)
    (runs_straight from new l)
    (λ e. refl)
    (λ e. refl)

module _
    (line from : ℕ) (new l : List Step) (kept : ℕ) (e : Option Marking)
    (kept-is : kept ≡ kept_of new l) (straight-is : e ≡ straight_end from new l)
    (t : Bool) (is : t ≡ (is_some e || leb (count 64 kept) 16)) where
  test-is : (runs_straight from new l || leb (count 64 (kept_of new l)) 16) ≡ t
  test-is =
      ap₂ (λ (x : Bool) (k : ℕ). x || leb (count 64 k) 16) (sym (ap is_some straight-is ∙ straight-test from new l))
      (sym kept-is)
      ∙ sym is

  pub rows-over : not t ≡ true → refuse 10 line ≡ kept_rows line from new l
  unfolding kept_rows
  rows-over h = sym (row-refuses _ 10 line _ (test-is ∙ not-true t h) refl)

  pub rows-lines : not t ≡ false → first (kept_lines new l (line + 1) (members 64 kept)) ≡ kept_rows line from new l
  unfolding kept_rows
  rows-lines h =
      ap (λ (k : ℕ). first (kept_lines new l (line + 1) (members 64 k))) kept-is
      ∙ sym (row-passes _ 10 line _ (test-is ∙ not-false t h))
