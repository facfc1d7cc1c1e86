-- Rows 10 to 12 pass exactly when the limit holds and every kept occurrence is in the new route with the same reads,
-- writes and mark: the rows ask this of the kept in turn, and these are all the kept.
use mathlib.Core.Path.{◌≡◌, refl, sym, ap, ◌∙◌}
use mathlib.Core.Logic.{inl, inr}
use mathlib.Core.Bool.{Bool, true, false, ◌||◌, true≢false}
use mathlib.Core.List.{List, [], ◌∷◌}
use Prim.Native.Nat.{ℕ, ◌+◌, ◌≤◌, ◌<◌}
use native.Mathlib.Omega.{arith}
use lib.Dec.{leb}
use lib.ListN.{length, get_or}
use borrow.Author.Tests.{le-leb}
use Rattle.mask.specs.Mask.{has, members, count}
use Rattle.mask.proofs.Truth.{or-then}
use Rattle.route.specs.Steps.{blank}
use Rattle.refusal.specs.Rows.{first}
use Rattle.route.specs.declared.Step.{Step}
use Rattle.refusal.specs.declared.Outcome.{Outcome}
use Rattle.refusal.proofs.Rows.{row-passes, cond-zero, unless-number, first-number}
use Rattle.slice.specs.Slice.{variables}
use Rattle.precedence.specs.Order.{times, EachOnce}
use Rattle.slice.proofs.Sweep.{kept-below}
use Rattle.matching.specs.Straight.{same_step, runs_straight}
use Rattle.matching.specs.Fit.{kept_of, FitAt}
use Rattle.matching.specs.KeptRows.{kept_row, kept_lines, kept_rows}
use Rattle.precedence.proofs.Times.{times-head, each_once-has, has-each_once}
use Rattle.matching.proofs.KeptRows.{limit-holds, members-same, row_same}
use Rattle.theorems.proofs.Candidates.{at_entry}
use Rattle.theorems.proofs.MembersOrder.{members-each_once}
use Rattle.theorems.proofs.FitList.{straight-same, fit_same}

-- what rows 10 to 12 ask
pub record KeptPass (from : ℕ) (new l : List Step) : Type 0 where
  pub limit : runs_straight from new l ≡ false → count 64 (kept_of new l) ≤ 16
  pub same : (i : ℕ) → has (kept_of new l) i ≡ true → same_step new (get_or l i blank) ≡ true

-- ---- the lines in turn

same_lines : (new l : List Step) (line : ℕ) (o : List ℕ)
    → ((i : ℕ) → 0 < times i o → same_step new (get_or l i blank) ≡ true) → (first (kept_lines new l line o)).number ≡ 0
unfolding kept_lines first times
same_lines new l line [] h = refl
same_lines new l line (x ∷ o) h =
    rw (cond-zero (kept_row new (line + x) (get_or l x blank)).number (first (kept_lines new l line o))
    (kept_row new (line + x) (get_or l x blank))
    (ap (λ (o : Outcome). o.number) (row_same new (line + x) (get_or l x blank) (h x (times-head x (times x o))))))
    (same_lines new l line o (λ i n. h i (omega arith)))

-- ---- all rows

abbrev UpTo12 : ℕ → Type 0
UpTo12 n = n ≤ 12

none-short : (first []).number ≤ 12
unfolding first
none-short = omega arith

row-short : (new : List Step) (line : ℕ) (s : Step) → (kept_row new line s).number ≤ 12
unfolding kept_row
row-short new line s =
    first-number UpTo12 _ _ (unless-number UpTo12 _ 11 line (omega arith) (omega arith))
    (first-number UpTo12 _ [] (unless-number UpTo12 _ 12 line (omega arith) (omega arith)) none-short)

lines-short : (new l : List Step) (line : ℕ) (o : List ℕ) → (first (kept_lines new l line o)).number ≤ 12
unfolding kept_lines
lines-short new l line [] = none-short
lines-short new l line (x ∷ o) = first-number UpTo12 _ (kept_lines new l line o)
    (row-short new (line + x) (get_or l x blank)) (lines-short new l line o)

-- no other number comes from these rows
pub kept_rows-most : (line from : ℕ) (new l : List Step) → (kept_rows line from new l).number ≤ 12
unfolding kept_rows
kept_rows-most line from new l =
    first-number UpTo12 _ _ (unless-number UpTo12 _ 10 line (omega arith) (omega arith))
    (lines-short new l (line + 1) (members 64 (kept_of new l)))

-- only occurrences are kept
pub kept-short : (new l : List Step) (i : ℕ) → has (kept_of new l) i ≡ true → i < length l
unfolding kept_of
kept-short new l = kept-below l (variables new)

-- a fit list passes rows 10 to 12
pub fit-pass : (from : ℕ) (new l : List Step) (p : List ℕ) → FitAt from new l p → KeptPass from new l
fit-pass from new l p (inl s) = record {
  limit = λ e. absurd (true≢false (sym s.runs ∙ e));
  same = λ i h. straight-same from new l s.runs i (kept-short new l i h);
}
fit-pass from new l p (inr k) = record {
  limit = k.limit;
  same = λ i h. fit_same from new l p (inr k) i (has-each_once (kept_of new l) p k.once i h);
}

-- the kept in turn hold each kept occurrence once
pub all-kept : (new l : List Step) → length l ≤ 64 → EachOnce (kept_of new l) (members 64 (kept_of new l))
all-kept new l short = members-each_once 64 (kept_of new l) (λ i h. omega (arith, kept-short new l i h))

module _ (from : ℕ) (new l : List Step) (short : length l ≤ 64) where
  abbrev limited : Bool
  limited = leb (count 64 (kept_of new l)) 16

  pub kept_rows-elim : (line : ℕ) → (kept_rows line from new l).number ≡ 0 → KeptPass from new l
  kept_rows-elim line e =
      record {
        limit = limit-holds line from new l e;
        same = λ i h. let (k, low, is) = at_entry (members 64 (kept_of new l)) i
            (has-each_once (kept_of new l) (members 64 (kept_of new l)) (all-kept new l short) i h) in rw is at
            (members-same line from new l e k low);
      }

  pub kept_rows-intro : (line : ℕ) → KeptPass from new l → (kept_rows line from new l).number ≡ 0
  unfolding kept_rows
  kept_rows-intro line p =
      ap (λ (o : Outcome). o.number) (row-passes (runs_straight from new l || limited) 10 line _
      (or-then (runs_straight from new l) limited (λ h. le-leb (count 64 (kept_of new l)) 16 (p.limit h))))
      ∙ same_lines new l (line + 1) (members 64 (kept_of new l))
      (λ i n. p.same i (each_once-has (kept_of new l) (members 64 (kept_of new l)) (all-kept new l short) i n))
