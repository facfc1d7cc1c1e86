-- Rows 10 to 12: they pass exactly where the limit holds and the new route has each of the kept with the same reads,
-- writes and mark, and the first of the kept of which that doesn't hold is the one refused.
use mathlib.Core.Path.{◌≡◌, refl, sym, ap, ◌∙◌}
use mathlib.Core.Bool.{Bool, true, false, cond, ◌||◌}
use mathlib.Core.List.{List, [], ◌∷◌}
use mathlib.Core.Option.{Option, none, some}
use Prim.Native.Nat.{ℕ, zero, suc, ◌+◌, ◌≤◌, ◌<◌}
use native.Mathlib.Omega.{arith}
use lib.Dec.{eqb, leb}
use lib.ListN.{length, get_or}
use borrow.Author.Tests.{leb-true, le-leb, eq-eqb}
use Rattle.mask.specs.Mask.{has, members_from, members, count}
use Rattle.mask.proofs.Members.{member-at}
use Rattle.mask.proofs.Truth.{either, or-then}
use Rattle.route.specs.Steps.{blank, lookup}
use Rattle.refusal.specs.Rows.{pass, refuse, first}
use Rattle.route.specs.declared.Step.{Step}
use Rattle.refusal.specs.declared.Outcome.{Outcome}
use Rattle.refusal.proofs.Rows.{row-passes, row-refuses, row-passed, head-passes, head_passed, head-refuses, rows_end}
use Rattle.search.specs.Search.{is_some}
use Rattle.matching.specs.Straight.{same_data, same_step, runs_straight}
use Rattle.matching.specs.Fit.{kept_of}
use Rattle.matching.specs.KeptRows.{kept_row, kept_lines, kept_rows}

-- ---- one line

module _ (new : List Step) (line : ℕ) (s : Step) where
  pub row-missing : is_some (lookup s.name new) ≡ false → kept_row new line s ≡ refuse 11 line
  unfolding kept_row
  row-missing e = row-refuses _ 11 line _ e refl

  pub row-differs : is_some (lookup s.name new) ≡ true → same_step new s ≡ false → kept_row new line s ≡ refuse 12 line
  unfolding kept_row
  row-differs e d = row-passes _ 11 line _ e ∙ row-refuses _ 12 line [] d refl

  pub row_same : same_step new s ≡ true → kept_row new line s ≡ pass
  unfolding kept_row same_step same_data is_some
  row_same h =
      row-passes _ 11 line _ (there (lookup s.name new) h) ∙ row-passes (same_step new s) 12 line [] h ∙ rows_end
    where
      there : (q : Option Step) → same_data s q ≡ true → is_some q ≡ true
      there none h = h
      there (some t) h = refl

  pub same_row : eqb (kept_row new line s).number 0 ≡ true → same_step new s ≡ true
  unfolding kept_row
  same_row e = (row-passed (same_step new s) 12 line [] refl (row-passed _ 11 line _ refl e).1).0

-- ---- the lines in turn

module _ (new l : List Step) (line kept : ℕ) where
  -- the new route has the occurrence at i with the same data
  abbrev SameAt : ℕ → Type 0
  SameAt i = same_step new (get_or l i blank) ≡ true

  abbrev lines_from : ℕ → ℕ → Outcome
  lines_from v k = first (kept_lines new l line (members_from v k kept))

  abbrev line_at : ℕ → Outcome
  line_at i = kept_row new (line + i) (get_or l i blank)

  -- the line at v, where it passes
  passed_on : (v k : ℕ) → (has kept v ≡ true → SameAt v) → lines_from v (suc k) ≡ lines_from (suc v) k
  unfolding members_from kept_lines
  passed_on v k h = go (has kept v) refl
    where
      rest : List ℕ
      rest = members_from (suc v) k kept

      go :
          (t : Bool) → has kept v ≡ t
          → first (kept_lines new l line (cond t (v ∷ rest) rest)) ≡ first (kept_lines new l line rest)
      go true e =
          head-passes (line_at v) _
          (ap (λ (o : Outcome). eqb o.number 0) (row_same new (line + v) (get_or l v blank) (h e)))
      go false e = refl

  lines-from-pass : (v k : ℕ) → ((i : ℕ) → has kept i ≡ true → SameAt i) → lines_from v k ≡ pass
  unfolding members_from kept_lines
  lines-from-pass v zero h = rows_end
  lines-from-pass v (suc k) h = passed_on v k (h v) ∙ lines-from-pass (suc v) k h

  lines-from-at :
      (v k i : ℕ) → v ≤ i → i < v + k → has kept i ≡ true → ((j : ℕ) → j < i → has kept j ≡ true → SameAt j)
      → eqb (line_at i).number 0 ≡ false → lines_from v k ≡ line_at i
  unfolding members_from kept_lines
  lines-from-at v zero i low high there h off = absurd (omega arith)
  lines-from-at v (suc k) i low high there h off =
      either v i here
      (λ far. passed_on v k (h v (omega arith)) ∙ lines-from-at (suc v) k i (omega arith) (omega arith) there h off)
    where
      rest : List ℕ
      rest = members_from (suc v) k kept

      here : v ≡ i → lines_from v (suc k) ≡ line_at i
      here e =
          ap (λ (t : Bool). first (kept_lines new l line (cond t (v ∷ rest) rest))) (ap (has kept) e ∙ there)
          ∙ ap (λ (n : ℕ). first (line_at n ∷ kept_lines new l line rest)) e
          ∙ head-refuses (line_at i) _ off

  lines-from-same :
      (v k : ℕ) → eqb (lines_from v k).number 0 ≡ true → (i : ℕ) → v ≤ i → i < v + k → has kept i ≡ true → SameAt i
  unfolding members_from kept_lines
  lines-from-same v zero e i low high there = absurd (omega arith)
  lines-from-same v (suc k) e i low high there =
      go (has kept v) refl e (λ p far. lines-from-same (suc v) k p i (omega arith) (omega arith) there)
    where
      rest : List ℕ
      rest = members_from (suc v) k kept

      go :
          (t : Bool) → has kept v ≡ t → eqb (first (kept_lines new l line (cond t (v ∷ rest) rest))).number 0 ≡ true
          → (eqb (first (kept_lines new l line rest)).number 0 ≡ true → (v ≡ i → ⊥) → SameAt i) → SameAt i
      go true h p ih =
          let (here, later) = head_passed (line_at v) (kept_lines new l line rest) p in
          either v i
          (λ u. ap (λ (n : ℕ). same_step new (get_or l n blank)) (sym u) ∙ same_row new (line + v) (get_or l v blank) here)
          (ih later)
      go false h p ih = either v i (λ u. let z : true ≡ false = sym there ∙ ap (has kept) (sym u) ∙ h in cc) (ih p)

  -- all of the kept, and the first of which it doesn't hold
  pub lines-pass : ((i : ℕ) → has kept i ≡ true → SameAt i) → first (kept_lines new l line (members 64 kept)) ≡ pass
  unfolding members
  lines-pass = lines-from-pass 0 64

  pub lines_at :
      (i : ℕ) → i < 64 → has kept i ≡ true → ((j : ℕ) → j < i → has kept j ≡ true → SameAt j)
      → eqb (line_at i).number 0 ≡ false → first (kept_lines new l line (members 64 kept)) ≡ line_at i
  unfolding members
  lines_at i h = lines-from-at 0 64 i (omega arith) (omega arith)

  pub lines_same :
      eqb (first (kept_lines new l line (members 64 kept))).number 0 ≡ true → (i : ℕ) → i < 64 → has kept i ≡ true
      → SameAt i
  unfolding members
  lines_same e i h = lines-from-same 0 64 e i (omega arith) (omega arith)

-- ---- all three rows

or_else : (x y : Bool) → (x || y) ≡ true → x ≡ false → y ≡ true
or_else true y e f = cc
or_else false y e f = e

module _ (line from : ℕ) (new l : List Step) where
  abbrev kept : ℕ
  kept = kept_of new l

  module _ (passes : (kept_rows line from new l).number ≡ 0) where
    rows :
        (runs_straight from new l || leb (count 64 kept) 16 ≡ true)
        × (eqb (first (kept_lines new l (line + 1) (members 64 kept))).number 0 ≡ true)
    unfolding kept_rows
    rows = row-passed _ 10 line _ refl (eq-eqb (kept_rows line from new l).number 0 passes)

    pub limit-holds : runs_straight from new l ≡ false → count 64 kept ≤ 16
    limit-holds e = leb-true (count 64 kept) 16 (or_else (runs_straight from new l) _ rows.0 e)

    pub kept_same : (i : ℕ) → i < 64 → has kept i ≡ true → same_step new (get_or l i blank) ≡ true
    kept_same = lines_same new l (line + 1) kept rows.1

    -- the same by their place among the kept
    pub members-same :
        (k : ℕ) → k < length (members 64 kept) → same_step new (get_or l (get_or (members 64 kept) k 0) blank) ≡ true
    members-same k h = let (there, low) = member-at 64 kept k h in kept_same _ low there

  pub rows_pass :
      (runs_straight from new l ≡ false → count 64 kept ≤ 16)
      → ((i : ℕ) → has kept i ≡ true → same_step new (get_or l i blank) ≡ true)
      → kept_rows line from new l ≡ pass
  unfolding kept_rows
  rows_pass limit same =
      row-passes _ 10 line _ (or-then (runs_straight from new l) _ (λ e. le-leb (count 64 kept) 16 (limit e)))
      ∙ lines-pass new l (line + 1) kept same
