-- Row 16 passes exactly when the list holds occurrence numbers, and their positions go into the empty set one by one,
-- each new, until it is the set of the kept.
use mathlib.Core.Path.{◌≡◌, refl, ap₂}
use mathlib.Core.Bool.{Bool, true, false, not, cond, ◌&&◌}
use mathlib.Core.List.{List, [], ◌∷◌, map}
use Prim.Native.Nat.{ℕ, suc, ◌+◌, ◌-◌, ◌≤◌}
use native.Mathlib.Omega.{arith}
use lib.Dec.{eqb, leb}
use lib.Bits.{bit_or}
use borrow.Author.Tests.{eqb-true, eq-eqb, leb-true, le-leb}
use Rattle.mask.specs.Mask.{has, bit}
use Rattle.mask.proofs.Truth.{both}
use Rattle.refusal.specs.Rows.{pass, refuse}
use Rattle.precedence.specs.Order.{EachOnce}
use Rattle.order_entries.specs.Entries.{is_kept, list_row}
use Rattle.theorems.specs.Demand3.{positions}
use Rattle.precedence.proofs.EachOnce.{marks, fresh, marks-old, each_once-elim, each_once-intro}
use Rattle.mask.proofs.Count.{has_new}

-- a list of numbers from 1 on is that of its positions
abbrev pub Numbered : List ℕ → Type 0
Numbered o = o ≡ map suc (positions o)

module _ (kept : ℕ) where
  record Listed (seen : ℕ) (o : List ℕ) : Type 0 where
    numbered : Numbered o
    new : fresh seen (positions o) ≡ true
    all : marks seen (positions o) ≡ kept

  row-lists : (seen at : ℕ) (o : List ℕ) → (list_row kept seen at o).number ≡ 0 → Listed seen o
  unfolding list_row is_kept fresh marks
  row-lists seen at [] e = go (eqb seen kept) refl e
    where
      go : (t : Bool) → eqb seen kept ≡ t → (cond t pass (refuse 16 at)).number ≡ 0 → Listed seen []
      go true h e = record { numbered = refl; new = refl; all = eqb-true seen kept h }
      go false h e = absurd (omega arith)
  row-lists seen at (b ∷ o) e = go (is_kept kept b && not (has seen (b - 1))) refl e
      (row-lists (bit_or seen (bit (b - 1))) (at + 1) o)
    where
      go : (t : Bool) → (is_kept kept b && not (has seen (b - 1))) ≡ t
          → (cond t (list_row kept (bit_or seen (bit (b - 1))) (at + 1) o) (refuse 16 at)).number ≡ 0
          → ((list_row kept (bit_or seen (bit (b - 1))) (at + 1) o).number ≡ 0 → Listed (bit_or seen (bit (b - 1))) o)
          → Listed seen (b ∷ o)
      go true h e ih =
          let r = ih e in
          let (k, n) = both (is_kept kept b) (not (has seen (b - 1))) h in
          let low : 1 ≤ b = leb-true 1 b (both (leb 1 b) (has kept (b - 1)) k).0 in
          let own : b ≡ suc (b - 1) = omega arith in
          record {
            numbered = ap₂ (λ (x : ℕ) (l : List ℕ). x ∷ l) own r.numbered;
            new = ap₂ (λ (x y : Bool). x && y) n r.new;
            all = r.all;
          }
      go false h e ih = absurd (omega arith)

  lists-row : (seen at : ℕ) (o : List ℕ) → Listed seen o → (list_row kept seen at o).number ≡ 0
  unfolding list_row is_kept fresh marks
  lists-row seen at [] r = rw (eq-eqb seen kept r.all)
  lists-row seen at (b ∷ o) r =
      let own : b ≡ suc (b - 1) = cc r.numbered in
      let rest : Numbered o = cc r.numbered in
      let (n, f) = both (not (has seen (b - 1))) (fresh (bit_or seen (bit (b - 1))) (positions o)) r.new in
      let k : has kept (b - 1) ≡ true = rw (← r.all)
      (marks-old (positions o) (bit_or seen (bit (b - 1))) f (b - 1) (has_new seen (b - 1))) in
      rw (le-leb 1 b (omega arith), k, n) (lists-row (bit_or seen (bit (b - 1))) (at + 1) o
      (record { numbered = rest; new = f; all = r.all }))

  pub list_row-elim : (o : List ℕ) → (list_row kept 0 1 o).number ≡ 0 → Numbered o × EachOnce kept (positions o)
  list_row-elim o e = let r = row-lists 0 1 o e in (r.numbered, each_once-intro (positions o) kept r.new r.all)

  pub list_row-intro : (o : List ℕ) → Numbered o → EachOnce kept (positions o) → (list_row kept 0 1 o).number ≡ 0
  list_row-intro o n c =
      let (f, a) = each_once-elim (positions o) kept c in
      lists-row 0 1 o (record { numbered = n; new = f; all = a })
