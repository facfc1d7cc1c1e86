-- Row 17 by the table. Where row 16 passes, the entries still to come are the kept ones that are not placed, so that
-- none of them is one that the entry comes after exactly when all kept ones in its row are placed.
use mathlib.Core.Path.{◌≡◌, refl, sym, ap, ap₂, ◌∙◌}
use mathlib.Core.Bool.{Bool, true, false, not, cond, ◌&&◌, ◌||◌}
use mathlib.Core.List.{List, [], ◌∷◌, map}
use Prim.Native.Nat.{ℕ, ◌+◌, ◌-◌}
use native.Mathlib.Omega.{arith}
use lib.Dec.{eqb, leb}
use lib.Bits.{bit_and, bit_or}
use borrow.Author.Tests.{eqb-true, ne_eqb, not-true}
use Rattle.mask.specs.Mask.{has, bit, within}
use Rattle.mask.proofs.Laws.{has-and, has-or, has-bit, within_all, all-within}
use Rattle.mask.proofs.Truth.{split, both, either, bool-ext, or-fails}
use Rattle.refusal.specs.Rows.{pass, refuse}
use Rattle.route.specs.declared.Step.{Step}
use Rattle.precedence.specs.Precedence.{comes_after, row}
use Rattle.precedence.specs.Order.{none_of}
use Rattle.precedence.proofs.Rows.{row-exact, not_after}
use Rattle.order_entries.specs.Entries.{is_kept, list_row}
use Rattle.order_entries.proofs.Row16.{passed_entry}

-- the positions of occurrence numbers
abbrev pub positions : List ℕ → List ℕ
positions o = map (λ (b : ℕ). b - 1) o

-- ---- the entries still to come

module _ (kept : ℕ) (t : ℕ → Bool) where
  -- the entries of a list that row 16 passes are the kept that are not seen
  to-come : (seen at : ℕ) (o : List ℕ) → (list_row kept seen at o).number ≡ 0 → none_of t (positions o) ≡ true → (j : ℕ)
      → has kept j ≡ true → has seen j ≡ false → t j ≡ false
  unfolding list_row none_of
  to-come seen at [] e n j k s = go (eqb seen kept) refl e
    where
      go : (x : Bool) → eqb seen kept ≡ x → (cond x pass (refuse 16 at)).number ≡ 0 → t j ≡ false
      go true u p = let z : true ≡ false = sym k ∙ ap (λ (m : ℕ). has m j) (sym (eqb-true seen kept u)) ∙ s in cc
      go false u p = absurd (omega arith)
  to-come seen at (b ∷ o) e n j k s =
      let p = passed_entry kept seen at b o e in
      let (here, later) = both (not (t (b - 1))) (none_of t (positions o)) n in
      either j (b - 1)
      (λ u. ap t u ∙ not-true (t (b - 1)) here)
      (λ u. to-come (bit_or seen (bit (b - 1))) (at + 1) o p.rest later j k
      (has-or seen (bit (b - 1)) j ∙ ap₂ (λ (x y : Bool). x || y) s (has-bit (b - 1) j ∙ ne_eqb j (b - 1) u)))

  come-from : (seen at : ℕ) (o : List ℕ) → (list_row kept seen at o).number ≡ 0
      → ((j : ℕ) → has kept j ≡ true → has seen j ≡ false → t j ≡ false) → none_of t (positions o) ≡ true
  unfolding none_of is_kept
  come-from seen at [] e h = refl
  come-from seen at (b ∷ o) e h =
      let p = passed_entry kept seen at b o e in
      ap₂ (λ (x y : Bool). not x && y)
      (h (b - 1) (both (leb 1 b) (has kept (b - 1)) p.entry).1 p.new)
      (come-from (bit_or seen (bit (b - 1))) (at + 1) o p.rest
      (λ j k s. h j k (or-fails (has seen j) (has (bit (b - 1)) j) (sym (has-or seen (bit (b - 1)) j) ∙ s))))

  -- a test of those to come, as one on masks: r is the set of those that pass it
  left-test : (r seen at : ℕ) (o : List ℕ) → ((j : ℕ) → has r j ≡ t j) → (list_row kept seen at o).number ≡ 0
      → none_of t (positions o) ≡ within (bit_and r kept) seen
  left-test r seen at o is e = bool-ext (none_of t (positions o)) (within (bit_and r kept) seen) down up
    where
      down : none_of t (positions o) ≡ true → within (bit_and r kept) seen ≡ true
      down n = all-within (bit_and r kept) seen (λ v h.
          let (a, b) = both (has r v) (has kept v) (sym (has-and r kept v) ∙ h) in split
          (λ (x : Bool). has seen v ≡ x → x ≡ true) (has seen v) (λ u w. refl)
          (λ u w. sym (to-come seen at o e n v b u) ∙ sym (is v) ∙ a) refl)

      up : within (bit_and r kept) seen ≡ true → none_of t (positions o) ≡ true
      up w = come-from seen at o e (λ j k s. split (λ (x : Bool). t j ≡ x → x ≡ false) (t j)
          (λ u v. sym (within_all (bit_and r kept) seen w j
          (has-and r kept j ∙ ap₂ (λ (x y : Bool). x && y) (is j ∙ u) k)) ∙ s) (λ u v. refl) refl)

-- row 17 at an entry, by the table
pub order-test : (l : List Step) (kept seen at b : ℕ) (o : List ℕ) → (list_row kept seen at (b ∷ o)).number ≡ 0
    → none_of (comes_after l (b - 1)) (positions o) ≡ within (bit_and (row l (b - 1)) kept) seen
unfolding none_of
order-test l kept seen at b o e =
    ap (λ (x : Bool). not x && none_of (comes_after l (b - 1)) (positions o))
    (sym (not_after l (b - 1) (b - 1) (omega arith)))
    ∙ left-test kept (comes_after l (b - 1)) (row l (b - 1)) seen at (b ∷ o) (row-exact l (b - 1)) e
