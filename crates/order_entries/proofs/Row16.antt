-- Row 16, entry by entry: what a loop over the order meets. An entry that is kept and new leaves the row of those after
-- it.
use mathlib.Core.Path.{◌≡◌, refl, sym, ap, ap₂, ◌∙◌}
use mathlib.Core.Bool.{Bool, true, false, not, cond, ◌&&◌, and-false}
use mathlib.Core.List.{List, ◌∷◌}
use mathlib.Core.Logic.{◌⊎◌, inl, inr}
use Prim.Native.Nat.{ℕ, suc, ◌+◌, ◌-◌, ◌^◌, ◌≤◌, ◌<◌}
use native.Mathlib.Omega.{arith}
use native.Mathlib.Numerals.{add-one}
use lib.Dec.{eqb, leb}
use lib.Bits.{bit_or}
use lib.ListN.{length, drop, get_or, drop_of_length-le}
use lib.Seq.{drop-cons}
use borrow.Author.Tests.{eq-eqb, ne_eqb, leb-true, le-leb, lt-leb, not-true, not-false}
use Rattle.mask.specs.Mask.{has, bit, without}
use Rattle.mask.proofs.Laws.{has-without}
use Rattle.mask.proofs.Cut.{has-high}
use Rattle.mask.proofs.Truth.{both}
use Rattle.refusal.specs.Rows.{pass, refuse}
use Rattle.refusal.specs.declared.Outcome.{Outcome}
use Rattle.order_entries.specs.Entries.{is_kept, list_row}

-- ---- one entry

-- the test of an entry
abbrev pub is_fresh : ℕ → ℕ → ℕ → Bool
is_fresh kept seen b = is_kept kept b && not (has seen (b - 1))

module _ (kept seen b : ℕ) (x : Bool) where
  -- 0 and numbers over 64 are never kept
  pub fresh-out : kept < 2 ^ 64 → (b < 1) ⊎ (64 < b) → x ≡ false → x ≡ is_fresh kept seen b
  unfolding is_kept
  fresh-out h (inl low) e = rw (lt-leb 1 b low) e
  fresh-out h (inr high) e = rw (has-high 64 kept (b - 1) h (omega arith), and-false (leb 1 b)) e

  pub fresh-in : 1 ≤ b → (m : ℕ) → m ≡ without kept seen → x ≡ has m (b - 1) → x ≡ is_fresh kept seen b
  unfolding is_kept
  fresh-in low m m-is e = rw (le-leb 1 b low) (e ∙ ap (λ (n : ℕ). has n (b - 1)) m-is ∙ has-without kept seen (b - 1))

-- where a kept entry lies
pub kept-range : (kept b : ℕ) → kept < 2 ^ 64 → is_kept kept b ≡ true → (1 ≤ b) × (b - 1 < 64)
unfolding is_kept
kept-range kept b h e =
    let (low, there) = both (leb 1 b) (has kept (b - 1)) e in
    let high : 64 ≤ b - 1 → ⊥ = λ k. let z : ◌≡◌ {A = ℕ} 0 1 =
    cc (there, has-high 64 kept (b - 1) h k) in omega arith in
    (leb-true 1 b low, omega arith)

-- an entry that is kept and new
module _ (kept seen b : ℕ) (x : Bool) (narrow : kept < 2 ^ 64) (e : x ≡ (is_kept kept b && not (has seen (b - 1))))
    (f : not x ≡ false) where
  fresh-range : (1 ≤ b) × (b - 1 < 64)
  fresh-range = kept-range kept b narrow (both (is_kept kept b) (not (has seen (b - 1))) (sym e ∙ not-false x f)).0

  pub fresh-first : 1 ≤ b
  fresh-first = fresh-range.0

  pub fresh-below : b - 1 < 64
  fresh-below = fresh-range.1

-- ---- a row that passes

-- what row 16 says of an entry where it passes
pub record Passed (kept seen at b : ℕ) (o : List ℕ) : Type 0 where
  pub entry : is_kept kept b ≡ true
  pub new : has seen (b - 1) ≡ false
  pub rest : (list_row kept (bit_or seen (bit (b - 1))) (at + 1) o).number ≡ 0

pub passed_entry : (kept seen at b : ℕ) (o : List ℕ) → (list_row kept seen at (b ∷ o)).number ≡ 0
    → Passed kept seen at b o
unfolding list_row
passed_entry kept seen at b o e = go (is_fresh kept seen b) refl e
  where
    go : (t : Bool) → is_fresh kept seen b ≡ t → (cond t (list_row kept (bit_or seen (bit (b - 1))) (at + 1) o)
        (refuse 16 at)).number ≡ 0 → Passed kept seen at b o
    go true h p = let (k, n) = both (is_kept kept b) (not (has seen (b - 1))) h in record
        { entry = k; new = not-true (has seen (b - 1)) n; rest = p }
    go false h p = absurd (omega arith)

pub passed-at : (kept seen i : ℕ) (o : List ℕ) → i < length o → (list_row kept seen (i + 1) (drop i o)).number ≡ 0
    → Passed kept seen (i + 1) (get_or o i 0) (drop (i + 1) o)
passed-at kept seen i o h e =
    passed_entry kept seen (i + 1) (get_or o i 0) (drop (i + 1) o)
    (ap (λ (n : ℕ). (list_row kept seen (i + 1) (get_or o i 0 ∷ drop n o)).number) (add-one i)
    ∙ ap (λ (x : List ℕ). (list_row kept seen (i + 1) x).number) (sym (drop-cons o i 0 h)) ∙ e)

-- ---- the loop

module _ (kept seen i : ℕ) (o : List ℕ) (whole : Outcome) (inv : list_row kept seen (i + 1) (drop i o) ≡ whole) where
  ends : length o ≤ i → (t : Bool) → eqb seen kept ≡ t → cond t pass (refuse 16 (i + 1)) ≡ whole
  unfolding list_row
  ends h t e = ap (λ (b : Bool). cond b pass (refuse 16 (i + 1))) (sym e)
      ∙ ap (list_row kept seen (i + 1)) (sym (drop_of_length-le o {i = i} h)) ∙ inv

  module _ (r : Outcome) (h : length o ≤ i) where
    pub list-missing : i ≤ length o → (seen ≡ kept → ⊥) → r ≡ refuse 16 (length o + 1) → r ≡ whole
    list-missing k e is =
        let all : length o ≡ i = omega arith in
        is ∙ ap (λ (n : ℕ). refuse 16 (n + 1)) all ∙ ends h false (ne_eqb seen kept e)

    pub list-whole : seen ≡ kept → r ≡ pass → r ≡ whole
    list-whole e is = is ∙ ends h true (eq-eqb seen kept e)

  module _ (h : i < length o) (t : Bool) (is : t ≡ is_fresh kept seen (get_or o i 0)) where
    on : cond t (list_row kept (bit_or seen (bit (get_or o i 0 - 1))) (i + 1 + 1) (drop (suc i) o)) (refuse 16 (i + 1))
        ≡ whole
    unfolding list_row
    on = ap (λ (b : Bool). cond b (list_row kept (bit_or seen (bit (get_or o i 0 - 1))) (i + 1 + 1) (drop (suc i) o))
        (refuse 16 (i + 1))) is ∙ ap (list_row kept seen (i + 1)) (sym (drop-cons o i 0 h)) ∙ inv

    pub list-refused : t ≡ false → (r : Outcome) → r ≡ refuse 16 (i + 1) → r ≡ whole
    list-refused e r r-is = r-is
        ∙ ap (λ (b : Bool). cond b (list_row kept (bit_or seen (bit (get_or o i 0 - 1))) (i + 1 + 1)
        (drop (suc i) o)) (refuse 16 (i + 1))) (sym e) ∙ on

    pub list_on : t ≡ true → (own : ℕ) → own ≡ bit (get_or o i 0 - 1)
        → list_row kept (bit_or seen own) (i + 1 + 1) (drop (i + 1) o) ≡ whole
    list_on e own own_is =
        ap₂ (λ (x n : ℕ). list_row kept (bit_or seen x) (i + 1 + 1) (drop n o)) own_is (add-one i)
        ∙ ap (λ (b : Bool). cond b (list_row kept (bit_or seen (bit (get_or o i 0 - 1))) (i + 1 + 1) (drop (suc i) o))
        (refuse 16 (i + 1))) (sym e)
        ∙ on
