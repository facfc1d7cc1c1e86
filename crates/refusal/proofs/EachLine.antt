-- A row at each line in turn: what a loop over the lines meets. An entry that passes leaves the rows of those below it,
-- and the first other one is the answer. Assumes nothing.
use mathlib.Core.Path.{◌≡◌, sym, ap, ◌∙◌}
use mathlib.Core.Bool.{Bool, true, false}
use mathlib.Core.List.{List, [], ◌∷◌}
use Prim.Native.Nat.{ℕ, ◌+◌, ◌≤◌, ◌<◌}
use native.Mathlib.Omega.{arith}
use native.Mathlib.Numerals.{add-one}
use lib.Dec.{eqb}
use lib.ListN.{length, get_or, drop, drop_of_length-le}
use lib.Seq.{drop-cons}
use Rattle.refusal.specs.Rows.{pass, refuse, unless, first, each_line}
use Rattle.refusal.specs.declared.Outcome.{Outcome}
use Rattle.refusal.proofs.Rows.{row-passes, row-refuses, rows_end}

-- the rows of what is left of the list answer for all
abbrev pub Rest : {A : Type 0} → (A → Bool) → ℕ → ℕ → List A → Outcome → Type 0
Rest test n line left whole = first (each_line test n line left) ≡ whole

module _ {A : Type 0} (test : A → Bool) (n line i : ℕ) {left : List A} {whole : Outcome}
    (rest : Rest test n (line + i) left whole) where
  pub each-end : left ≡ [] → pass ≡ whole
  unfolding each_line
  each-end none = sym rows_end ∙ ap (λ (l : List A). first (each_line test n (line + i) l)) (sym none) ∙ rest

  module _ {x : A} {after : List A} (next : left ≡ x ∷ after) {f : Bool} (is : f ≡ test x) where
    here : first (unless (test x) n (line + i) ∷ each_line test n (line + i + 1) after) ≡ whole
    unfolding each_line
    here = ap (λ (l : List A). first (each_line test n (line + i) l)) (sym next) ∙ rest

    pub each-refused : eqb n 0 ≡ false → f ≡ false → refuse n (line + i) ≡ whole
    each-refused some fails = sym (row-refuses (test x) n (line + i) _ (sym is ∙ fails) some) ∙ here

    pub each-passed : f ≡ true → Rest test n (line + (i + 1)) after whole
    each-passed passes =
        let on : line + (i + 1) ≡ line + i + 1 = omega arith in
        ap (λ (k : ℕ). first (each_line test n k after)) on
        ∙ sym (row-passes (test x) n (line + i) _ (sym is ∙ passes)) ∙ here

-- the same over the entries of a list from the i-th on
module _ (test : ℕ → Bool) (n line i : ℕ) (l : List ℕ) (whole : Outcome) where
  pub list-end : length l ≤ i → Rest test n (line + i) (drop i l) whole → pass ≡ whole
  list-end h rest = each-end test n line i rest (drop_of_length-le l {i = i} h)

  module _ (more : i < length l) (rest : Rest test n (line + i) (drop i l) whole) (f : Bool)
      (is : f ≡ test (get_or l i 0)) where
    pub list-refused : eqb n 0 ≡ false → f ≡ false → refuse n (line + i) ≡ whole
    list-refused some fails = each-refused test n line i rest (drop-cons l i 0 more) is some fails

    pub list-passed : f ≡ true → Rest test n (line + (i + 1)) (drop (i + 1) l) whole
    list-passed passes =
        ap (λ (k : ℕ). first (each_line test n (line + (i + 1)) (drop k l))) (add-one i)
        ∙ each-passed test n line i rest (drop-cons l i 0 more) is passes
