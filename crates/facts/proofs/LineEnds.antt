-- Passing over lines, byte by byte: what a loop over the slice meets.
-- Assumes nothing.
use mathlib.Core.Path.{◌≡◌, refl, sym, ap, ◌∙◌}
use mathlib.Core.Bool.{Bool, cond}
use mathlib.Core.List.{List}
use Prim.Native.Nat.{ℕ, zero, suc, ◌+◌, ◌-◌, ◌≤◌, ◌<◌}
use native.Mathlib.Numerals.{add-one}
use native.Mathlib.Omega.{arith}
use lib.Dec.{eqb}
use lib.ListN.{length, drop, get_or, drop_of_length-le}
use lib.Seq.{drop-cons}
use borrow.Author.Tests.{eq-eqb, ne_eqb}
use Rattle.facts.specs.JobPart.{after_lines}

module _ (s whole : List ℕ) (i : ℕ) where
  pub lines_none : (n : ℕ) → after_lines n (drop i s) ≡ whole → n ≡ 0 → drop i s ≡ whole
  unfolding after_lines
  lines_none n inv z = ap (λ (m : ℕ). after_lines m (drop i s)) (sym z) ∙ inv

  pub lines_end : (n : ℕ) → after_lines n (drop i s) ≡ whole → length s ≤ i → drop i s ≡ whole
  unfolding after_lines
  lines_end zero inv h = inv
  lines_end (suc n) inv h = drop_of_length-le s {i = i} h
      ∙ ap (λ (l : List ℕ). after_lines (suc n) l) (sym (drop_of_length-le s {i = i} h)) ∙ inv

  module _ (room : i < length s) where
    step : (n : ℕ) → after_lines (suc n) (drop i s) ≡ whole
        → cond (eqb (get_or s i 0) 10) (after_lines n (drop (i + 1) s)) (after_lines (suc n) (drop (i + 1) s)) ≡ whole
    unfolding after_lines
    step n inv =
        ap (λ (m : ℕ). cond (eqb (get_or s i 0) 10) (after_lines n (drop m s)) (after_lines (suc n) (drop m s))) (add-one i)
        ∙ ap (λ (l : List ℕ). after_lines (suc n) l) (sym (drop-cons s i 0 room))
        ∙ inv

    pub lines-lf : (n : ℕ) → after_lines n (drop i s) ≡ whole → (n ≡ 0 → ⊥) → get_or s i 0 ≡ 10
        → after_lines (n - 1) (drop (i + 1) s) ≡ whole
    lines-lf zero inv z e = absurd (z refl)
    lines-lf (suc n) inv z e =
        ap (λ (m : ℕ). after_lines m (drop (i + 1) s)) (omega arith)
        ∙ sym (ap (λ (t : Bool). cond t (after_lines n (drop (i + 1) s)) (after_lines (suc n) (drop (i + 1) s)))
        (eq-eqb (get_or s i 0) 10 e))
        ∙ step n inv

    pub lines-on : (n : ℕ) → after_lines n (drop i s) ≡ whole → (n ≡ 0 → ⊥) → (get_or s i 0 ≡ 10 → ⊥)
        → after_lines n (drop (i + 1) s) ≡ whole
    lines-on zero inv z e = absurd (z refl)
    lines-on (suc n) inv z e =
        sym (ap (λ (t : Bool). cond t (after_lines n (drop (i + 1) s)) (after_lines (suc n) (drop (i + 1) s)))
        (ne_eqb (get_or s i 0) 10 e))
        ∙ step n inv
