-- No bytes are a sheet both of a version with start lines and of one without: behind the first line's closing bracket
-- the fifth byte is the `a` of `(start`, the `e` of `(step`, or the `w` of `(new`.
-- Assumes nothing.
use mathlib.Core.Path.{◌≡◌, refl, sym, ap, ◌∙◌}
use mathlib.Core.Bool.{Bool, true, false, cond}
use mathlib.Core.List.{List, [], ◌∷◌, ◌++◌}
use Prim.Native.Nat.{ℕ, zero, suc, ◌+◌, ◌/◌, ◌%◌}
use native.Mathlib.Omega.{arith}
use lib.Dec.{eqb, ltb}
use lib.ListN.{get_or}
use borrow.Author.Tests.{ne_eqb}
use Rattle.version.specs.declared.Version.{Version}
use Rattle.layout.specs.Words.{spelling}
use Rattle.layout.specs.Text.{Form, Lines, digits, number, entries, step_line, word_line, start_line, step_lines}
use Rattle.layout.specs.Text.{job_text, text}
use Rattle.layout.specs.Begins.{IsSheet}
use Rattle.layout.specs.declared.Word.TheVariants.{New, Start}

-- what follows the first closing bracket
behind : List ℕ → List ℕ
behind [] = []
behind (b ∷ s) = cond (eqb b 41) s (behind s)

behind-digits : (k n : ℕ) (s : List ℕ) → behind (digits k n s) ≡ behind s
unfolding digits behind
behind-digits zero n s = refl
behind-digits (suc k) n s = go (ltb n 10) (behind-digits k (n / 10) ((48 + n % 10) ∷ s))
  where
    past : (d : ℕ) (t : List ℕ) → cond (eqb (48 + d) 41) t (behind t) ≡ behind t
    past d t = ap (λ (x : Bool). cond x t (behind t)) (ne_eqb (48 + d) 41 (omega arith))

    go : (x : Bool) → behind (digits k (n / 10) ((48 + n % 10) ∷ s)) ≡ behind ((48 + n % 10) ∷ s)
        → behind (cond x ((48 + n) ∷ s) (digits k (n / 10) ((48 + n % 10) ∷ s))) ≡ behind s
    go true ih = past n s
    go false ih = ih ∙ past (n % 10) s

fifth : List ℕ → ℕ
fifth s = get_or (behind s) 4 0

-- from the second line on: the start line, or what follows it
abbrev below : Version → Lines → List ℕ
below v x = step_lines x.old (word_line New x.new_places
    (start_line v x.new_start (step_lines x.new (job_text x.done))))

abbrev second : Version → Lines → Bool → List ℕ
second v x y = cond y (40 ∷ (spelling Start ++ entries x.old_start (41 ∷ 10 ∷ below v x))) (below v x)

fifth-text : (v : Version) (x : Lines) (y : Bool) → v.starts ≡ y → fifth (text v x) ≡ get_or (10 ∷ second v x y) 4 0
unfolding fifth text word_line start_line number spelling behind
fifth-text v x y is =
    ap (λ (l : List ℕ). get_or l 4 0) (behind-digits 20 x.old_places (41 ∷ 10 ∷ second v x v.starts))
    ∙ ap (λ (z : Bool). get_or (10 ∷ second v x z) 4 0) is

with-start : (v : Version) (x : Lines) → v.starts ≡ true → fifth (text v x) ≡ 97
unfolding spelling
with-start v x has = fifth-text v x true has

without : (v : Version) (x : Lines) → v.starts ≡ false → fifth (text v x) ≡ 97 → ⊥
unfolding spelling step_lines step_line word_line
without v x lacks h = go x.old (sym (fifth-text v x false lacks) ∙ h)
  where
    go : (l : List Form) → get_or (10 ∷ step_lines l (word_line New x.new_places
        (start_line v x.new_start (step_lines x.new (job_text x.done))))) 4 0 ≡ 97 → ⊥
    go [] e = omega (arith, e)
    go (f ∷ l) e = omega (arith, e)

pub apart : (v w : Version) → v.starts ≡ true → w.starts ≡ false → (s : List ℕ) → IsSheet v s → IsSheet w s → ⊥
apart v w has lacks s one other =
    without w other.lines lacks (ap fifth (sym other.same ∙ one.same) ∙ with-start v one.lines has)
