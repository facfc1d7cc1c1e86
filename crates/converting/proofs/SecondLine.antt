-- The second line of a sheet tells its version: by the present layout it is `(start ..)`, by 01's a step or the next
-- head. Assumes nothing.
use mathlib.Core.Path.{◌≡◌, refl, ap, ◌∙◌}
use mathlib.Core.Bool.{Bool, true, false, cond}
use mathlib.Core.List.{List, [], ◌∷◌}
use Prim.Native.Nat.{ℕ, zero, suc, ◌+◌, ◌/◌, ◌%◌}
use native.Mathlib.Omega.{arith}
use lib.Dec.{eqb, ltb}
use borrow.Author.Tests.{ne_eqb}
use Rattle.std.specs.List.{starts_with}
use Rattle.version.specs.Limits.{scope, present}
use Rattle.version.specs.declared.Version.{Version}
use Rattle.layout.specs.Words.{spelling}
use Rattle.layout.specs.Text.{Form, Lines, digits, number, step_line, word_line, start_line, step_lines, job_text, text}
use Rattle.layout.specs.declared.Word.TheVariants.{Old, New, Start}
use Rattle.facts.specs.JobPart.{after_lines}
use Rattle.converting.specs.Either.{has_start_line}

past-digits : (k n : ℕ) (s : List ℕ) → after_lines 1 (digits k n s) ≡ after_lines 1 s
unfolding digits after_lines
past-digits zero n s = refl
past-digits (suc k) n s = go (ltb n 10) (past-digits k (n / 10) ((48 + n % 10) ∷ s))
  where
    past : (d : ℕ) (t : List ℕ) → cond (eqb (48 + d) 10) (after_lines 0 t) (after_lines 1 t) ≡ after_lines 1 t
    past d t = ap (λ (x : Bool). cond x (after_lines 0 t) (after_lines 1 t)) (ne_eqb (48 + d) 10 (omega arith))

    go : (x : Bool) → after_lines 1 (digits k (n / 10) ((48 + n % 10) ∷ s)) ≡ after_lines 1 ((48 + n % 10) ∷ s)
        → after_lines 1 (cond x ((48 + n) ∷ s) (digits k (n / 10) ((48 + n % 10) ∷ s))) ≡ after_lines 1 s
    go true ih = past n s
    go false ih = ih ∙ past (n % 10) s

past-head : (n : ℕ) (s : List ℕ) → after_lines 1 (word_line Old n s) ≡ s
unfolding word_line spelling number after_lines
past-head n s = past-digits 20 n (41 ∷ 10 ∷ s)

unfoldable begins : List ℕ → Bool
begins s = starts_with eqb s (40 ∷ spelling Start)

-- from the second line on
abbrev below : Version → Lines → List ℕ
below v x = step_lines x.old (word_line New x.new_places
    (start_line v x.new_start (step_lines x.new (job_text x.done))))

pub present-has : (x : Lines) → has_start_line (text present x) ≡ true
unfolding has_start_line text start_line spelling begins
present-has x = ap begins (past-head x.old_places (start_line present x.old_start (below present x)))

scope-begins : (l : List Form) (n : ℕ) (s : List ℕ) → begins (step_lines l (word_line New n s)) ≡ false
unfolding step_lines step_line word_line spelling begins
scope-begins [] n s = refl
scope-begins (f ∷ l) n s = refl

pub scope-lacks : (x : Lines) → has_start_line (text scope x) ≡ false
unfolding has_start_line text start_line begins
scope-lacks x = ap begins (past-head x.old_places (below scope x)) ∙ scope-begins x.old x.new_places _
