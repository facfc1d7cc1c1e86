-- A loop that writes a line for each entry of a list: the steps of a route, the names of the done list.
-- Assumes nothing.
use mathlib.Core.Path.{◌≡◌, refl, sym, ap, ◌∙◌}
use mathlib.Core.List.{List, [], ◌∷◌, ◌++◌, map}
use Prim.Native.Nat.{ℕ, suc, ◌+◌, ◌≤◌, ◌<◌}
use native.Mathlib.Omega.{arith}
use native.Mathlib.Numerals.{add-one}
use lib.ListN.{length, get_or, drop, drop_of_length-le}
use lib.Seq.{drop-cons}
use Rattle.emit.specs.Emit.{Room, Emits}
use Rattle.emit.proofs.Loops.{Left, left_as, left-room, left-turn, left_end}
use Rattle.route.specs.declared.Step.{Step}
use Rattle.layout.specs.Text.{step_line, step_lines, word_line, done_lines}
use Rattle.layout.specs.declared.Word.TheVariants.{Done}
use Rattle.facts.specs.LinesOf.{form_of}
use Rattle.sheet_lines.proofs.TextsInFront.{step-front, word-front}

-- the lines of a list are those of its entries in turn
pub record Lined {A : Type 0} (lines : List A → List ℕ) (line : A → List ℕ) : Type 0 where
  pub on : (x : A) (l : List A) → lines (x ∷ l) ≡ line x ++ lines l
  pub over : lines [] ≡ []

module _ {A : Type 0} {lines : List A → List ℕ} {line : A → List ℕ} (lined : Lined lines line) (l : List A)
    {o u o₀ : List ℕ} {n n₀ : ℕ} (left : Left (lines l) o n u o₀ n₀) where
  pub none-left : l ≡ [] → Emits u o₀ n₀ o n
  none-left e = left_end (left_as (ap lines e ∙ lined.over) left)

  module _ (x : A) (k : List A) (is : l ≡ x ∷ k) where
    first : Left (line x ++ lines k) o n u o₀ n₀
    first = left_as (ap lines is ∙ lined.on x k) left

    pub first-room : Room (line x) o n
    first-room = left-room _ _ first

    pub first_turn : {p : List ℕ} {m : ℕ} → Emits (line x) o n p m → Left (lines k) p m u o₀ n₀
    first_turn w = left-turn first w

-- the same, where l is a list's entries from the i-th on
module _ {A : Type 0} {lines : List A → List ℕ} {line : A → List ℕ} (lined : Lined lines line) (d : A) (l : List A)
    (i count : ℕ) (counted : count ≡ length l) {o u o₀ : List ℕ} {n n₀ : ℕ}
    (left : Left (lines (drop i l)) o n u o₀ n₀) where
  pub each-end : count ≤ i → Emits u o₀ n₀ o n
  each-end h = none-left lined (drop i l) left (drop_of_length-le l {i = i} (omega arith))

  -- x is the entry at i
  module _ (more : i < count) (x : A) (is : x ≡ get_or l i d) where
    here : drop i l ≡ x ∷ drop (i + 1) l
    here = drop-cons l i d (omega arith) ∙ ap (λ (y : A). y ∷ drop (suc i) l) (sym is)
        ∙ ap (λ (k : ℕ). x ∷ drop k l) (sym (add-one i))

    pub each-room : Room (line x) o n
    each-room = first-room lined (drop i l) left x (drop (i + 1) l) here

    pub each_turn : {p : List ℕ} {m : ℕ} → Emits (line x) o n p m → Left (lines (drop (i + 1) l)) p m u o₀ n₀
    each_turn w = first_turn lined (drop i l) left x (drop (i + 1) l) here w

abbrev pub form_lines : List Step → List ℕ
form_lines l = step_lines (map form_of l) []

pub steps-lined : Lined form_lines (λ s. step_line (form_of s) [])
unfolding step_lines
steps-lined = record { on = λ s l. step-front (form_of s) (form_lines l); over = refl }

abbrev pub name_lines : List ℕ → List ℕ
name_lines l = done_lines l []

pub names-lined : Lined name_lines (λ n. word_line Done n [])
unfolding done_lines
names-lined = record { on = λ n l. word-front Done n (name_lines l); over = refl }
