-- A chain over the steps in turn gives the steps of the list. In a loop over them, i have come and `left` are left.
use mathlib.Core.Path.{◌≡◌, sym, ap, ◌∙◌}
use mathlib.Core.List.{List, [], ◌∷◌}
use Prim.Native.Nat.{ℕ, suc, ◌+◌, ◌≤◌, ◌<◌}
use native.Mathlib.Omega.{arith}
use native.Mathlib.Numerals.{add-one}
use lib.ListN.{length, get_or, drop, length-drop}
use lib.Seq.{drop-cons}
use Rattle.std.specs.Iterator.{YieldsFirst}
use Rattle.std.proofs.lemmas.Iterator.{YieldsList}
use Rattle.std.proofs.lemmas.Iterator.Consumers.{YieldsList-from_first}
use Rattle.route.specs.Steps.{blank}
use Rattle.flat.specs.Flat.{steps_left}
use Rattle.flat.specs.declared.Iter.{Iter}
use Rattle.route.specs.declared.Step.{Step}

pub steps-yield : (i : Iter) (l : List Step) → steps_left i ≡ l → YieldsList (YieldsFirst steps_left) (λ s. s) i l
steps-yield i l e = YieldsList-from_first (λ (s : Step). s) steps_left l e

pub record Turns (l : List Step) (i : ℕ) (left : List Step) : Type 0 where
  pub within : i ≤ length l
  pub is : drop i l ≡ left

pub turns-init : {l left : List Step} {i : ℕ} → i ≡ 0 → left ≡ l → Turns l i left
turns-init {l} z e = record { within = omega (arith, z); is = ap (λ (n : ℕ). drop n l) z ∙ sym e }

module _ {l left : List Step} {i : ℕ} (turns : Turns l i left) where
  pub turns-done : left ≡ [] → i ≡ length l
  turns-done none = omega (arith, turns.within, length-drop i l, ap length (turns.is ∙ none))

  module _ {s : Step} {after : List Step} (next : left ≡ s ∷ after) where
    pub turn-inside : i < length l
    turn-inside = omega (arith, length-drop i l, ap length (turns.is ∙ next))

    split : s ∷ after ≡ get_or l i blank ∷ drop (suc i) l
    split = sym (turns.is ∙ next) ∙ drop-cons l i blank turn-inside

    pub turn-at : s ≡ get_or l i blank
    turn-at = ap (λ (k : List Step). get_or k 0 blank) split

    pub turn-on : {j : ℕ} → j ≡ i + 1 → Turns l j after
    turn-on e =
        record {
          within = omega (arith, e, turn-inside);
          is = ap (λ (n : ℕ). drop n l) (e ∙ add-one i) ∙ sym (ap (λ (k : List Step). drop 1 k) split);
        }
