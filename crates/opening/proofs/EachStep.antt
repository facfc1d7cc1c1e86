-- A row at each step: in a loop over the steps in turn, i have come and `left` are left, and the rows of these answer
-- for all.
use mathlib.Core.Path.{◌≡◌, ap₂}
use mathlib.Core.Bool.{Bool, true, false}
use mathlib.Core.List.{List, [], ◌∷◌}
use Prim.Native.Nat.{ℕ, ◌+◌}
use native.Mathlib.Omega.{arith}
use lib.Dec.{eqb}
use Rattle.refusal.specs.Rows.{pass, refuse, first, each_line}
use Rattle.refusal.specs.declared.Outcome.{Outcome}
use Rattle.refusal.proofs.EachLine.{Rest, each-end, each-refused, each-passed}
use Rattle.route.specs.declared.Step.{Step}
use Rattle.flat.proofs.InTurn.{Turns, turns-init, turn-on}

module _ (test : Step → Bool) (n line : ℕ) (l : List Step) where
  abbrev whole : Outcome
  whole = first (each_line test n line l)

  pub record StepsLeft (i : ℕ) (left : List Step) : Type 0 where
    pub turns : Turns l i left
    pub rest : Rest test n (line + i) left whole

  pub left-init : {i : ℕ} {left : List Step} → i ≡ 0 → left ≡ l → StepsLeft i left
  left-init z e = record {
    turns = turns-init z e;
    rest = ap₂ (λ (k : ℕ) (x : List Step). first (each_line test n k x)) (omega (arith, z)) e;
  }

  module _ {i : ℕ} {left : List Step} (at : StepsLeft i left) where
    pub left-end : left ≡ [] → pass ≡ whole
    left-end = each-end test n line i at.rest

    module _ {s : Step} {after : List Step} (next : left ≡ s ∷ after) {f : Bool} (is : f ≡ test s) where
      pub left-refused : eqb n 0 ≡ false → f ≡ false → refuse n (line + i) ≡ whole
      left-refused = each-refused test n line i at.rest next is

      pub left-on : {j : ℕ} → j ≡ i + 1 → f ≡ true → StepsLeft j after
      left-on {j} e passes = record {
        turns = turn-on at.turns next e;
        rest = rw e (each-passed test n line i at.rest next is passes);
      }
