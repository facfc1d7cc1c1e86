-- `slice::variables::variables_of`: what the fold gathers is the union.
use mathlib.Core.Path.{◌∙◌}
use Prim.Native.Nat.{ℕ}
use borrow.Author.Rules.{rules}
use lib.Bits.{bit_or}
use Rattle.std.proofs.lemmas.Iterator.Consumers.{fold_from_yields_List}
use Rattle.route.specs.declared.Step.{Step}
use Rattle.route.proofs.StepList.{fold-union}
use Rattle.flat.proofs.InTurn.{steps-yield}
use Rattle.slice.specs.Slice.{variables}
use Rattle.slice.proofs.variables.variables_of.Goals as goal

touches : Step → ℕ
touches s = bit_or s.reads s.writes

pub returns : goal.returns
unfolding variables touches
returns c =
    fold_from_yields_List _ (λ (n : ℕ) (s : Step). bit_or n (touches s)) 0 _ c.fold.ensures.ran
    (steps-yield _ _ c.steps.ensures) (λ a x b q k. search rules)
    ∙ fold-union touches _
