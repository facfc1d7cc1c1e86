-- Records laid as numbers one a turn: after i turns the first i steps of the numbers are the first i of those to lay.
use mathlib.Core.Path.{◌≡◌, sym, ap, ◌∙◌}
use mathlib.Core.List.{List}
use Prim.Native.Nat.{ℕ, ◌*◌, ◌≤◌, min}
use native.Mathlib.Omega.{arith}
use lib.ListN.{length, length-take, take}
use lib.Seq.{take_all}
use Rattle.std.proofs.lemmas.List.{take_min}
use Rattle.flat.specs.Flat.{steps_in, Laid}
use Rattle.route.specs.declared.Step.{Step}
use Rattle.flat.proofs.FlatSteps.{length-flat, flat-take}
use Rattle.flat.proofs.LaidSteps.{laid_more}

-- all are laid, or the first 65
pub laid_done : (l : List Step) (w : List ℕ) (n i : ℕ) → n ≡ min (length l) 65
    → take i (steps_in w) ≡ take i (take n l) → i ≤ length (take n l) → length (take n l) ≤ i
    → Laid l (4 * length (take n l)) w
laid_done l w n i least so_far start end =
    let all : i ≡ length (take n l) = omega arith in
    let same : n ≡ min 65 (length l) = omega arith in
    record {
      within = omega (arith, length-take n l);
      steps-are =
          flat-take w (length (take n l)) ∙ ap (λ (k : ℕ). take k (steps_in w)) (sym all) ∙ so_far
          ∙ take_all i (take n l) end
          ∙ ap (λ (k : ℕ). take k l) same ∙ take_min 65 l;
    }

-- what says that there is room, that a turn lays one step more, and that all are laid
pub ruleset laying = (length-flat, length-take, laid_more, laid_done)
