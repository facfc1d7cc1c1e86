-- Steps laid as numbers one after another: the first i of the numbers' steps are the first i of the list's.
use mathlib.Core.Path.{◌≡◌, sym, ap, ap₂, ◌∙◌}
use mathlib.Core.List.{List, [], ◌∷◌, ◌++◌}
use Prim.Native.Nat.{ℕ, ◌+◌, ◌*◌, ◌≤◌, ◌<◌}
use native.Mathlib.Omega.{arith}
use native.Mathlib.Numerals.{add-one}
use lib.ListN.{length, take, get_or, set}
use lib.Seq.{take-suc, take_all, take-suc-set}
use Rattle.route.specs.Steps.{blank, steps_of}
use Rattle.flat.specs.Flat.{steps_in, Laid}
use Rattle.route.specs.declared.Step.{Step}
use Rattle.route.specs.declared.Route.{Route}
use Rattle.route.proofs.StepList.{length-steps, steps-at, steps-past}
use Rattle.flat.proofs.FlatSteps.{length-flat, flat-take}

-- one step more
pub laid_more : (l : List Step) (w v : List ℕ) (i : ℕ) (s : Step) → take i (steps_in w) ≡ take i l → i < length l
    → i < length (steps_in w) → steps_in v ≡ set (steps_in w) i s → s ≡ get_or l i blank
    → take (i + 1) (steps_in v) ≡ take (i + 1) l
laid_more l w v i s inv more room put is =
    ap₂ (λ (n : ℕ) (x : List Step). take n x) (add-one i) put
    ∙ take-suc-set (steps_in w) i s room
    ∙ ap₂ (λ (x : List Step) (y : Step). x ++ (y ∷ [])) inv is
    ∙ sym (take-suc l i blank more)
    ∙ ap (λ (n : ℕ). take n l) (sym (add-one i))

module _ (r : Route) (full : length r.steps ≡ 64) (w : List ℕ) (i : ℕ)
    (inv : take i (steps_in w) ≡ take i (steps_of r)) where
  pub lay-end : i ≤ r.len → r.len ≤ i → i ≤ 64 → Laid (steps_of r) (4 * r.len) w
  lay-end start end few =
      let here : r.len ≡ i = omega arith in
      record {
        within = omega arith;
        steps-are =
            ap (λ (n : ℕ). steps_in (take (4 * n) w)) here ∙ flat-take w i ∙ inv
            ∙ take_all i (steps_of r) (omega (arith, length-steps r full))
            ∙ sym (take_all 65 (steps_of r) (omega (arith, length-steps r full)));
      }

  module _ (v : List ℕ) (s : Step) (room : 260 ≤ length w) (more : i < r.len)
      (put : steps_in v ≡ set (steps_in w) i s) where
    pub lay-on : i < 64 → s ≡ get_or r.steps i blank → take (i + 1) (steps_in v) ≡ take (i + 1) (steps_of r)
    lay-on few is =
        laid_more (steps_of r) w v i s inv (omega (arith, length-steps r full)) (omega (arith, length-flat w)) put
        (is ∙ sym (steps-at r full i more few))

    -- the 65th
    pub lay-over : i ≤ 64 → 64 ≤ i → s ≡ blank → Laid (steps_of r) (4 * i + 4) v
    lay-over few past is =
        let numbers : 4 * i + 4 ≡ 4 * (i + 1) = omega arith in
        let count : i + 1 ≡ 65 = omega arith in
        record {
          within = omega arith;
          steps-are =
              ap (λ (n : ℕ). steps_in (take n v)) numbers ∙ flat-take v (i + 1)
              ∙ laid_more (steps_of r) w v i s inv (omega (arith, length-steps r full))
              (omega (arith, length-flat w)) put
              (is ∙ sym (steps-past r full i past))
              ∙ ap (λ (n : ℕ). take n (steps_of r)) count;
        }
