-- The steps done that become occurrences one by one: those passed are occurrences, those left are as they were.
use mathlib.Core.Path.{◌≡◌, refl, sym, ap, ◌∙◌}
use mathlib.Core.List.{List, map}
use Prim.Native.Nat.{ℕ, ◌+◌, ◌≤◌, ◌<◌}
use native.Mathlib.Omega.{arith}
use lib.Bits.{and_zero_l}
use lib.ListN.{length, take, get_or, set, length-map, get_or-map}
use lib.Seq.{get_or-set_other}
use Rattle.std.proofs.lemmas.List.{take-map}
use Rattle.route.specs.Steps.{blank}
use Rattle.flat.specs.Flat.{steps_in, Holds}
use Rattle.flat.proofs.FlatSteps.{flat-take, length-flat}
use Rattle.flat.proofs.LaidSteps.{laid_more}
use Rattle.route.specs.declared.Step.{Step}
use Rattle.occurrences.specs.Occurrences.{occurrence}

-- a blank step takes and puts nothing
pub blank-occurrence : (places : ℕ) → occurrence places blank ≡ blank
unfolding occurrence
blank-occurrence places = rw (and_zero_l places) refl

module _ (places : ℕ) (before : List ℕ) where
  abbrev f : Step → Step
  f = occurrence places

  -- `before` and `now` are the numbers before the first and after i of them
  pub record Narrowing (i : ℕ) (now : List ℕ) : Type 0 where
    pub passed : take i (steps_in now) ≡ take i (map (occurrence places) (steps_in before))
    pub left : (k : ℕ) → i ≤ k → get_or (steps_in now) k blank ≡ get_or (steps_in before) k blank
    pub room : length now ≡ length before

  pub narrowing-init : Narrowing 0 before
  narrowing-init = record { passed = refl; left = λ k b. refl; room = refl }

  occurrence-at : (i : ℕ) → get_or (map f (steps_in before)) i blank ≡ f (get_or (steps_in before) i blank)
  occurrence-at i = ap (get_or (map f (steps_in before)) i) (sym (blank-occurrence places))
      ∙ get_or-map f (steps_in before) i blank

  pub narrowing-inside : (i n : ℕ) (now : List ℕ) → Narrowing i now → i < n → n ≤ 64 → 256 ≤ length before
      → i < length (steps_in now)
  narrowing-inside i n now inv more few room = omega (arith, length-flat now, inv.room)

  pub narrowing-step : (i n : ℕ) (now next : List ℕ) (s o : Step) → Narrowing i now → i < n → n ≤ 64
      → 256 ≤ length before
      → s ≡ get_or (steps_in now) i blank → o ≡ occurrence places s → steps_in next ≡ set (steps_in now) i o
      → length next ≡ length now → Narrowing (i + 1) next
  narrowing-step i n now next s o inv more few room is own put same =
      record {
        passed = laid_more (map f (steps_in before)) now next i o inv.passed
            (omega (arith, length-map (steps_in before) f, length-flat before))
            (narrowing-inside i n now inv more few room) put
            (own ∙ ap f (is ∙ inv.left i (omega arith)) ∙ sym (occurrence-at i));
        left = λ k b. ap (λ (l : List Step). get_or l k blank) put
            ∙ get_or-set_other (steps_in now) i k o blank (λ e. omega (arith, e)) ∙ inv.left k (omega arith);
        room = same ∙ inv.room;
      }

  pub narrowing-done : (i n : ℕ) (now : List ℕ) → i ≤ n → n ≤ i → Narrowing i now → (l : List Step) → length l ≡ n
      → Holds l before → Holds (map (occurrence places) l) now
  narrowing-done i n now low high inv l count holds =
      record {
        steps-are =
            flat-take now (length (map f l))
            ∙ ap (λ (k : ℕ). take k (steps_in now)) (length-map l f ∙ all)
            ∙ inv.passed
            ∙ take-map f i (steps_in before)
            ∙ ap (map f) (ap (λ (k : ℕ). take k (steps_in before)) (sym all) ∙ sym (flat-take before (length l))
            ∙ holds.steps-are);
      }
    where
      all : length l ≡ i
      all = omega (arith, count)
