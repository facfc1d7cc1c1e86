-- The mask of the occurrences that are in the new route with the same data: the test on one, and one after another.
use mathlib.Core.Path.{◌≡◌, sym, ap, ap₂, ◌∙◌}
use mathlib.Core.Bool.{Bool, true, false}
use mathlib.Core.List.{List, ◌∷◌}
use Prim.Native.Nat.{ℕ, ◌+◌}
use lib.Bits.{bit_or}
use lib.ListN.{length, get_or}
use Rattle.mask.specs.Mask.{bit, collect}
use Rattle.mask.proofs.Laws.{collect-hit, collect-miss}
use Rattle.route.specs.Steps.{blank}
use Rattle.flat.specs.Flat.{steps_in}
use Rattle.flat.proofs.InTurn.{Turns, turns-init, turn-on, turn-at, turn-inside}
use Rattle.route.specs.declared.Step.{Step}
use Rattle.matching.specs.Straight.{same_data, same_step}
use Rattle.matching.specs.inner.Matches.{MatchesOf, present, same_mask}
use Rattle.matching.proofs.Matched.{present-at}

-- the occurrences below i that are in the new route with the same data
abbrev pub same_below : List Step → List Step → ℕ → ℕ
same_below new l i = collect (λ (k : ℕ). same_step new (get_or l k blank)) i

-- ---- the mask: `same` is that of those below i, which have come, each with its match

pub record SameSoFar (l : List Step) (matches : List ℕ) (i : ℕ) (left others : List Step) (same : ℕ) : Type 0 where
  pub turns : Turns l i left
  pub beside : Turns (steps_in matches) i others
  pub gathered : (new : List Step) → MatchesOf new l matches → same ≡ same_below new l i

pub same-init :
    {l left others : List Step} {matches : List ℕ} {i : ℕ} → i ≡ 0 → left ≡ l → others ≡ steps_in matches
    → SameSoFar l matches i left others 0
unfolding collect
same-init {l} z e f =
    record {
      turns = turns-init z e;
      beside = turns-init z f;
      gathered = λ new is. ap (same_below new l) (sym z);
    }

pub same-done :
    {l left others : List Step} {matches : List ℕ} {i same : ℕ} → SameSoFar l matches i left others same → i ≡ length l
    → (new : List Step) → MatchesOf new l matches → same ≡ same_mask new l
unfolding same_mask
same-done {l} inv over new is = inv.gathered new is ∙ ap (same_below new l) over

module _
    {l left others : List Step} {matches : List ℕ} {i same : ℕ} (inv : SameSoFar l matches i left others same)
    {s t : Step} {after after' : List Step} (next : (left ≡ s ∷ after) × (others ≡ t ∷ after'))
    {b : Bool} (b-is : b ≡ same_data s (present t)) {j : ℕ} (on : j ≡ i + 1) where
  test : (new : List Step) → MatchesOf new l matches → same_step new (get_or l i blank) ≡ b
  unfolding same_step
  test new is =
      sym (b-is ∙ ap₂ same_data (turn-at inv.turns next.0)
      (ap present (turn-at inv.beside next.1) ∙ present-at new l matches is i (turn-inside inv.turns next.0)))

  so-far : (m : ℕ) → ((new : List Step) → MatchesOf new l matches → m ≡ same_below new l (i + 1))
      → SameSoFar l matches j after after' m
  so-far m h =
      record {
        turns = turn-on inv.turns next.0 on;
        beside = turn-on inv.beside next.1 on;
        gathered = λ new is. h new is ∙ ap (same_below new l) (sym on);
      }

  pub same-hit : b ≡ true → {k own : ℕ} → k ≡ i → own ≡ bit k → SameSoFar l matches j after after' (bit_or same own)
  same-hit e at own-is = so-far _ (λ new is.
      ap (bit_or same) (own-is ∙ ap bit at) ∙ collect-hit _ i same (inv.gathered new is) (test new is ∙ e))

  pub same-miss : b ≡ false → SameSoFar l matches j after after' same
  same-miss e = so-far _ (λ new is. collect-miss _ i same (inv.gathered new is) (test new is ∙ e))
