-- Rows 11 and 12 by masks: the first of the kept that the new route doesn't have with the same data is the lowest of
-- the kept without the same.
use mathlib.Core.Path.{◌≡◌, refl, sym, ap, ◌∙◌}
use mathlib.Core.Bool.{Bool, true, false, not, cond, ◌&&◌}
use mathlib.Core.List.{List}
use mathlib.Core.Option.{none, some}
use Prim.Native.Nat.{ℕ, ◌+◌, ◌<◌}
use native.Mathlib.Omega.{arith}
use lib.Count.{count_trailing_zeros}
use lib.Dec.{eqb, ltb}
use lib.ListN.{length, get_or}
use borrow.Author.Tests.{eq-eqb, ne_eqb, lt-ltb}
use Rattle.mask.specs.Mask.{has, without, members}
use Rattle.mask.proofs.Laws.{has-zero, has-without, member_of}
use Rattle.mask.proofs.Lowest.{lowest-le, lowest-in}
use Rattle.mask.proofs.Truth.{split, both, and-not-elim}
use Rattle.route.specs.Steps.{blank}
use Rattle.flat.specs.Flat.{steps_in}
use Rattle.route.specs.declared.Step.{Step}
use Rattle.refusal.specs.Rows.{pass, refuse, first}
use Rattle.refusal.specs.declared.Outcome.{Outcome}
use Rattle.search.specs.Search.{is_some}
use Rattle.matching.specs.Straight.{same_step}
use Rattle.matching.specs.KeptRows.{kept_row, kept_lines}
use Rattle.matching.specs.inner.Matches.{MatchesOf, present, same_mask}
use Rattle.matching.proofs.Matched.{step_for, length-matches, present-at}
use Rattle.matching.proofs.StraightEnd.{same_at}
use Rattle.matching.proofs.KeptRows.{row-missing, row-differs, lines-pass, lines_at}

-- the kept stand among the matches
abbrev pub Among : ℕ → List ℕ → Type 0
Among kept matches = (i : ℕ) → has kept i ≡ true → (i < 64) × (i < length (steps_in matches))

-- the rows as found: for any occurrences that the matches are of
abbrev pub RowsAre : List ℕ → ℕ → ℕ → ℕ → Outcome → Type 0
RowsAre matches kept same line o =
    (new l : List Step) → MatchesOf new l matches → same ≡ same_mask new l
    → o ≡ first (kept_lines new l line (members 64 kept))

only-there : (x y : Bool) → (x && not y) ≡ true → y ≡ false
only-there true true e = sym e
only-there true false e = refl
only-there false y e = cc

module _
    (matches : List ℕ) (kept same line : ℕ) (low : Among kept matches)
    (wrong : ℕ) (wrong-is : wrong ≡ without kept same) where
  wrong-at : (i : ℕ) → has wrong i ≡ (has kept i && not (has same i))
  wrong-at i = ap (λ (n : ℕ). has n i) wrong-is ∙ has-without kept same i

  -- one of the kept that isn't wrong is the same
  right-same :
      (new l : List Step) → same ≡ same_mask new l → (i : ℕ) → has kept i ≡ true → has wrong i ≡ false
      → same_step new (get_or l i blank) ≡ true
  right-same new l is i there right =
      (both (ltb i (length l)) (same_step new (get_or l i blank))
      (sym (same_at new l same is i) ∙ and-not-elim (has kept i) (has same i) (sym (wrong-at i) ∙ right) there)).1

  pub wrong-none : wrong ≡ 0 → (o : Outcome) → o ≡ pass → RowsAre matches kept same line o
  wrong-none e o o_is new l is same-is =
      o_is ∙ sym (lines-pass new l line kept (λ i there. right-same new l same-is i there (none i)))
    where
      none : (i : ℕ) → has wrong i ≡ false
      none i = ap (λ (n : ℕ). has n i) e ∙ has-zero i

  module _ (some-wrong : wrong ≡ 0 → ⊥) (lowest : ℕ) (lowest-is : lowest ≡ count_trailing_zeros 64 wrong) where
    lowest-wrong : has wrong lowest ≡ true
    lowest-wrong =
        let (v, there) = member_of wrong some-wrong in
        rw lowest-is (lowest-in 64 wrong v (low v (both (has kept v) _ (sym (wrong-at v) ∙ there)).0).0 there)

    lowest-kept : has kept lowest ≡ true
    lowest-kept = (both (has kept lowest) _ (sym (wrong-at lowest) ∙ lowest-wrong)).0

    pub lowest-room : (lowest < 64) × (lowest < length (steps_in matches))
    lowest-room = low lowest lowest-kept

    module _ (new l : List Step) (is : MatchesOf new l matches) (same-is : same ≡ same_mask new l) where
      inside : lowest < length l
      inside = omega (arith, lowest-room.1, length-matches new l matches is)

      differs : same_step new (get_or l lowest blank) ≡ false
      differs =
          ap (λ (t : Bool). t && same_step new (get_or l lowest blank)) (sym (lt-ltb lowest (length l) inside))
          ∙ sym (same_at new l same same-is lowest)
          ∙ only-there (has kept lowest) (has same lowest) (sym (wrong-at lowest) ∙ lowest-wrong)

      earlier : (j : ℕ) → j < lowest → has kept j ≡ true → same_step new (get_or l j blank) ≡ true
      earlier j h there = right-same new l same-is j there (go (has wrong j) refl)
        where
          go : (t : Bool) → has wrong j ≡ t → t ≡ false
          go true e = absurd (omega (arith, lowest-le 64 wrong j e))
          go false e = refl

      -- the row of the lowest, which refuses with n
      refused :
          (n : ℕ) → kept_row new (line + lowest) (get_or l lowest blank) ≡ refuse n (line + lowest) → eqb n 0 ≡ false
          → (o : Outcome) → o ≡ refuse n (line + lowest) → o ≡ first (kept_lines new l line (members 64 kept))
      refused n row z o o_is =
          o_is ∙ sym row ∙ sym (lines_at new l line kept lowest lowest-room.0 lowest-kept earlier off)
        where
          off : eqb (kept_row new (line + lowest) (get_or l lowest blank)).number 0 ≡ false
          off = ap (λ (o : Outcome). eqb o.number 0) row ∙ z

      -- what its match shows
      there-is :
          (t : Bool) → eqb (get_or (steps_in matches) lowest blank).name 0 ≡ t → is_some (step_for new l lowest) ≡ not t
      unfolding present is_some
      there-is t e =
          ap is_some (sym (present-at new l matches is lowest inside))
          ∙ ap (λ (b : Bool). is_some (cond b none (some (get_or (steps_in matches) lowest blank)))) e
          ∙ split (λ (b : Bool). is_some (cond b none (some (get_or (steps_in matches) lowest blank))) ≡ not b) t
          (λ x. refl) (λ x. refl)

    module _ (name : ℕ) (name-is : name ≡ (get_or (steps_in matches) lowest blank).name) (o : Outcome) where
      pub wrong-missing : name ≡ 0 → o ≡ refuse 11 (line + lowest) → RowsAre matches kept same line o
      wrong-missing e o_is new l is same-is =
          let gone = there-is new l is same-is true (eq-eqb _ 0 (sym name-is ∙ e)) in
          refused new l is same-is 11 (row-missing new (line + lowest) (get_or l lowest blank) gone) refl o o_is

      pub wrong-differs : (name ≡ 0 → ⊥) → o ≡ refuse 12 (line + lowest) → RowsAre matches kept same line o
      wrong-differs e o_is new l is same-is =
          let there = there-is new l is same-is false (ne_eqb _ 0 (λ z. e (name-is ∙ z))) in
          let row = row-differs new (line + lowest) (get_or l lowest blank) there (differs new l is same-is) in
          refused new l is same-is 12 row refl o o_is
