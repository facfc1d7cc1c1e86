-- The new route's steps for the occurrences: since no occurrence has the name 0, the match at i shows what look-up by
-- its name finds.
use mathlib.Core.Path.{◌≡◌, refl, sym, ap, ◌∙◌}
use mathlib.Core.Bool.{Bool, true, cond}
use mathlib.Core.List.{List}
use mathlib.Core.Option
use mathlib.Core.Option.{Option, none, some}
use Prim.Native.Nat.{ℕ, ◌≤◌, ◌<◌}
use native.Mathlib.Omega.{arith}
use lib.ListN.{length, get_or}
use borrow.Author.Tests.{ne_eqb}
use Rattle.route.specs.Steps.{blank, names, lookup}
use Rattle.flat.specs.Flat.{steps_in}
use Rattle.route.specs.declared.Step.{Step}
use Rattle.route.proofs.StepList.{lookup-name, length-names, get_or-names}
use Rattle.running.proofs.Performed.{length-performed, performed-at}
use Rattle.matching.specs.Straight.{same_data, same_step}
use Rattle.matching.specs.inner.Matched.{matched}
use Rattle.matching.specs.inner.Matches.{MatchesOf, present}

-- the new route's step for the occurrence at i, if there is one
abbrev pub step_for : List Step → List Step → ℕ → Option Step
step_for new l i = lookup (get_or l i blank).name new

pub length-matched : (new l : List Step) → length (matched new l) ≡ length l
unfolding matched
length-matched new l = length-performed new (names l) ∙ length-names l

pub matched-at :
    (new l : List Step) (i : ℕ) → i < length l → get_or (matched new l) i blank ≡ Option.get_or (step_for new l i) blank
unfolding matched
matched-at new l i h =
    performed-at new (names l) i (omega (arith, length-names l))
    ∙ ap (λ (n : ℕ). Option.get_or (lookup n new) blank) (get_or-names l i)

present-is : (new : List Step) (n : ℕ) → 1 ≤ n → present (Option.get_or (lookup n new) blank) ≡ lookup n new
unfolding present
present-is new n h = go (lookup n new) refl
  where
    go : (q : Option Step) → lookup n new ≡ q → present (Option.get_or q blank) ≡ q
    go none e = refl
    go (some t) e =
        ap (λ (b : Bool). cond b none (some t)) (ne_eqb t.name 0 (λ z. omega (arith, lookup-name n new t e)))

-- ---- the matches as numbers

module _ (new l : List Step) (matches : List ℕ) (is : MatchesOf new l matches) where
  pub length-matches : length (steps_in matches) ≡ length l
  length-matches = ap length is.steps-are ∙ length-matched new l

  module _ (i : ℕ) (h : i < length l) where
    match-at : get_or (steps_in matches) i blank ≡ Option.get_or (step_for new l i) blank
    match-at = ap (λ (m : List Step). get_or m i blank) is.steps-are ∙ matched-at new l i h

    named-at : 1 ≤ (get_or l i blank).name
    named-at = omega (arith, is.named i (omega (arith, length-names l)), get_or-names l i)

    pub present-at : present (get_or (steps_in matches) i blank) ≡ step_for new l i
    present-at = ap present match-at ∙ present-is new (get_or l i blank).name named-at

    -- a match with the same data is the new route's step
    pub step-there : same_step new (get_or l i blank) ≡ true → step_for new l i ≡ some (get_or (steps_in matches) i blank)
    unfolding same_step same_data
    step-there same = go (step_for new l i) refl same
      where
        go :
            (q : Option Step) → step_for new l i ≡ q → same_data (get_or l i blank) q ≡ true
            → step_for new l i ≡ some (get_or (steps_in matches) i blank)
        go none e s = cc
        go (some t) e s = e ∙ ap some (sym (match-at ∙ ap (λ (q : Option Step). Option.get_or q blank) e))
