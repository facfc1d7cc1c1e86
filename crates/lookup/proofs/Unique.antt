-- Names are unique, so from wherever it begins each finding is as before: whatever stands anywhere in the list with
-- that name is the one.
use mathlib.Core.Path.{◌≡◌, refl, sym, ap, ◌∙◌}
use mathlib.Core.Bool.{Bool, true, false}
use mathlib.Core.List.{List}
use mathlib.Core.Option.{none, some}
use Prim.Native.Nat.{ℕ, ◌+◌, ◌-◌, ◌<◌}
use native.Mathlib.Omega.{arith}
use lib.Dec.{ltb}
use lib.ListN.{length, take, drop, get_or, length-take, length-drop}
use lib.Seq.{get_or-take, get_or-drop}
use borrow.Author.Tests.{ltb-true, ltb-false}
use Rattle.std.specs.Prelude.{Option, Some, None, option_map}
use Rattle.std.specs.Option.{option_or}
use Rattle.route.specs.Steps.{blank, names, lookup}
use Rattle.route.specs.declared.Step.{Step}
use Rattle.lookup.specs.Position.{position}
use Rattle.lookup.specs.Around.{found_from, looked, Unique}
use Rattle.lookup.proofs.Position.{position-below, position_at, position_is, position-nowhere}
use Rattle.lookup.proofs.Position.{position-lacks, lookup-at, lookup-none}

module _ (n : ℕ) (l : List ℕ) where
  module _ (unique : Unique l) where
    -- the only one with the name is found
    position-only : (k : ℕ) → k < length l → get_or l k 0 ≡ n → position n l ≡ Some k
    position-only k h is = position_is n l k h (λ j b e. absurd (omega (arith, unique j k (omega arith) h (e ∙ sym is)))) is

    pub same-finding : (from : ℕ) → found_from from n l ≡ position n l
    unfolding found_from
    same-finding from = go (position n (drop from l)) refl (position n (take from l)) refl
      where
        go : (f : Option ℕ) → position n (drop from l) ≡ f → (g : Option ℕ) → position n (take from l) ≡ g
            → option_or (option_map (λ k. from + k) f) g ≡ position n l
        go (Some k) e g p =
            sym (position-only (from + k)
            (omega (arith, position-below n (drop from l) k e, length-drop from l))
            (sym (get_or-drop from l k 0) ∙ position_at n (drop from l) k e))
        go None e (Some k) p =
            let b : k < length (take from l) = position-below n (take from l) k p in
            sym (position-only k (omega (arith, length-take from l))
            (sym (get_or-take from l k 0 (omega (arith, length-take from l))) ∙ position_at n (take from l) k p))
        go None e None p = sym (position-nowhere n l lacks)
          where
            lacks : (k : ℕ) → k < length l → get_or l k 0 ≡ n → ⊥
            lacks k h is = cut (ltb k from) refl
              where
                cut : (t : Bool) → ltb k from ≡ t → ⊥
                cut true b =
                    position-lacks n (take from l) p k (omega (arith, ltb-true k from b, length-take from l))
                    (get_or-take from l k 0 (ltb-true k from b) ∙ is)
                cut false b =
                    let on : from + (k - from) ≡ k = omega (arith, ltb-false k from b) in
                    position-lacks n (drop from l) e (k - from) (omega (arith, ltb-false k from b, length-drop from l))
                    (get_or-drop from l (k - from) 0 ∙ ap (λ (i : ℕ). get_or l i 0) on ∙ is)

    pub looked-found : (from : ℕ) → (looked from n l).found ≡ position n l
    unfolding looked
    looked-found from = same-finding from

-- so what is found is the step of that name, from wherever it begins
module _ (from n : ℕ) (l : List Step) (unique : Unique (names l)) where
  pub found-lookup : (k : ℕ) → (looked from n (names l)).found ≡ Some k → lookup n l ≡ some (get_or l k blank)
  found-lookup k e = lookup-at n l k (sym (looked-found n (names l) unique from) ∙ e)

  pub missed-lookup : (looked from n (names l)).found ≡ None → lookup n l ≡ none
  missed-lookup e = lookup-none n l (sym (looked-found n (names l) unique from) ∙ e)
