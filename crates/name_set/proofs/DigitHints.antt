-- Hints for names, gathered from the first name to the last: a slot that is still 0 gets the name's place. So where a
-- slot is 0 no name ends in its digit.
use mathlib.Core.Path.{◌≡◌, refl, sym, ap, ◌∙◌, subst}
use mathlib.Core.Bool.{Bool, true, false}
use mathlib.Core.List.{List, [], ◌∷◌, ◌++◌}
use Prim.Native.Nat.{ℕ, zero, suc, ◌+◌, ◌-◌, ◌*◌, ◌%◌, ◌≤◌, ◌<◌}
use native.Mathlib.Omega.{arith}
use native.Mathlib.Numerals.{add-one}
use lib.Dec.{eqb}
use lib.ListN.{length, take, get_or, set, replicate, length-set, length-append, length-replicate, get_or-append}
use lib.Seq.{length-take-le, take-suc, get_or_at, get_or-set_same, get_or-set_other}
use borrow.Author.Tests.{eqb-true, eqb-false}
use Rattle.route.specs.Steps.{blank, names}
use Rattle.name_set.specs.Among.{among}
use Rattle.name_set.specs.inner.Hints.{Hinted}
use Rattle.flat.specs.Flat.{steps_in}
use Rattle.route.specs.declared.Step.{Step}
use Rattle.route.proofs.StepList.{length-names, get_or-names}
use Rattle.flat.proofs.FlatSteps.{flat-names}
use Rattle.name_set.proofs.Among.{among-at, among_none}

-- ---- gathering: no names, one name more

zeros : (n d : ℕ) → ◌≡◌ {A = ℕ} (get_or (replicate n 0) d 0) 0
zeros zero d = refl
zeros (suc n) zero = refl
zeros (suc n) (suc d) = zeros n d

pub hinted-none : Hinted [] (replicate 256 0)
hinted-none =
    record {
      room = length-replicate {A = ℕ} 256 0;
      held = λ d. omega (arith, zeros 256 d);
      some = λ j h. absurd (omega arith);
    }

module _ (column hint : List ℕ) (name place : ℕ) (at : length column ≡ place) (h : Hinted column hint) where
  abbrev longer : List ℕ
  longer = column ++ (name ∷ [])

  longer-length : length longer ≡ suc place
  longer-length = omega (arith, length-append column (name ∷ []))

  -- a name of the longer column is an earlier one, or the last
  module _ (P : ℕ → ℕ → Type 0) (earlier : (j : ℕ) → j < place → P j (get_or column j 0)) (last : P place name) where
    each-name : (j : ℕ) → j < length longer → P j (get_or longer j 0)
    each-name j b = go (eqb j place) refl
      where
        go : (t : Bool) → eqb j place ≡ t → P j (get_or longer j 0)
        go true e =
            let here : place ≡ j = sym (eqb-true j place e) in
            subst (λ (i : ℕ). P i (get_or longer i 0)) here
            (subst (λ (x : ℕ). P place x) (sym (get_or_at column name [] 0 place at)) last)
        go false e =
            let other : (j ≡ place) → ⊥ = eqb-false j place e in
            let below : j < place = omega (arith, longer-length) in
            subst (λ (x : ℕ). P j x) (sym (get_or-append column (name ∷ []) 0 j (omega arith))) (earlier j below)

  -- the slot holds an earlier name's place
  pub hinted-kept : (get_or hint (name % 256) 0 ≡ 0 → ⊥) → Hinted longer hint
  hinted-kept used =
      record {
        room = h.room;
        held = λ d. omega (arith, h.held d, longer-length);
        some = each-name (λ (j x : ℕ). 1 ≤ get_or hint (x % 256) 0) (λ j b. h.some j (omega arith)) (omega arith);
      }

  -- the slot was 0
  module _ (unused : get_or hint (name % 256) 0 ≡ 0) where
    abbrev after : List ℕ
    after = set hint (name % 256) (place + 1)

    slot : get_or after (name % 256) 0 ≡ place + 1
    slot = get_or-set_same hint (name % 256) (place + 1) 0 (omega (arith, h.room))

    other-slot : (j : ℕ) → j < place → get_or after (get_or column j 0 % 256) 0 ≡ get_or hint (get_or column j 0 % 256) 0
    other-slot j b =
        get_or-set_other hint (name % 256) (get_or column j 0 % 256) (place + 1) 0
        (λ e. clash (ap (λ (d : ℕ). get_or hint d 0) e))
      where
        clash : get_or hint (get_or column j 0 % 256) 0 ≡ get_or hint (name % 256) 0 → ⊥
        clash e = omega (arith, h.some j (omega arith))

    each-slot : (d : ℕ) → get_or after d 0 ≤ suc place
    each-slot d = go (eqb d (name % 256)) refl
      where
        go : (t : Bool) → eqb d (name % 256) ≡ t → get_or after d 0 ≤ suc place
        go true e = omega (arith, slot, ap (λ (i : ℕ). get_or after i 0) (eqb-true d (name % 256) e))
        go false e =
            omega (arith, h.held d, get_or-set_other hint (name % 256) d (place + 1) 0 (eqb-false d (name % 256) e))

    pub hinted-more : Hinted longer after
    hinted-more =
        record {
          room = length-set hint _ _ ∙ h.room;
          held = λ d. omega (arith, each-slot d, longer-length);
          some =
              each-name (λ (j x : ℕ). 1 ≤ get_or after (x % 256) 0)
              (λ j b. omega (arith, other-slot j b, h.some j (omega arith))) (omega (arith, slot));
        }

-- one more of the steps, of which there are `count`; `x` is the name at i
module _ (l : List Step) (hint : List ℕ) (i count : ℕ) (counted : count ≡ length l)
    (h : Hinted (take i (names l)) hint) where
  pub hinted-on : (after : List ℕ) (x : ℕ) → i < count → x ≡ (get_or l i blank).name
      → ((c : List ℕ) → length c ≡ i → Hinted c hint → Hinted (c ++ (x ∷ [])) after)
      → Hinted (take (i + 1) (names l)) after
  hinted-on after x b is more =
      subst (λ (c : List ℕ). Hinted c after) (sym longer)
      (more (take i (names l)) (length-take-le i (names l) (omega (arith, length-names l))) h)
    where
      longer : take (i + 1) (names l) ≡ take i (names l) ++ (x ∷ [])
      longer =
          ap (λ (n : ℕ). take n (names l)) (add-one i)
          ∙ take-suc (names l) i 0 (omega (arith, length-names l))
          ∙ ap (λ (y : ℕ). take i (names l) ++ (y ∷ [])) (get_or-names l i ∙ sym is)

-- the same of the first steps as numbers
pub hinted-prefix : (w : List ℕ) (i : ℕ) (hint : List ℕ) → Hinted (take i (names (steps_in w))) hint
    → Hinted (names (steps_in (take (4 * i) w))) hint
hinted-prefix w i hint h = subst (λ (c : List ℕ). Hinted c hint) (sym (flat-names w i)) h

-- ---- asking

module _ (l : List Step) (hint : List ℕ) (n k : ℕ) (h : Hinted (names l) hint) (is : k ≡ get_or hint (n % 256) 0) where
  pub hint-few : k ≤ length l
  hint-few = omega (arith, h.held (n % 256), length-names l)

  -- a digit without a hint
  pub hint-none : k ≡ 0 → false ≡ among n (names l)
  hint-none z = sym (among_none n (names l) none)
    where
      none : (j : ℕ) → j < length (names l) → get_or (names l) j 0 ≡ n → ⊥
      none j b e =
          let some : 1 ≤ get_or hint (n % 256) 0 = subst (λ (x : ℕ). 1 ≤ get_or hint (x % 256) 0) e (h.some j b) in
          omega arith

  module _ (some : k ≡ 0 → ⊥) where
    pub hint-inside : k - 1 < length l
    hint-inside = omega (arith, hint-few)

    -- a name that stands where its hint says
    pub hint-right : (x : ℕ) → x ≡ (get_or l (k - 1) blank).name → x ≡ n → true ≡ among n (names l)
    hint-right x at here =
        sym (among-at n (names l) (k - 1) (omega (arith, hint-inside, length-names l))
        (get_or-names l (k - 1) ∙ sym at ∙ here))
