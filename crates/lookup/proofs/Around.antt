-- Look-up from where we were. The list is cut where the look-up begins: the name stands in the lower part, or else in
-- the upper one, or nowhere; and so many names are compared.
use mathlib.Core.Path.{◌≡◌, refl, sym, ap, ◌∙◌, subst}
use mathlib.Core.Bool.{Bool, true, false, cond}
use mathlib.Core.List.{List, [], ◌∷◌, ◌++◌, append-nil}
use Prim.Native.Nat.{ℕ, zero, suc, ◌+◌, ◌-◌, ◌*◌, ◌^◌, ◌≤◌, ◌<◌, min}
use native.Mathlib.Omega.{arith}
use lib.Dec.{eqb, ltb}
use lib.ListN.{length, get_or, take, drop, length-take, length-drop, drop_of_length-le}
use lib.Seq.{take_all, take-length, drop-length}
use borrow.Author.Tests.{eq-eqb, ne_eqb, ltb-true, ltb-false}
use Rattle.std.specs.Prelude.{Option, Some, None, option_map}
use Rattle.std.specs.Option.{option_or}
use Rattle.std.proofs.lemmas.Option.{same_Some}
use Rattle.route.specs.Steps.{names}
use Rattle.flat.specs.Flat.{steps_in}
use Rattle.route.proofs.StepList.{length-names}
use Rattle.flat.proofs.FlatSteps.{length-flat, flat-names, flat-names-drop}
use Rattle.lookup.specs.Position.{position}
use Rattle.lookup.specs.Around.{around, compared, found_from, next_from, looked}
use Rattle.lookup.specs.declared.Looked.{Looked}
use Rattle.lookup.proofs.Position.{Lacks, position-below, position_at, position-first, position-lacks}

-- ---- how many names are compared: in a list whose first part has the name, and whose first part lacks it

pub compared-most : (n : ℕ) (l : List ℕ) → compared n l ≤ length l
unfolding compared
compared-most n [] = omega arith
compared-most n (x ∷ l) = go (eqb x n) (compared-most n l)
  where
    go : (t : Bool) → compared n l ≤ length l → suc (cond t 0 (compared n l)) ≤ suc (length l)
    go true h = omega arith
    go false h = omega arith

-- the first name of the list that is n stands at k
compared_hit : (n : ℕ) (a b : List ℕ) (k : ℕ) → k < length a → Lacks n a k → get_or a k 0 ≡ n
    → compared n (a ++ b) ≡ k + 1
unfolding compared
compared_hit n [] b k h above here = absurd (omega arith)
compared_hit n (x ∷ a) b zero h above here =
    ap (λ (t : Bool). suc (cond t 0 (compared n (a ++ b)))) (eq-eqb x n here)
compared_hit n (x ∷ a) b (suc k) h above here =
    ap (λ (t : Bool). suc (cond t 0 (compared n (a ++ b)))) (ne_eqb x n (above 0 (omega arith)))
    ∙ omega (arith, compared_hit n a b k (omega arith) (λ j i. above (suc j) (omega arith)) here)

compared_miss : (n : ℕ) (a b : List ℕ) → Lacks n a (length a) → compared n (a ++ b) ≡ length a + compared n b
unfolding compared
compared_miss n [] b lacks = omega arith
compared_miss n (x ∷ a) b lacks =
    ap (λ (t : Bool). suc (cond t 0 (compared n (a ++ b)))) (ne_eqb x n (lacks 0 (omega arith)))
    ∙ omega (arith, compared_miss n a b (λ j i. lacks (suc j) (omega arith)))

compared_at : (n : ℕ) (a b : List ℕ) (k : ℕ) → position n a ≡ Some k → compared n (a ++ b) ≡ k + 1
compared_at n a b k e =
    compared_hit n a b k (position-below n a k e) (position-first n a k e) (position_at n a k e)

compared-past : (n : ℕ) (a b : List ℕ) → position n a ≡ None → compared n (a ++ b) ≡ length a + compared n b
compared-past n a b e = compared_miss n a b (position-lacks n a e)

-- ---- a look-up, by where the name stands

module _ (from n : ℕ) (l : List ℕ) where
  looked-is : (f : Option ℕ) (c : ℕ) → found_from from n l ≡ f → compared n (around from l) ≡ c
      → record { found = f; compared = c; next = next_from from f } ≡ looked from n l
  unfolding looked
  looked-is f c p q = λ i. record { found = sym p i; compared = sym q i; next = next_from from (sym p i) }

  pub looked-below : (k : ℕ) → position n (drop from l) ≡ Some k
      → record { found = Some (from + k); compared = k + 1; next = from + k + 1 } ≡ looked from n l
  unfolding found_from around next_from
  looked-below k e =
      ap (λ (m : ℕ). record { found = Some (from + k); compared = k + 1; next = m }) (omega arith)
      ∙ looked-is (Some (from + k)) (k + 1) (ap (λ f. option_or (option_map (λ i. from + i) f) (position n (take from l))) e)
      (compared_at n (drop from l) (take from l) k e)

  module _ (miss : position n (drop from l) ≡ None) where
    found-above : found_from from n l ≡ position n (take from l)
    unfolding found_from
    found-above = ap (λ f. option_or (option_map (λ i. from + i) f) (position n (take from l))) miss

    compared-above : compared n (around from l) ≡ length (drop from l) + compared n (take from l)
    unfolding around
    compared-above = compared-past n (drop from l) (take from l) miss

    pub looked-above : (k : ℕ) → position n (take from l) ≡ Some k
        → record { found = Some k; compared = length l - from + (k + 1); next = k + 1 } ≡ looked from n l
    unfolding next_from
    looked-above k e =
        ap (λ (m : ℕ). record { found = Some k; compared = length l - from + (k + 1); next = m }) (omega arith)
        ∙ looked-is (Some k) (length l - from + (k + 1)) (found-above ∙ e)
        (compared-above ∙ omega (arith, count, length-drop from l))
      where
        count : compared n (take from l) ≡ k + 1
        count = ap (compared n) (sym (append-nil (take from l))) ∙ compared_at n (take from l) [] k e

    pub looked-nothing : position n (take from l) ≡ None
        → record { found = None; compared = length l; next = from } ≡ looked from n l
    unfolding next_from compared
    looked-nothing e =
        looked-is None (length l) (found-above ∙ e)
        (compared-above ∙ omega (arith, count, length-drop from l, length-take from l))
      where
        count : compared n (take from l) ≡ length (take from l) + 0
        count = ap (compared n) (sym (append-nil (take from l))) ∙ compared-past n (take from l) [] e

-- ---- the count, by the place: the names from the beginning to the place found, or all

module _ (from n : ℕ) (l : List ℕ) where
  -- what the look-up answers, in each of its three cases
  module _ (P : Looked → Type 0)
      (below : (k : ℕ) → k < length (drop from l)
      → P (record { found = Some (from + k); compared = k + 1; next = from + k + 1 }))
      (above : (k : ℕ) → k < length (take from l)
      → P (record { found = Some k; compared = length l - from + (k + 1); next = k + 1 }))
      (nowhere : P (record { found = None; compared = length l; next = from })) where
    looked-cases : P (looked from n l)
    looked-cases = go (position n (drop from l)) refl (position n (take from l)) refl
      where
        go : (f : Option ℕ) → position n (drop from l) ≡ f → (g : Option ℕ) → position n (take from l) ≡ g
            → P (looked from n l)
        go (Some k) e g p = subst P (looked-below from n l k e) (below k (position-below n (drop from l) k e))
        go None e (Some k) p = subst P (looked-above from n l e k p) (above k (position-below n (take from l) k p))
        go None e None p = subst P (looked-nothing from n l e p) nowhere

  pub count-below : (k : ℕ) → (looked from n l).found ≡ Some k → from ≤ k → from + (looked from n l).compared ≡ k + 1
  count-below k =
      looked-cases (λ (x : Looked). x.found ≡ Some k → from ≤ k → from + x.compared ≡ k + 1)
      (λ i h e b. omega (arith, same_Some (from + i) k e))
      (λ i h e b. absurd (omega (arith, h, same_Some i k e, length-take from l)))
      (λ e b. cc)

  pub count-above : (k : ℕ) → (looked from n l).found ≡ Some k → k < from → from ≤ length l
      → from + (looked from n l).compared ≡ length l + k + 1
  count-above k =
      looked-cases
      (λ (x : Looked). x.found ≡ Some k → k < from → from ≤ length l → from + x.compared ≡ length l + k + 1)
      (λ i h e b r. absurd (omega (arith, same_Some (from + i) k e)))
      (λ i h e b r. omega (arith, same_Some i k e))
      (λ e b r. cc)

  pub count-nowhere : (looked from n l).found ≡ None → (looked from n l).compared ≡ length l
  count-nowhere =
      looked-cases (λ (x : Looked). x.found ≡ None → x.compared ≡ length l) (λ i h e. cc) (λ i h e. cc) (λ e. refl)

-- ---- the same of steps as numbers, cut before the step `begin`

-- four numbers for each step
pub steps_fit : (w : List ℕ) → length (steps_in w) * 4 ≤ length w
steps_fit w = omega (arith, length-flat w)

-- a beginning past the end cuts as the end does
cut-within : {A : Type 0} (cut : ℕ → List A) (from end : ℕ) → ((i : ℕ) → end ≤ i → cut i ≡ cut end)
    → cut (min from end) ≡ cut from
cut-within cut from end past = go (ltb end from) refl
  where
    go : (t : Bool) → ltb end from ≡ t → cut (min from end) ≡ cut from
    go true e =
        let over : end < from = ltb-true end from e in
        past (min from end) (omega arith) ∙ sym (past from (omega arith))
    go false e =
        let same : min from end ≡ from = omega (arith, ltb-false end from e) in ap cut same

module _ (w : List ℕ) (from name count begin : ℕ) (counted : count ≡ length (steps_in w))
    (begins : begin ≡ min from count) where
  abbrev column : List ℕ
  column = names (steps_in w)

  begins-names : begin ≡ min from (length column)
  begins-names = omega (arith, length-names (steps_in w))

  lower-names : names (steps_in (take (length w - 4 * begin) (drop (4 * begin) w))) ≡ drop from column
  lower-names =
      ap (λ (v : List ℕ). names (steps_in v))
      (take_all (length w - 4 * begin) (drop (4 * begin) w) (omega (arith, length-drop (4 * begin) w)))
      ∙ flat-names-drop w begin
      ∙ ap (λ (i : ℕ). drop i column) begins-names
      ∙ cut-within (λ (i : ℕ). drop i column) from (length column)
      (λ i h. drop_of_length-le column {i = i} h ∙ sym (drop-length column))

  upper-names : names (steps_in (take (4 * begin) w)) ≡ take from column
  upper-names =
      flat-names w begin
      ∙ ap (λ (i : ℕ). take i column) begins-names
      ∙ cut-within (λ (i : ℕ). take i column) from (length column)
      (λ i h. take_all i column h ∙ sym (take-length column))

  -- f is what was found in the lower part
  module _ (f : Option ℕ)
      (f-is : f ≡ position name (names (steps_in (take (length w - 4 * begin) (drop (4 * begin) w))))) where
    lower-is : position name (drop from column) ≡ f
    lower-is = ap (position name) (sym lower-names) ∙ sym f-is

    module _ (k : ℕ) (e : f ≡ Some k) where
      inside : k < length (drop from column)
      inside = position-below name (drop from column) k (lower-is ∙ e)

      lower-inside : begin + k < count
      lower-inside = omega (arith, inside, length-drop from column, length-names (steps_in w))

      pub lower-fits : count < 2 ^ 64 → begin + k < 2 ^ 64
      lower-fits h = omega (arith, lower-inside)

      pub lower-next : count < 2 ^ 64 → begin + k + 1 < 2 ^ 64
      lower-next h = omega (arith, lower-inside)

      begins-there : begin ≡ from
      begins-there = omega (arith, inside, length-drop from column, length-names (steps_in w))

      pub find-below :
          record { found = Some (begin + k); compared = begin + k + 1 - begin; next = begin + k + 1 }
          ≡ looked from name column
      find-below =
          ap (λ (c : ℕ). record { found = Some (begin + k); compared = c; next = begin + k + 1 }) (omega arith)
          ∙ ap (λ (b : ℕ). record { found = Some (b + k); compared = k + 1; next = b + k + 1 }) begins-there
          ∙ looked-below from name column k (lower-is ∙ e)

    -- g is what was found in the upper part
    module _ (miss : f ≡ None) (g : Option ℕ) (g-is : g ≡ position name (names (steps_in (take (4 * begin) w)))) where
      upper_is : position name (take from column) ≡ g
      upper_is = ap (position name) (sym upper-names) ∙ sym g-is

      module _ (k : ℕ) (e : g ≡ Some k) where
        upper-inside : k < begin
        upper-inside =
            omega (
              arith,
              position-below name (take from column) k (upper_is ∙ e),
              length-take from column,
              length-names (steps_in w),
            )

        pub upper-more : count < 2 ^ 64 → k + 1 < 2 ^ 64
        upper-more h = omega (arith, upper-inside)

        pub upper-next : count < 2 ^ 64 → count - begin + (k + 1) < 2 ^ 64
        upper-next h = omega (arith, upper-inside)

        pub find-above : record { found = Some k; compared = count - begin + (k + 1); next = k + 1 }
            ≡ looked from name column
        find-above =
            ap (λ (c : ℕ). record { found = Some k; compared = c; next = k + 1 })
            (omega (arith, length-names (steps_in w)))
            ∙ looked-above from name column (lower-is ∙ miss) k (upper_is ∙ e)

      pub find-nowhere : g ≡ None
          → record { found = None; compared = count; next = from } ≡ looked from name column
      find-nowhere e =
          ap (λ (c : ℕ). record { found = None; compared = c; next = from })
          (omega (arith, length-names (steps_in w)))
          ∙ looked-nothing from name column (lower-is ∙ miss) (upper_is ∙ e)
