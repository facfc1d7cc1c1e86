-- The shelf of editions: when put stores, and what it leaves on the shelf. A good shelf's numbers rise, so each edition
-- is the first of its number.
use mathlib.Core.Logic.{◌↔◌}
use mathlib.Core.Path.{◌≡◌, refl, sym, ap, ap₂, subst, ◌∙◌}
use mathlib.Core.Bool.{Bool, true, false, cond, ◌&&◌}
use mathlib.Core.List.{List, [], ◌∷◌, ◌++◌}
use mathlib.Core.Option.{Option, some}
use Prim.Native.Nat.{ℕ, zero, suc, ◌+◌, ◌-◌, ◌≤◌, ◌<◌}
use native.Mathlib.Omega.{arith}
use native.Mathlib.Numerals.{add-one}
use borrow.Author.Tests.{eq-eqb, ne_eqb, eqb-true, le-leb, leb-true, lt-ltb, ltb-true}
use lib.Dec.{eqb, ltb, leb}
use lib.ListN.{length, take, drop, get_or, set, replicate, length-set, length-append}
use lib.Seq.{take-suc-set, drop-set-lt, drop-drop, get_or-append_seam}
use Rattle.mask.proofs.Truth.{both, either, cond_yes, cond_no}
use Rattle.refusal.specs.declared.Outcome.{Outcome}
use Rattle.refusal.proofs.Rows.{row-passes, row-refuses, rows-passed, cond-zero}
use Rattle.route.specs.declared.Route.{Route}
use Rattle.shelf.specs.Shelf.{no_edition, no_shelf, editions_of, numbers_in, last_of, last_number}
use Rattle.shelf.specs.Shelf.{number_fits, rise, good_shelf, route_of}
use Rattle.shelf.specs.Put.{shelf_rows, put_row, with_edition, stored}
use Rattle.shelf.specs.declared.Edition.{Edition}
use Rattle.shelf.specs.declared.Shelf.{Shelf}
use Rattle.shelf.proofs.Numbers.{number_at, length-numbers}
use Rattle.shelf.proofs.PutRows.{shelf-passes}
use Rattle.theorems.specs.Editions.{Eight, UnusedBlank, Meets}

-- ---- numbers that rise

rise-more : (l : List ℕ) (last n : ℕ) → rise last l ≡ true → number_fits (last_of last l) n ≡ true
    → rise last (l ++ (n ∷ [])) ≡ true
unfolding rise last_of
rise-more [] last n up fits = ap (λ (t : Bool). t && true) fits
rise-more (x ∷ l) last n up fits =
    let (own, rest) = both (number_fits last x) (rise x l) up in
    ap₂ (λ (t u : Bool). t && u) own (rise-more l x n rest fits)

fits-elim : (last n : ℕ) → number_fits last n ≡ true → last < n
unfolding number_fits
fits-elim last n e = ltb-true last n (both _ _ e).0

-- each is above those before it
rise-above : (l : List ℕ) (last i : ℕ) → rise last l ≡ true → i < length l → last < get_or l i 0
unfolding rise
rise-above [] last i up h = absurd (omega (arith, h))
rise-above (x ∷ l) last zero up h = fits-elim last x (both (number_fits last x) (rise x l) up).0
rise-above (x ∷ l) last (suc i) up h =
    let (own, rest) = both (number_fits last x) (rise x l) up in
    omega (arith, fits-elim last x own, rise-above l x i rest (omega (arith, h)))

-- ---- editions found by their numbers

numbers-append : (l : List Edition) (e : Edition) → numbers_in (l ++ (e ∷ [])) ≡ numbers_in l ++ (e.number ∷ [])
unfolding numbers_in
numbers-append [] e = refl
numbers-append (x ∷ l) e = ap (λ (k : List ℕ). x.number ∷ k) (numbers-append l e)

found_first : (l : List Edition) (last i : ℕ) → rise last (numbers_in l) ≡ true → i < length l
    → route_of (get_or l i no_edition).number l ≡ some (get_or l i no_edition).route
unfolding rise numbers_in route_of
found_first [] last i up h = absurd (omega (arith, h))
found_first (e ∷ l) last zero up h = sym (cond_yes _ _ refl (eq-eqb e.number e.number refl))
found_first (e ∷ l) last (suc i) up h =
    let (own, rest) = both (number_fits last e.number) (rise e.number (numbers_in l)) up in
    let inside : i < length l = omega (arith, h) in
    let above : e.number < (get_or l i no_edition).number = omega (
      arith,
      rise-above (numbers_in l) e.number i rest (omega (arith, length-numbers l)),
      number_at l i no_edition inside,
    ) in
    sym (cond_no _ _ refl (ne_eqb e.number _ (λ p. omega (arith, p, above))))
    ∙ found_first l e.number i rest inside

found-last : (l : List Edition) (e : Edition) → rise 0 (numbers_in (l ++ (e ∷ []))) ≡ true
    → route_of e.number (l ++ (e ∷ [])) ≡ some e.route
found-last l e up =
    let at : get_or (l ++ (e ∷ [])) (length l) no_edition ≡ e = get_or-append_seam l e [] no_edition in
    ap (λ (x : Edition). route_of x.number (l ++ (e ∷ []))) (sym at)
    ∙ found_first (l ++ (e ∷ [])) 0 (length l) up (omega (arith, length-append l (e ∷ [])))
    ∙ ap (λ (x : Edition). some x.route) at

found-others : (l : List Edition) (e : Edition) (n : ℕ) → (n ≡ e.number → ⊥) → route_of n (l ++ (e ∷ [])) ≡ route_of n l
unfolding route_of
found-others [] e n differ = sym (cond_no _ _ refl (ne_eqb e.number n (λ p. differ (sym p))))
found-others (x ∷ l) e n differ =
    ap (λ (r : Option Route). cond (eqb x.number n) (some x.route) r) (found-others l e n differ)

-- ---- a shelf with one edition more

module _ (s : Shelf) (n : ℕ) (r : Route) (eight : Eight s) (room : s.len < 8) where
  abbrev new : Edition
  new = record { number = n; route = r }

  editions-more : editions_of (with_edition s n r) ≡ editions_of s ++ (new ∷ [])
  unfolding with_edition
  editions-more =
      ap (λ (m : ℕ). take m (set s.editions s.len new)) (add-one s.len)
      ∙ take-suc-set s.editions s.len new (omega (arith, eight))

  rises-more : rise 0 (numbers_in (editions_of s)) ≡ true → number_fits (last_of 0 (numbers_in (editions_of s))) n ≡ true
      → rise 0 (numbers_in (editions_of (with_edition s n r))) ≡ true
  rises-more up fits =
      ap (λ (l : List Edition). rise 0 (numbers_in l)) editions-more
      ∙ ap (rise 0) (numbers-append (editions_of s) new)
      ∙ rise-more (numbers_in (editions_of s)) 0 n up fits

  few-more : leb (with_edition s n r).len 8 ≡ true
  unfolding with_edition
  few-more = le-leb (s.len + 1) 8 (omega arith)

  good_more : good_shelf s ≡ true → number_fits (last_of 0 (numbers_in (editions_of s))) n ≡ true
      → good_shelf (with_edition s n r) ≡ true
  unfolding good_shelf
  good_more good fits = ap₂ (λ (t u : Bool). t && u) few-more (rises-more (both (leb s.len 8) _ good).1 fits)

drop-one : {A : Type 0} (k : ℕ) (x : A) → drop 1 (replicate k x) ≡ replicate (k - 1) x
drop-one zero x = refl
drop-one (suc k) x = let one : k ≡ suc k - 1 = omega arith in ap (λ (m : ℕ). replicate m x) one

blank-more : (s : Shelf) (n : ℕ) (r : Route) → UnusedBlank s → UnusedBlank (with_edition s n r)
unfolding with_edition
blank-more s n r blank =
    let less : 8 - s.len - 1 ≡ 8 - (s.len + 1) = omega arith in
    drop-set-lt (s.len + 1) s.editions s.len _ (omega arith)
    ∙ sym (drop-drop 1 s.len s.editions)
    ∙ ap (drop 1) blank
    ∙ drop-one (8 - s.len) no_edition
    ∙ ap (λ (m : ℕ). replicate m no_edition) less

-- ---- the empty shelf

pub empty-good : (good_shelf no_shelf ≡ true) × (Eight no_shelf × UnusedBlank no_shelf)
unfolding good_shelf numbers_in rise
empty-good = (refl, (refl, refl))

-- ---- what put leaves

module _ (s : Shelf) (n : ℕ) (r : Route) where
  -- a success, and what its rows say
  module _ (success : (stored s n r).number ≡ 0) where
    row_zero : (put_row s n r).number ≡ 0
    unfolding stored
    row_zero = success

    shelf-is : (stored s n r).shelf ≡ with_edition s n r
    unfolding stored
    shelf-is = cond-zero (put_row s n r).number _ _ row_zero

    passes : (good_shelf s ≡ true) × ((number_fits (last_of 0 (numbers_in (editions_of s))) n ≡ true) × (s.len < 8))
    unfolding put_row
    passes = shelf-passes s n (rows-passed (shelf_rows s n) _ (eq-eqb _ 0 row_zero)).0

    -- the route meets the rows of an old route
    pub put_meets : Meets r
    unfolding put_row
    put_meets = eqb-true _ 0 (rows-passed (shelf_rows s n) _ (eq-eqb _ 0 row_zero)).1

    module _ (eight : Eight s) where
      pub put-adds : editions_of (stored s n r).shelf ≡ editions_of s ++ (record { number = n; route = r } ∷ [])
      put-adds = ap editions_of shelf-is ∙ editions-more s n r eight passes.1.1

      good-after : good_shelf (stored s n r).shelf ≡ true
      good-after = ap good_shelf shelf-is ∙ good_more s n r eight passes.1.1 passes.0 passes.1.0

      rises-after : rise 0 (numbers_in (editions_of (stored s n r).shelf)) ≡ true
      unfolding good_shelf
      rises-after = (both (leb (stored s n r).shelf.len 8) _ good-after).1

      -- the new one is found by its number, and every other as before
      pub put-finds : route_of n (editions_of (stored s n r).shelf) ≡ some r
      put-finds =
          ap (route_of n) put-adds
          ∙ found-last (editions_of s) (record { number = n; route = r })
          (ap (λ (l : List Edition). rise 0 (numbers_in l)) (sym put-adds) ∙ rises-after)

      others-after : (m : ℕ) → (m ≡ n → ⊥) → route_of m (editions_of (stored s n r).shelf) ≡ route_of m (editions_of s)
      others-after m differ =
          ap (route_of m) put-adds ∙ found-others (editions_of s) (record { number = n; route = r }) m differ

  pub put-refuses : ((stored s n r).number ≡ 0 → ⊥) → (stored s n r).shelf ≡ s
  unfolding stored
  put-refuses fails = sym (cond_no _ _ refl (ne_eqb (put_row s n r).number 0 fails))

  pub put_keeps : Eight s → (m : ℕ) → (m ≡ n → ⊥)
      → route_of m (editions_of (stored s n r).shelf) ≡ route_of m (editions_of s)
  put_keeps eight m differ =
      either (stored s n r).number 0 (λ e. others-after e eight m differ)
      (λ f. ap (λ (x : Shelf). route_of m (editions_of x)) (put-refuses f))

  -- it stores exactly where no row refuses
  pub put-stores : ((stored s n r).number ≡ 0)
      ↔ ((good_shelf s ≡ true) × (((last_number s < n) × (n ≤ 65535)) × ((s.len < 8) × Meets r)))
  unfolding stored put_row shelf_rows number_fits
  put-stores = (
    λ e. let p = passes e in
        let (above, low) = both (ltb (last_number s) n) (leb n 65535) p.1.0 in
        (p.0, ((ltb-true _ _ above, leb-true _ _ low), (p.1.1, put_meets e))),
    λ p. ap (λ (o : Outcome). o.number)
        (row-passes (good_shelf s) 21 1 _ p.0
        ∙ row-passes (number_fits (last_number s) n) 20 0 _
        (ap₂ (λ (t u : Bool). t && u) (lt-ltb (last_number s) n p.1.0.0) (le-leb n 65535 p.1.0.1))
        ∙ row-passes (ltb s.len 8) 21 0 _ (lt-ltb s.len 8 p.1.1.0))
        ∙ p.1.1.1,
  )

  -- a bad shelf
  pub put-bad : good_shelf s ≡ false → stored s n r ≡ record { number = 21; second = 1; shelf = s }
  unfolding stored put_row shelf_rows
  put-bad off =
      let row = row-refuses (good_shelf s) 21 1 _ off refl in
      λ i. record {
        number = (row i).number;
        second = (row i).second;
        shelf = cond (eqb (row i).number 0) (with_edition s n r) s;
      }

  -- a good shelf stays good, and its unused entries stay 0
  pub put-good : Eight s → good_shelf s ≡ true → good_shelf (stored s n r).shelf ≡ true
  put-good eight good =
      either (stored s n r).number 0 (λ e. good-after e eight) (λ f. ap good_shelf (put-refuses f) ∙ good)

  pub put-eight : Eight s → Eight (stored s n r).shelf
  unfolding with_edition
  put-eight eight =
      either (stored s n r).number 0
      (λ e. ap (λ (x : Shelf). length x.editions) (shelf-is e) ∙ length-set s.editions s.len _ ∙ eight)
      (λ f. ap (λ (x : Shelf). length x.editions) (put-refuses f) ∙ eight)

  pub put-blank : UnusedBlank s → UnusedBlank (stored s n r).shelf
  put-blank blank =
      either (stored s n r).number 0
      (λ e. subst UnusedBlank (sym (shelf-is e)) (blank-more s n r blank))
      (λ f. subst UnusedBlank (sym (put-refuses f)) blank)

-- each edition of a good shelf is found by its number
pub edition-found : (s : Shelf) → good_shelf s ≡ true → (i : ℕ) → i < length (editions_of s)
    → route_of (get_or (editions_of s) i no_edition).number (editions_of s) ≡ some (get_or (editions_of s) i no_edition).route
unfolding good_shelf
edition-found s good i h = found_first (editions_of s) 0 i (both (leb s.len 8) _ good).1 h
