-- The rows of put in turn: the shelf, the number, room for one more, the route.
use mathlib.Core.Path.{◌≡◌, refl, sym, ap, ◌∙◌}
use mathlib.Core.Bool.{Bool, true, false, not, cond, ◌&&◌}
use mathlib.Core.List.{List, []}
use Prim.Native.Nat.{ℕ, ◌≤◌, ◌<◌}
use borrow.Author.Tests.{not-true, not-false, ltb-true, lt-ltb, le-ltb}
use lib.Dec.{eqb, leb}
use lib.ListN.{length, take}
use Rattle.refusal.specs.Rows.{pass, refuse, first}
use Rattle.refusal.specs.declared.Outcome.{Outcome}
use Rattle.refusal.specs.Refusal.{number_of}
use Rattle.refusal.specs.declared.Refusal.{Refusal}
use Rattle.refusal.proofs.Answered.{number-some, err-rows, ok-rows}
use Rattle.refusal.proofs.Rows.{row-passes, row-refuses, rows_end, row-passed, rows-passed}
use Rattle.route.specs.Steps.{steps_of}
use Rattle.route.specs.declared.Route.{Route}
use Rattle.job.specs.Alone.{alone_rows}
use Rattle.mask.proofs.Truth.{cond_no}
use Rattle.shelf.specs.Shelf.{numbers_in, number_fits, rise, last_of, last_number, good_shelf}
use Rattle.shelf.specs.Put.{shelf_rows, put_row, with_edition, stored, stored_with}
use Rattle.shelf.specs.declared.Shelf.{Shelf}
use Rattle.shelf.proofs.GoodShelf.{numbers-are, good-no, good-yes}

-- a shelf, the numbers in its entries, and whether it is good
module _ (s : Shelf) (v : List ℕ) (are : v ≡ numbers_in s.editions) (full : length s.editions ≡ 8) (t : Bool)
    (test : t ≡ (leb s.len (length v) && rise 0 (take s.len v))) (n : ℕ) where
  pub shelf-bad : not t ≡ true → refuse 21 1 ≡ first (shelf_rows s n)
  unfolding shelf_rows
  shelf-bad off = sym (row-refuses (good_shelf s) 21 1 _ (good-no s v are full t test off) refl)

  module _ (on : not t ≡ false) (last : ℕ) (last-is : last ≡ last_of 0 (take s.len v)) (u : Bool)
      (fits : u ≡ number_fits last n) where
    fits-is : u ≡ number_fits (last_number s) n
    fits-is = fits ∙ ap (λ (k : ℕ). number_fits k n) (last-is ∙ ap (last_of 0) (numbers-are s v are full))

    good : good_shelf s ≡ true
    good = good-yes s v are full t test on

    pub number-bad : not u ≡ true → refuse 20 0 ≡ first (shelf_rows s n)
    unfolding shelf_rows
    number-bad off =
        sym (row-refuses (number_fits (last_number s) n) 20 0 _ (sym fits-is ∙ not-true u off) refl)
        ∙ sym (row-passes (good_shelf s) 21 1 _ good)

    module _ (ok : not u ≡ false) where
      number-good : number_fits (last_number s) n ≡ true
      number-good = sym fits-is ∙ not-false u ok

      pub shelf-full : 8 ≤ s.len → refuse 21 0 ≡ first (shelf_rows s n)
      unfolding shelf_rows
      shelf-full h =
          sym (row-refuses _ 21 0 [] (le-ltb s.len 8 h) refl)
          ∙ sym (row-passes (number_fits (last_number s) n) 20 0 _ number-good)
          ∙ sym (row-passes (good_shelf s) 21 1 _ good)

      pub shelf-room : s.len < 8 → pass ≡ first (shelf_rows s n)
      unfolding shelf_rows
      shelf-room h =
          sym rows_end
          ∙ sym (row-passes _ 21 0 [] (lt-ltb s.len 8 h))
          ∙ sym (row-passes (number_fits (last_number s) n) 20 0 _ number-good)
          ∙ sym (row-passes (good_shelf s) 21 1 _ good)

-- rows that pass: a good shelf, a number that may follow, and room
pub shelf-passes : (s : Shelf) (n : ℕ) → eqb (first (shelf_rows s n)).number 0 ≡ true
    → (good_shelf s ≡ true) × ((number_fits (last_number s) n ≡ true) × (s.len < 8))
unfolding shelf_rows
shelf-passes s n e =
    let (good, rest) = row-passed (good_shelf s) 21 1 _ refl e in
    let (fits, last) = row-passed (number_fits (last_number s) n) 20 0 _ refl rest in
    (good, (fits, ltb-true s.len 8 (row-passed _ 21 0 [] refl last).0))

-- the first rows are those of the shelf and the number
module _ (s : Shelf) (n : ℕ) (r : Route) where
  pub put-stops : (e : Refusal) → refuse (number_of e.row) e.second ≡ first (shelf_rows s n)
      → refuse (number_of e.row) e.second ≡ put_row s n r
  unfolding put_row
  put-stops e is = err-rows e (shelf_rows s n) is _

  pub put-goes-on : pass ≡ first (shelf_rows s n)
      → (p : Outcome) → p ≡ first (alone_rows r.places (steps_of r)) → p ≡ put_row s n r
  unfolding put_row
  put-goes-on is p rows = rows ∙ sym (ok-rows (shelf_rows s n) is _)

-- where all rows pass there is room
module _ (s : Shelf) (n : ℕ) (r : Route) where
  pub put_room : pass ≡ put_row s n r → s.len < 8
  unfolding put_row
  put_room is =
      (shelf-passes s n (rows-passed (shelf_rows s n) _ (ap (λ (x : Outcome). eqb x.number 0) (sym is))).0).1.1

  -- the answer, by whether they pass
  put-answers : (o : Outcome) → o ≡ put_row s n r → (b : Shelf) → b ≡ cond (eqb o.number 0) (with_edition s n r) s
      → stored_with o b ≡ stored s n r
  unfolding stored
  put-answers o is b more =
      let shelf-is : b ≡ cond (eqb (put_row s n r).number 0) (with_edition s n r) s =
      more ∙ ap (λ (x : Outcome). cond (eqb x.number 0) (with_edition s n r) s) is in
      λ i. record { number = (is i).number; second = (is i).second; shelf = shelf-is i }

  pub put_stored : pass ≡ put_row s n r → (b : Shelf) → b ≡ with_edition s n r → stored_with pass b ≡ stored s n r
  put_stored = put-answers pass

  pub put_refused : (e : Refusal) → refuse (number_of e.row) e.second ≡ put_row s n r
      → stored_with (refuse (number_of e.row) e.second) s ≡ stored s n r
  put_refused e is = put-answers _ is s (cond_no _ _ refl (number-some e.row))
