-- The operation put: a route put on the shelf, or the first row that refuses it and the shelf as it came.
use Rattle.std.specs.Prelude.{cond, List, [], ◌∷◌, ◌++◌, ℕ, ◌+◌, eqb, ltb, set}
use Rattle.refusal.specs.Rows.{unless, first}
use Rattle.refusal.specs.declared.Outcome.{Outcome}
use Rattle.route.specs.Steps.{steps_of}
use Rattle.route.specs.declared.Route.{Route}
use Rattle.job.specs.Alone.{alone_rows}
use Rattle.shelf.specs.Shelf.{good_shelf, number_fits, last_number}
use Rattle.shelf.specs.declared.Shelf.{Shelf}

-- "21 .. with 1 and just before .. 20", 20, and "21, shelf full, right after 20"
unfoldable pub shelf_rows : Shelf → ℕ → List Outcome
shelf_rows s n =
    unless (good_shelf s) 21 1
    ∷ unless (number_fits (last_number s) n) 20 0
    ∷ unless (ltb s.len 8) 21 0
    ∷ []

-- then "rows 4, 2, 3, 5, 6 and 7 as an old route does", and 23: "The shelf looks for it too"
unfoldable pub put_row : Shelf → ℕ → Route → Outcome
put_row s n r = first (shelf_rows s n ++ alone_rows r.places (steps_of r))

-- one edition more; all else stays
unfoldable pub with_edition : Shelf → ℕ → Route → Shelf
with_edition s n r =
    record { len = s.len + 1; editions = set s.editions s.len (record { number = n; route = r }) }

-- put's answer in numbers: 0, 0 and the shelf with one edition more; or a refusal's two and the shelf as it came
pub record Stored : Type 0 where
  pub number : ℕ
  pub second : ℕ
  pub shelf : Shelf

-- a refusal's two numbers, and the shelf afterwards
abbrev pub stored_with : Outcome → Shelf → Stored
stored_with o s = record { number = o.number; second = o.second; shelf = s }

-- "a refusal hands any state back as it came"
unfoldable pub stored : Shelf → ℕ → Route → Stored
stored s n r =
    record {
      number = (put_row s n r).number;
      second = (put_row s n r).second;
      shelf = cond (eqb (put_row s n r).number 0) (with_edition s n r) s;
    }
