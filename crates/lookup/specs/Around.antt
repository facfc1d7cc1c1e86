-- Look-up from where we were: "Finding a name shall begin after the step found last, the first time or past the last
-- step at the top, and go round to the top."
use Rattle.std.specs.Prelude.{◌≡◌, cond, List, [], ◌∷◌, ◌++◌, ℕ, suc, ◌+◌, ◌<◌, eqb, length, get_or, take, drop}
use Rattle.std.specs.Prelude.{Option, Some, None, option_map}
use Rattle.std.specs.Option.{option_or}
use Rattle.lookup.specs.Position.{position}
use Rattle.lookup.specs.declared.Looked.{Looked}

-- the names in the order in which they are compared: those from the beginning to the last, then those above the
-- beginning. Past the last all stand above it, so that a look-up begins at the top
unfoldable pub around : ℕ → List ℕ → List ℕ
around from l = drop from l ++ take from l

-- "how many names it compared: those from its beginning to the step found, or all where there is none"
unfoldable pub compared : ℕ → List ℕ → ℕ
compared n [] = 0
compared n (x ∷ l) = suc (cond (eqb x n) 0 (compared n l))

-- where it stands: the first of that name from the beginning on, or else the first above it
unfoldable pub found_from : ℕ → ℕ → List ℕ → Option ℕ
found_from from n l = option_or (option_map (λ k. from + k) (position n (drop from l))) (position n (take from l))

-- the next look-up begins "after the step found last"; where none was found the beginning stays
unfoldable pub next_from : ℕ → Option ℕ → ℕ
next_from from (Some k) = suc k
next_from from None = from

-- the look-up of one name
unfoldable pub looked : ℕ → ℕ → List ℕ → Looked
looked from n l =
    record {
      found = found_from from n l;
      compared = compared n (around from l);
      next = next_from from (found_from from n l);
    }

-- how many names are compared when these are looked up in turn, each from where the last one was found
unfoldable pub compared_from : ℕ → List ℕ → List ℕ → ℕ
compared_from from l [] = 0
compared_from from l (n ∷ sought) = (looked from n l).compared + compared_from (looked from n l).next l sought

-- "the first time .. at the top"
abbrev pub compared_all : List ℕ → List ℕ → ℕ
compared_all l sought = compared_from 0 l sought

-- "Names are unique": no two positions have the same name
abbrev pub Unique : List ℕ → Type 0
Unique l = (i k : ℕ) → i < length l → k < length l → get_or l i 0 ≡ get_or l k 0 → i ≡ k
