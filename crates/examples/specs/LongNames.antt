-- 02, "Longer step names", as a table: example A with another name or number. `set l k s` is l with s for its line k.
use Rattle.std.specs.Prelude.{List, [], ◌∷◌, ℕ, set}
use Prim.Native.String.{String}
use Rattle.examples.specs.Table.{Example, A, old_a, new_a, done_a}

-- A with another done line, or another line of its old route, and a listing of one line
abbrev pub other_done : ℕ → String → String → Example
other_done k done line = record { old = old_a; new = new_a; done = set done_a k done; listing = line ∷ [] }

abbrev pub other_old : ℕ → String → String → Example
other_old k old line = record { old = set old_a k old; new = new_a; done = done_a; listing = line ∷ [] }

-- A with another name for its step 30
abbrev pub renamed : String → String → Example
renamed s d = record { old = set old_a 4 s; new = set new_a 4 s; done = set done_a 2 d; listing = A.listing }

abbrev pub long_names : List Example
long_names =
    -- "`(done 65536)` is then a plain name", and so is the greatest
    renamed "(step 65536 (in 2) (out 3) (read 0 1) (write 2))" "(done 65536)"
    ∷ renamed "(step 4294967295 (in 2) (out 3) (read 0 1) (write 2))" "(done 4294967295)"
    ∷ other_done 0 "(done 65546)" "(refused 8 12)"
    -- "A name may be 1 to 4,294,967,295": one that ends with the bits of 10 is none
    ∷ other_done 0 "(done 4294967306)" "(refused 2 12)"
    ∷ other_done 2 "(done 4294967296)" "(refused 2 14)"
    ∷ other_done 2 "(done 9999999999)" "(refused 2 14)"
    -- "every number up to ten digits long": of a place count, a place and a variable too
    ∷ other_old 0 "(old 9999999999)" "(refused 2 1)"
    ∷ other_old 4 "(step 30 (in 9999999999) (out 3) (read 0 1) (write 2))" "(refused 2 5)"
    ∷ other_old 4 "(step 30 (in 2) (out 3) (read 0 1) (write 9999999999))" "(refused 2 5)"
    -- "Eleven digits break the layout", at the eleventh
    ∷ other_done 2 "(done 10000000000)" "(refused 1 338)"
    ∷ other_old 0 "(old 10000000000)" "(refused 1 15)"
    ∷ []
