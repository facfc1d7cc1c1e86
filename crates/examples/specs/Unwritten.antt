-- 02, "A reading that nobody writes", as a table: A with other lines. `set l k s` is l with s for its line k. A route's
-- steps are its lines 2 to 4, counted from 0; in the sheet they are on the lines 3 to 5 and 8 to 10, counted from 1.
use Rattle.std.specs.Prelude.{List, [], ◌∷◌, ◌++◌, set}
use Prim.Native.String.{String}
use Rattle.examples.specs.Table.{Example, old_a, new_a, done_a}
use Rattle.examples.specs.Starts.{other_routes}

-- step 30 of the old route, and of the new one, reads 12 where it should read 1
abbrev pub old_mistyped : List String
old_mistyped = set old_a 4 "(step 30 (in 2) (out 3) (read 0 12) (write 2))"

abbrev pub new_mistyped : List String
new_mistyped = set new_a 4 "(step 30 (in 2) (out 3) (read 0 12) (write 2))"

-- step 10 reads what it writes itself, and what the step after it writes: neither is refused
abbrev pub written_late : Example
written_late =
    record {
      old = set old_a 2 "(step 10 (in 0) (out 1) (read 0 1) (write 0))";
      new = "(new 4)"
          ∷ "(start 0)"
          ∷ "(step 10 (in 0) (out 1) (read 0 1) (write 0))"
          ∷ "(step 20 (in 1) (out 2) (read) (write 1))"
          ∷ "(step 30 (in 2) (out 3) (read) (write 2))"
          ∷ [];
      done = "(done 10)" ∷ [];
      listing = "(moved (kept 1) (dropped 0))" ∷ "(order 1)" ∷ "(marking 1)" ∷ "(value 0 1)" ∷ [];
    }

-- "a step that reads a variable which no step of that route writes": at its line, of two at the first one's, in either
-- route, whatever the other route writes
abbrev pub nobody_writes : List Example
nobody_writes =
    written_late
    ∷ other_routes old_mistyped new_a "(refused 23 5)"
    ∷ other_routes old_a new_mistyped "(refused 23 10)"
    ∷ other_routes old_mistyped new_mistyped "(refused 23 5)"
    ∷ other_routes (set old_mistyped 3 "(step 20 (in 1) (out 2) (read 31) (write 1))") new_a "(refused 23 4)"
    ∷ other_routes (set old_a 2 "(step 10 (in 0) (out 1) (read) (write 0 12))") new_mistyped "(refused 23 10)"
    ∷ other_routes old_mistyped (set new_a 3 "(step 10 (in 1) (out 2) (read) (write 0 12))") "(refused 23 5)"
    ∷ []

-- "after 7 of the same route, so the old route's comes before the new one's 6": after all lines, and before 8 and 9
abbrev pub in_its_place : List Example
in_its_place =
    other_routes (set old_mistyped 0 "(old 5)") new_a "(refused 6 1)"
    ∷ other_routes (set old_mistyped 1 "(start)") new_a "(refused 7 2)"
    ∷ other_routes old_mistyped (set new_a 0 "(new 5)") "(refused 23 5)"
    ∷ other_routes old_mistyped (set new_a 1 "(start)") "(refused 23 5)"
    ∷ other_routes old_a (set new_mistyped 0 "(new 5)") "(refused 6 6)"
    ∷ other_routes old_a (set new_mistyped 1 "(start)") "(refused 7 7)"
    ∷ record { old = old_mistyped; new = new_a; done = set done_a 2 "(done 0)"; listing = "(refused 2 14)" ∷ [] }
    ∷ record { old = old_a; new = new_mistyped; done = "(done 40)" ∷ []; listing = "(refused 23 10)" ∷ [] }
    ∷ record { old = old_a; new = new_mistyped; done = "(done 30)" ∷ []; listing = "(refused 23 10)" ∷ [] }
    ∷ []

abbrev pub unwritten : List Example
unwritten = nobody_writes ++ in_its_place
