-- 02, "Branches taken", as a table. Step 10 chooses the cloth; 20 is the shrink test, which writes nothing; then the
-- sail goes down the racing branch, 410, or the cruising branch, 420; 30 weighs the cloth. `set l k s` is l with s for
-- its line k.
use Rattle.std.specs.Prelude.{List, [], ◌∷◌, ◌++◌, set, take, drop}
use Prim.Native.String.{String}
use Rattle.examples.specs.Table.{Example}

abbrev pub old_racing : List String
old_racing =
    "(old 5)"
    ∷ "(start 0)"
    ∷ "(step 10 (in 0) (out 1) (read) (write 0))"
    ∷ "(step 20 (in 1) (out 2) (read 0) (write))"
    ∷ "(step 410 (in 2) (out 3) (read 0) (write 2))"
    ∷ "(step 30 (in 3) (out 4) (read 0) (write 7))"
    ∷ "(step 420 (in 2) (out 3) (read 0) (write 2))"
    ∷ []

-- the new route that weighs before the test, and the one that doesn't test
abbrev pub tested : List String
tested =
    "(new 5)"
    ∷ "(start 0)"
    ∷ "(step 10 (in 0) (out 1) (read) (write 0))"
    ∷ "(step 30 (in 1) (out 2) (read 0) (write 7))"
    ∷ "(step 20 (in 2) (out 3) (read 0) (write))"
    ∷ "(step 410 (in 3) (out 4) (read 0) (write 2))"
    ∷ "(step 420 (in 3) (out 4) (read 0) (write 2))"
    ∷ []

abbrev pub untested : List String
untested =
    "(new 4)"
    ∷ "(start 0)"
    ∷ "(step 10 (in 0) (out 1) (read) (write 0))"
    ∷ "(step 410 (in 1) (out 2) (read 0) (write 2))"
    ∷ "(step 30 (in 2) (out 3) (read 0) (write 7))"
    ∷ "(step 420 (in 1) (out 2) (read 0) (write 2))"
    ∷ []

abbrev pub done_racing : List String
done_racing = "(done 10)" ∷ "(done 20)" ∷ "(done 410)" ∷ "(done 30)" ∷ []

-- ---- "it needs the occurrence that put the token there, and comes after it"

abbrev pub all_kept : String → List String
all_kept order =
    "(moved (kept 4) (dropped 0))"
    ∷ "(after 2 1)"
    ∷ "(after 3 1 2)"
    ∷ "(after 4 1)"
    ∷ order
    ∷ "(marking 4)"
    ∷ "(value 0 1)"
    ∷ "(value 2 3)"
    ∷ "(value 7 4)"
    ∷ []

-- the test is kept though it writes nothing, and the branch comes after it
abbrev pub racing : Example
racing = record { old = old_racing; new = tested; done = done_racing; listing = all_kept "(order 1 4 2 3)" }

-- "a sail sent down the racing branch after its shrink test was moved without that test": it stays
abbrev pub without_test : Example
without_test = record { old = old_racing; new = untested; done = done_racing; listing = "(refused 11 16)" ∷ [] }

-- neither branch is taken yet: nothing needs the test
abbrev pub before_branch : Example
before_branch =
    record {
      old = old_racing;
      new = untested;
      done = take 2 done_racing;
      listing = "(moved (kept 1) (dropped 1))" ∷ "(order 1)" ∷ "(marking 1)" ∷ "(value 0 1)" ∷ [];
    }

-- "straight replay is unaltered": the whole list in its own order, with the pair in its `after` line
abbrev pub in_place : Example
in_place = record {
  old = old_racing;
  new = set old_racing 0 "(new 5)";
  done = done_racing;
  listing = all_kept "(order 1 2 3 4)";
}

-- ---- "a place that two or more steps of the old route take from"

-- one step takes from place 2 of the old route, and two from place 1 of the new one: the test is dropped
abbrev pub one_takes : Example
one_takes =
    record {
      old = take 6 old_racing;
      new = untested;
      done = done_racing;
      listing =
          "(moved (kept 3) (dropped 1))"
          ∷ "(after 3 1)"
          ∷ "(after 4 1)"
          ∷ "(order 1 3 4)"
          ∷ "(marking 3)"
          ∷ "(value 0 1)"
          ∷ "(value 2 3)"
          ∷ "(value 7 4)"
          ∷ [];
    }

-- and with one taker in the new route, the old one's two count, though 420 was never done
abbrev pub two_take : Example
two_take = record { old = old_racing; new = take 5 untested; done = done_racing; listing = "(refused 11 15)" ∷ [] }

-- ---- "A step with a place both in and out counts as taking from it, but the place's putter stays the earlier one"

-- 25 photographs the test: it takes the token, and leaves it the test's. So the branch comes after the test, and not
-- after the photograph, which is taken last on the new route
abbrev pub old_looked : List String
old_looked = take 4 old_racing ++ ("(step 25 (in 2) (out 2) (read 0) (write 8))" ∷ drop 4 old_racing)

abbrev pub looked : Example
looked =
    record {
      old = old_looked;
      new =
          "(new 5)"
          ∷ "(start 0)"
          ∷ "(step 10 (in 0) (out 1) (read) (write 0))"
          ∷ "(step 20 (in 1) (out 2) (read 0) (write))"
          ∷ "(step 410 (in 2) (out 3) (read 0) (write 2))"
          ∷ "(step 25 (in 3) (out 4) (read 0) (write 8))"
          ∷ [];
      done = "(done 10)" ∷ "(done 20)" ∷ "(done 25)" ∷ "(done 410)" ∷ [];
      listing =
          "(moved (kept 4) (dropped 0))"
          ∷ "(after 2 1)"
          ∷ "(after 3 1 2)"
          ∷ "(after 4 1 2)"
          ∷ "(order 1 2 4 3)"
          ∷ "(marking 4)"
          ∷ "(value 0 1)"
          ∷ "(value 2 4)"
          ∷ "(value 8 3)"
          ∷ [];
    }

-- it counts as a step that takes: with the racing branch two do, without it one, and the test doesn't matter
abbrev pub untested_look : List String
untested_look =
    "(new 3)"
    ∷ "(start 0)"
    ∷ "(step 10 (in 0) (out 1) (read) (write 0))"
    ∷ "(step 25 (in 1) (out 2) (read 0) (write 8))"
    ∷ []

abbrev pub two_look : Example
two_look =
    record {
      old = set (take 6 old_looked) 0 "(old 4)";
      new = untested_look;
      done = take 3 looked.done;
      listing = "(refused 11 13)" ∷ [];
    }

abbrev pub one_looks : Example
one_looks =
    record {
      old = set (take 5 old_looked) 0 "(old 3)";
      new = untested_look;
      done = take 3 looked.done;
      listing =
          "(moved (kept 2) (dropped 1))"
          ∷ "(after 3 1)"
          ∷ "(order 1 3)"
          ∷ "(marking 2)"
          ∷ "(value 0 1)"
          ∷ "(value 8 3)"
          ∷ [];
    }

-- ---- "start tokens have none", and the last putter alone

-- 410 took the token of the start: it comes after none, and 420 after the test that put the next one
abbrev pub from_the_start : Example
from_the_start =
    record {
      old =
          "(old 3)"
          ∷ "(start 1)"
          ∷ "(step 20 (in 0) (out 1) (read) (write))"
          ∷ "(step 410 (in 1) (out 0) (read) (write 1))"
          ∷ "(step 420 (in 1) (out 2) (read) (write 2))"
          ∷ [];
      new =
          "(new 4)"
          ∷ "(start 0)"
          ∷ "(step 20 (in 0) (out 1) (read) (write))"
          ∷ "(step 420 (in 1) (out 2) (read) (write 2))"
          ∷ "(step 410 (in 2) (out 3) (read) (write 1))"
          ∷ [];
      done = "(done 410)" ∷ "(done 20)" ∷ "(done 420)" ∷ [];
      listing =
          "(moved (kept 3) (dropped 0))"
          ∷ "(after 3 2)"
          ∷ "(order 2 3 1)"
          ∷ "(marking 3)"
          ∷ "(value 1 1)"
          ∷ "(value 2 3)"
          ∷ [];
    }

-- tested twice, since 30 led back to the test: the token that 40 took is the second test's, and the first is dropped
abbrev pub tested_twice : Example
tested_twice =
    record {
      old =
          "(old 4)"
          ∷ "(start 0)"
          ∷ "(step 10 (in 0) (out 1) (read) (write 0))"
          ∷ "(step 20 (in 1) (out 2) (read) (write))"
          ∷ "(step 30 (in 2) (out 1) (read) (write 1))"
          ∷ "(step 40 (in 2) (out 3) (read) (write 2))"
          ∷ [];
      new =
          "(new 4)"
          ∷ "(start 0)"
          ∷ "(step 10 (in 0) (out 1) (read) (write 0))"
          ∷ "(step 20 (in 1) (out 2) (read) (write))"
          ∷ "(step 40 (in 2) (out 3) (read) (write 2))"
          ∷ [];
      done = "(done 10)" ∷ "(done 20)" ∷ "(done 30)" ∷ "(done 20)" ∷ "(done 40)" ∷ [];
      listing =
          "(moved (kept 3) (dropped 2))"
          ∷ "(after 5 4)"
          ∷ "(order 1 4 5)"
          ∷ "(marking 3)"
          ∷ "(value 0 1)"
          ∷ "(value 2 5)"
          ∷ [];
    }

-- two silent rounds between two shared places before anything is written: each is needed for the token that the next
-- took, back to the first
abbrev pub all_the_way : Example
all_the_way = record {
  old = "(old 2)"
      ∷ "(start 0)"
      ∷ "(step 21 (in 0) (out 1) (read) (write))"
      ∷ "(step 22 (in 1) (out 0) (read) (write))"
      ∷ "(step 410 (in 0) (out 1) (read) (write 1))"
      ∷ "(step 420 (in 1) (out 0) (read) (write 2))"
      ∷ [];
  new = "(new 2)"
      ∷ "(start 0)"
      ∷ "(step 410 (in 0) (out 1) (read) (write 1))"
      ∷ "(step 420 (in 1) (out 0) (read) (write 2))"
      ∷ [];
  done = "(done 21)" ∷ "(done 22)" ∷ "(done 410)" ∷ [];
  listing = "(refused 11 12)" ∷ [];
}

-- ---- no other pair: two tests, and the branch that followed each, could have been done the other way round, but not
-- one branch after the other's test

abbrev pub two_tests : List String → List String → Example
two_tests new listing = record {
  old = "(old 5)"
      ∷ "(start 0 1)"
      ∷ "(step 20 (in 0) (out 2) (read) (write))"
      ∷ "(step 21 (in 1) (out 2) (read) (write))"
      ∷ "(step 410 (in 2) (out 3) (read) (write 1))"
      ∷ "(step 420 (in 2) (out 4) (read) (write 2))"
      ∷ [];
  new = "(new 5)" ∷ "(start 0)" ∷ new;
  done = "(done 20)" ∷ "(done 410)" ∷ "(done 21)" ∷ "(done 420)" ∷ [];
  listing = listing;
}

abbrev pub branches : List Example
branches =
    racing
    ∷ without_test
    ∷ before_branch
    ∷ in_place
    ∷ one_takes
    ∷ two_take
    ∷ looked
    ∷ two_look
    ∷ one_looks
    ∷ from_the_start
    ∷ tested_twice
    ∷ all_the_way
    ∷ two_tests
    ("(step 21 (in 0) (out 1) (read) (write))"
    ∷ "(step 420 (in 1) (out 2) (read) (write 2))"
    ∷ "(step 20 (in 2) (out 3) (read) (write))"
    ∷ "(step 410 (in 3) (out 4) (read) (write 1))"
    ∷ [])
    ("(moved (kept 4) (dropped 0))"
    ∷ "(after 2 1)"
    ∷ "(after 4 3)"
    ∷ "(order 3 4 1 2)"
    ∷ "(marking 4)"
    ∷ "(value 1 2)"
    ∷ "(value 2 4)"
    ∷ [])
    ∷ two_tests
    ("(step 21 (in 0) (out 1) (read) (write))"
    ∷ "(step 410 (in 1) (out 2) (read) (write 1))"
    ∷ "(step 20 (in 2) (out 3) (read) (write))"
    ∷ "(step 420 (in 3) (out 4) (read) (write 2))"
    ∷ [])
    ("(refused 13 13)" ∷ [])
    ∷ []
