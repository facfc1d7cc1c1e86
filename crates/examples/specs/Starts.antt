-- 02, "Start places written down", as a table. `set l k s` is l with s for its line k.
use Rattle.std.specs.Prelude.{List, [], ◌∷◌, ◌++◌, ℕ, set}
use Prim.Native.String.{String}
use Rattle.examples.specs.Table.{Example, old_a, new_a, done_a}
use Rattle.examples.specs.LongNames.{other_old}

-- ---- "Routes that loop back to their first place": step 10 spreads the cloth, 20 marks it, 30 cuts it and frees the
-- table again. The job has gone round twice

abbrev pub old_round : List String
old_round =
    "(old 3)"
    ∷ "(start 0)"
    ∷ "(step 10 (in 0) (out 1) (read) (write 0))"
    ∷ "(step 20 (in 1) (out 2) (read 0) (write 1))"
    ∷ "(step 30 (in 2) (out 0) (read 1) (write 2))"
    ∷ []

abbrev pub twice : List String
twice = "(done 10)" ∷ "(done 20)" ∷ "(done 30)" ∷ "(done 10)" ∷ "(done 20)" ∷ "(done 30)" ∷ []

-- the new route loops too, and starts on another place: all six steps could have been done on it as they were
abbrev pub round_again : Example
round_again =
    record {
      old = old_round;
      new =
          "(new 3)"
          ∷ "(start 2)"
          ∷ "(step 10 (in 2) (out 0) (read) (write 0))"
          ∷ "(step 20 (in 0) (out 1) (read 0) (write 1))"
          ∷ "(step 30 (in 1) (out 2) (read 1) (write 2))"
          ∷ [];
      done = twice;
      listing =
          "(moved (kept 6) (dropped 0))"
          ∷ "(after 2 1)"
          ∷ "(after 3 2)"
          ∷ "(after 4 1 2)"
          ∷ "(after 5 1 2 3 4)"
          ∷ "(after 6 2 3 5)"
          ∷ "(order 1 2 3 4 5 6)"
          ∷ "(marking 2)"
          ∷ "(value 0 4)"
          ∷ "(value 1 5)"
          ∷ "(value 2 6)"
          ∷ [];
    }

-- the new route has the table freed by a step of its own, 40, which was never done: the second round alone matters, and
-- could have been done from the start
abbrev pub last_round : Example
last_round =
    record {
      old = old_round;
      new =
          "(new 4)"
          ∷ "(start 0)"
          ∷ "(step 10 (in 0) (out 1) (read) (write 0))"
          ∷ "(step 20 (in 1) (out 2) (read 0) (write 1))"
          ∷ "(step 30 (in 2) (out 3) (read 1) (write 2))"
          ∷ "(step 40 (in 3) (out 0) (read) (write))"
          ∷ [];
      done = twice;
      listing =
          "(moved (kept 3) (dropped 3))"
          ∷ "(after 5 4)"
          ∷ "(after 6 5)"
          ∷ "(order 4 5 6)"
          ∷ "(marking 3)"
          ∷ "(value 0 4)"
          ∷ "(value 1 5)"
          ∷ "(value 2 6)"
          ∷ [];
    }

-- ---- A without start lines, and with other lines, and a listing of one line

-- A as it stands in 01: the `e` of its first step breaks off the word `start`
abbrev pub as_in01 : Example
as_in01 =
    record {
      old =
          "(old 4)"
          ∷ "(step 10 (in 0) (out 1) (read) (write 0))"
          ∷ "(step 20 (in 1) (out 2) (read) (write 1))"
          ∷ "(step 30 (in 2) (out 3) (read 0 1) (write 2))"
          ∷ [];
      new =
          "(new 4)"
          ∷ "(step 20 (in 0) (out 1) (read) (write 1))"
          ∷ "(step 10 (in 1) (out 2) (read) (write 0))"
          ∷ "(step 30 (in 2) (out 3) (read 0 1) (write 2))"
          ∷ [];
      done = done_a;
      listing = "(refused 1 11)" ∷ [];
    }

abbrev pub other_new : ℕ → String → String → Example
other_new k new line = record { old = old_a; new = set new_a k new; done = done_a; listing = line ∷ [] }

abbrev pub other_routes : List String → List String → String → Example
other_routes old new line = record { old = old; new = new; done = done_a; listing = line ∷ [] }

-- ---- a start of nine places, more than a step's list may have

abbrev pub below_nine : List String
below_nine =
    "(start 0 1 2 3 4 5 6 7 8)"
    ∷ "(step 10 (in 0 1 2 3 4 5 6 7) (out 9) (read) (write 0))"
    ∷ "(step 20 (in 8 9) (out 0) (read) (write))"
    ∷ []

abbrev pub nine : Example
nine =
    record {
      old = "(old 10)" ∷ below_nine;
      new = "(new 10)" ∷ below_nine;
      done = "(done 10)" ∷ [];
      listing = "(moved (kept 1) (dropped 0))" ∷ "(order 1)" ∷ "(marking 8 9)" ∷ "(value 0 1)" ∷ [];
    }

-- ---- the table, by what its sheets show

-- routes that loop, and "Replay begins from the written places": from place 1 on, 20 is the first step of the old route
abbrev pub rounds : List Example
rounds =
    round_again
    ∷ last_round
    ∷ nine
    ∷ record {
      old = set old_a 1 "(start 1)";
      new = new_a;
      done = "(done 20)" ∷ [];
      listing = "(moved (kept 1) (dropped 0))" ∷ "(order 1)" ∷ "(marking 1)" ∷ "(value 1 1)" ∷ [];
    }
    ∷ other_old 1 "(start 1)" "(refused 9 12)"
    ∷ []

-- the line must be there, behind each head
abbrev pub misplaced : List Example
misplaced =
    as_in01
    ∷ other_new 1 "(step 20 (in 0) (out 1) (read) (write 1))" "(refused 1 159)"
    ∷ other_old 2 "(start 0)" "(refused 1 21)"
    ∷ []

-- "Row 2 applies to it, and row 3 where it doesn't rise", in this order, and before those of the steps
abbrev pub wrong_places : List Example
wrong_places =
    other_old 1 "(start 0 4)" "(refused 2 2)"
    ∷ other_new 1 "(start 4294967296)" "(refused 2 7)"
    ∷ other_old 1 "(start 1 0)" "(refused 3 2)"
    ∷ other_new 1 "(start 0 0)" "(refused 3 7)"
    ∷ other_old 1 "(start 4 0)" "(refused 2 2)"
    ∷ other_routes (set (set old_a 1 "(start 1 0)") 2 "(step 0 (in) (out 1) (read) (write 0))") new_a "(refused 3 2)"
    ∷ []

-- "an empty one is 7 at its own line, in 7's place": after all lines, and between 6 of its route and of the new one,
-- and before 8 and 9
abbrev pub empty_starts : List Example
empty_starts =
    other_old 1 "(start)" "(refused 7 2)"
    ∷ other_new 1 "(start)" "(refused 7 7)"
    ∷ record { old = set old_a 1 "(start)"; new = new_a; done = "(done 0)" ∷ []; listing = "(refused 2 12)" ∷ [] }
    ∷ other_routes (set (set old_a 0 "(old 5)") 1 "(start)") new_a "(refused 6 1)"
    ∷ other_routes (set old_a 1 "(start)") (set new_a 0 "(new 5)") "(refused 7 2)"
    ∷ other_routes old_a (set (set new_a 0 "(new 5)") 1 "(start)") "(refused 6 6)"
    ∷ record { old = old_a; new = set new_a 1 "(start)"; done = "(done 40)" ∷ []; listing = "(refused 7 7)" ∷ [] }
    ∷ []

abbrev pub starts : List Example
starts = rounds ++ (misplaced ++ (wrong_places ++ empty_starts))
