-- 02, "Cloth that is cut stays cut", as a table. `set l k s` is l with s for its line k.
use Rattle.std.specs.Prelude.{List, [], ◌∷◌, ℕ, set}
use Prim.Native.String.{String}
use Rattle.examples.specs.Table.{Example}

-- ---- step 10 chooses the cloth, 20 cuts a panel of it and writes nothing, 30 weighs; the new route weighs first

abbrev pub old_panel : List String
old_panel =
    "(old 4)"
    ∷ "(start 0)"
    ∷ "(step 10 (in 0) (out 1) (read) (write 0))"
    ∷ "(step 20 (in 1) (out 2) (read 0) (write) (cloth))"
    ∷ "(step 30 (in 2) (out 3) (read) (write 1))"
    ∷ []

abbrev pub new_panel : List String
new_panel =
    "(new 4)"
    ∷ "(start 0)"
    ∷ "(step 10 (in 0) (out 1) (read) (write 0))"
    ∷ "(step 30 (in 1) (out 2) (read) (write 1))"
    ∷ "(step 20 (in 2) (out 3) (read 0) (write) (cloth))"
    ∷ []

abbrev pub done_panel : List String
done_panel = "(done 10)" ∷ "(done 20)" ∷ "(done 30)" ∷ []

-- "Every cloth occurrence of the old route is kept": the cut stands in the order, and behind the cloth that it reads
abbrev pub panel : Example
panel =
    record {
      old = old_panel;
      new = new_panel;
      done = done_panel;
      listing =
          "(moved (kept 3) (dropped 0))"
          ∷ "(after 2 1)"
          ∷ "(order 1 3 2)"
          ∷ "(marking 3)"
          ∷ "(value 0 1)"
          ∷ "(value 1 3)"
          ∷ [];
    }

-- unmarked, it "is dropped today, and the panel would be cut twice": the job stands before step 20 again
abbrev pub unmarked : Example
unmarked =
    record {
      old = set old_panel 3 "(step 20 (in 1) (out 2) (read 0) (write))";
      new = set new_panel 4 "(step 20 (in 2) (out 3) (read 0) (write))";
      done = done_panel;
      listing =
          "(moved (kept 2) (dropped 1))"
          ∷ "(order 1 3)"
          ∷ "(marking 2)"
          ∷ "(value 0 1)"
          ∷ "(value 1 3)"
          ∷ [];
    }

-- the panel's job with another line of either route, and a listing of one line
abbrev pub other_cut : ℕ → String → String → Example
other_cut k old line = record { old = set old_panel k old; new = new_panel; done = done_panel; listing = line ∷ [] }

abbrev pub new_cut : ℕ → String → String → Example
new_cut k new line = record { old = old_panel; new = set new_panel k new; done = done_panel; listing = line ∷ [] }

-- ---- two cuts that write nothing

abbrev pub two_cuts : List String → String → Example
two_cuts new line = record {
  old = "(old 3)"
      ∷ "(start 0)"
      ∷ "(step 10 (in 0) (out 1) (read) (write) (cloth))"
      ∷ "(step 20 (in 1) (out 2) (read) (write) (cloth))"
      ∷ [];
  new = "(new 3)" ∷ "(start 0)" ∷ new;
  done = "(done 10)" ∷ "(done 20)" ∷ [];
  listing = line ∷ [];
}

abbrev pub cuts : List Example
cuts =
    panel
    ∷ unmarked
    -- "of two cloth occurrences the later comes after the earlier": in the other order no list is fit
    ∷ two_cuts ("(step 20 (in 0) (out 1) (read) (write) (cloth))"
    ∷ "(step 10 (in 1) (out 2) (read) (write) (cloth))" ∷ []) "(refused 13 9)"
    -- "Refusal 12, and fit lists, straight or of kept occurrences, compare this mark too"
    ∷ new_cut 4 "(step 20 (in 2) (out 3) (read 0) (write))" "(refused 12 13)"
    ∷ record {
      old = unmarked.old;
      new = "(new 4)"
          ∷ "(start 0)"
          ∷ "(step 10 (in 0) (out 1) (read) (write 0))"
          ∷ "(step 20 (in 1) (out 2) (read 0) (write) (cloth))"
          ∷ "(step 30 (in 2) (out 3) (read) (write 1))"
          ∷ [];
      done = done_panel;
      listing = "(refused 13 11)" ∷ [];
    }
    -- "A step form may end with ` (cloth)` inside its bracket": at no other place, once, and whole
    ∷ other_cut 3 "(step 20 (in 1) (out 2) (read 0) (cloth) (write))" "(refused 1 94)"
    ∷ other_cut 3 "(step 20 (in 1) (out 2) (read 0) (write) (cloth) (cloth))" "(refused 1 108)"
    ∷ other_cut 3 "(step 20 (in 1) (out 2) (read 0) (write) (clot))" "(refused 1 106)"
    ∷ other_cut 3 "(step 20 (in 1) (out 2) (read 0) (write) )" "(refused 1 101)"
    ∷ []
