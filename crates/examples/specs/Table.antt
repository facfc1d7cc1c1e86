-- 01's examples A to L as a table: the lines of each sheet, with 02's start lines, and the lines of the listing that
-- print gives of it. The same texts are files in examples/letters. 02: "Lines in 01's examples move by one after the
-- first start line and by two after the second; L is accepted with `(start 0)`."
use Rattle.std.specs.Prelude.{◌≡◌, List, [], ◌∷◌, ◌++◌, ℕ, set}
use Prim.Native.Char.{code}
use Prim.Native.String.{String, [] as nothing, ◌∷◌ as ◌then◌}
use Rattle.ops.specs.Print.{listing_of}

-- the bytes of a text. (Every sign in the table is one byte, its code.)
unfoldable pub codes : String → List ℕ
codes nothing = []
codes (c then s) = code c ∷ codes s

-- "each line ended by LF (byte 10), the last too"
unfoldable pub bytes : List String → List ℕ
bytes [] = []
bytes (s ∷ l) = codes s ++ (10 ∷ bytes l)

-- the lines of both routes, the done lines, the lines of the listing
pub record Example : Type 0 where
  pub old : List String
  pub new : List String
  pub done : List String
  pub listing : List String

-- "`(old N)`, its steps, `(new N)`, its steps, `(job)`, then `(done NAME)` lines"; a start line follows each head
abbrev pub sheet : Example → List String
sheet e = e.old ++ (e.new ++ ("(job)" ∷ e.done))

-- print gives the listing of the sheet, byte for byte
abbrev pub Prints : Example → Type 0
Prints e = listing_of (bytes (sheet e)) ≡ bytes e.listing

-- every example of a list does so
abbrev pub AllPrint : List Example → Type 0
AllPrint [] = Unit
AllPrint (e ∷ l) = Prints e × AllPrint l

-- ---- A to I: "a list not spoken of is as in A". `set l k s` is l with s for its line k, counted from 0: a route's
-- head is line 0, its start line 1, its first step line 2

abbrev pub old_a : List String
old_a =
    "(old 4)"
    ∷ "(start 0)"
    ∷ "(step 10 (in 0) (out 1) (read) (write 0))"
    ∷ "(step 20 (in 1) (out 2) (read) (write 1))"
    ∷ "(step 30 (in 2) (out 3) (read 0 1) (write 2))"
    ∷ []

abbrev pub new_a : List String
new_a =
    "(new 4)"
    ∷ "(start 0)"
    ∷ "(step 20 (in 0) (out 1) (read) (write 1))"
    ∷ "(step 10 (in 1) (out 2) (read) (write 0))"
    ∷ "(step 30 (in 2) (out 3) (read 0 1) (write 2))"
    ∷ []

abbrev pub done_a : List String
done_a = "(done 10)" ∷ "(done 20)" ∷ "(done 30)" ∷ []

-- "A, the sheet above"
abbrev pub A : Example
A =
    record {
      old = old_a;
      new = new_a;
      done = done_a;
      listing =
          "(moved (kept 3) (dropped 0))"
          ∷ "(after 3 1 2)"
          ∷ "(order 2 1 3)"
          ∷ "(marking 3)"
          ∷ "(value 0 1)"
          ∷ "(value 1 2)"
          ∷ "(value 2 3)"
          ∷ [];
    }

-- "B, no done lines: order empty, marking 0."
abbrev pub B : Example
B = record {
  old = old_a;
  new = new_a;
  done = [];
  listing = "(moved (kept 0) (dropped 0))" ∷ "(order)" ∷ "(marking 0)"
      ∷ [];
}

-- "C, only 10 done: `(refused 13 9)`", two lines on
abbrev pub C : Example
C = record { old = old_a; new = new_a; done = "(done 10)" ∷ []; listing = "(refused 13 11)" ∷ [] }

-- "D, 20 reads 0 in both routes, 10 and 20 done: `(refused 13 9)`", two lines on
abbrev pub D : Example
D =
    record {
      old = set old_a 3 "(step 20 (in 1) (out 2) (read 0) (write 1))";
      new = set new_a 2 "(step 20 (in 0) (out 1) (read 0) (write 1))";
      done = "(done 10)" ∷ "(done 20)" ∷ [];
      listing = "(refused 13 11)" ∷ [];
    }

-- "E, `(new 3)` without 10, 20 from 0 to 1, 30 from 1 to 2 reading 0 1; 10 and 20 done". 02: "Example E then gives the
-- new number at the line of step 30."
abbrev pub new_e : List String
new_e =
    "(new 3)"
    ∷ "(start 0)"
    ∷ "(step 20 (in 0) (out 1) (read) (write 1))"
    ∷ "(step 30 (in 1) (out 2) (read 0 1) (write 2))"
    ∷ []

abbrev pub E : Example
E = record { old = old_a; new = new_e; done = "(done 10)" ∷ "(done 20)" ∷ []; listing = "(refused 23 9)" ∷ [] }

-- "F, as E but 30 reads 1 only: kept 1, dropped 1, order 2, marking 1, value 1 2."
abbrev pub F : Example
F =
    record {
      old = E.old;
      new = set new_e 3 "(step 30 (in 1) (out 2) (read 1) (write 2))";
      done = E.done;
      listing = "(moved (kept 1) (dropped 1))" ∷ "(order 2)" ∷ "(marking 1)" ∷ "(value 1 2)" ∷ [];
    }

-- "G, new 10 writes 0 3, 10 done: `(refused 12 10)`", two lines on
abbrev pub G : Example
G =
    record {
      old = old_a;
      new = set new_a 3 "(step 10 (in 1) (out 2) (read) (write 0 3))";
      done = "(done 10)" ∷ [];
      listing = "(refused 12 12)" ∷ [];
    }

-- "H, first done 40: `(refused 8 10)`", two lines on. The rest of the done list is as in A, here and in I
abbrev pub H : Example
H = record { old = old_a; new = new_a; done = set done_a 0 "(done 40)"; listing = "(refused 8 12)" ∷ [] }

-- "I, first done 30: `(refused 9 10)`", two lines on
abbrev pub I : Example
I = record { old = old_a; new = new_a; done = set done_a 0 "(done 30)"; listing = "(refused 9 12)" ∷ [] }

-- ---- J to L: a list not spoken of is empty

-- "J, both routes 3 places, 10 from 0 to 2, 20 from 1 to 2, both done: `(refused 9 9)`", two lines on; both
-- routes start on 0 and 1
abbrev pub below_j : List String
below_j = "(start 0 1)" ∷ "(step 10 (in 0) (out 2) (read) (write))" ∷ "(step 20 (in 1) (out 2) (read) (write))" ∷ []

abbrev pub J : Example
J = record {
  old = "(old 3)" ∷ below_j;
  new = "(new 3)" ∷ below_j;
  done = "(done 10)" ∷ "(done 20)" ∷ [];
  listing = "(refused 9 11)" ∷ [];
}

-- "K, both routes 2 places, 10 from 0 to 1, 20 from 1 to 1 writing 0; done 10 20 20: after 3 2, order 1 2 3, marking 1,
-- value 0 3."
abbrev pub below_k : List String
below_k = "(start 0)" ∷ "(step 10 (in 0) (out 1) (read) (write))" ∷ "(step 20 (in 1) (out 1) (read) (write 0))" ∷ []

abbrev pub K : Example
K =
    record {
      old = "(old 2)" ∷ below_k;
      new = "(new 2)" ∷ below_k;
      done = "(done 10)" ∷ "(done 20)" ∷ "(done 20)" ∷ [];
      listing =
          "(moved (kept 3) (dropped 0))"
          ∷ "(after 3 2)"
          ∷ "(order 1 2 3)"
          ∷ "(marking 1)"
          ∷ "(value 0 3)"
          ∷ [];
    }

-- "L, both routes 2 places, 10 from 0 to 0 and 1, nothing done", "accepted with `(start 0)`"
abbrev pub below_l : List String
below_l = "(start 0)" ∷ "(step 10 (in 0) (out 0 1) (read) (write))" ∷ []

abbrev pub L : Example
L = record {
  old = "(old 2)" ∷ below_l;
  new = "(new 2)" ∷ below_l;
  done = [];
  listing = "(moved (kept 0) (dropped 0))" ∷ "(order)" ∷ "(marking 0)" ∷ [];
}

abbrev pub table : List Example
table = A ∷ B ∷ C ∷ D ∷ E ∷ F ∷ G ∷ H ∷ I ∷ J ∷ K ∷ L ∷ []
