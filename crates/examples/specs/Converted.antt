-- 01's examples as 01 writes them, and what the converter between editions gives of them; and sheets that 01's layout
-- can't say.
use Rattle.std.specs.Prelude.{◌≡◌, List, [], ◌∷◌, ◌++◌, ℕ, set, take, drop}
use Prim.Native.String.{String}
use Rattle.refusal.specs.Rows.{pass, refuse}
use Rattle.converting.specs.Up.{up_row, up_text}
use Rattle.converting.specs.Down.{down_row}
use Rattle.examples.specs.Table.{Example, sheet, bytes, old_a, new_a, done_a, A, B, C, D, E, F, G, H, I, J, K, L}

-- 01's sheet: no start line behind a head
abbrev pub without_start : List String → List String
without_start l = take 1 l ++ drop 2 l

abbrev pub scope_sheet : Example → List String
scope_sheet e = without_start e.old ++ (without_start e.new ++ ("(job)" ∷ e.done))

-- up gives the sheet with its start lines, byte for byte
abbrev pub Raised : Example → Type 0
Raised e = (up_row (bytes (scope_sheet e)) ≡ pass) × (up_text (bytes (scope_sheet e)) ≡ bytes (sheet e))

abbrev pub AllRaised : List Example → Type 0
AllRaised [] = Unit
AllRaised (e ∷ l) = Raised e × AllRaised l

abbrev pub scope_letters : List Example
scope_letters = A ∷ B ∷ C ∷ D ∷ E ∷ F ∷ G ∷ H ∷ I ∷ J ∷ K ∷ []

-- "L, [..] `(refused 7 1)`": of both routes no place is an out-place of no step
abbrev pub LRefused : Type 0
LRefused = up_row (bytes (scope_sheet L)) ≡ refuse 7 1

-- ---- going down: the lines of a sheet, and the row that refuses it, at its line, or 0 and 0
pub record Lowering : Type 0 where
  pub old : List String
  pub new : List String
  pub done : List String
  pub number : ℕ
  pub second : ℕ

abbrev pub Lowered : Lowering → Type 0
Lowered e = down_row (bytes (e.old ++ (e.new ++ ("(job)" ∷ e.done)))) ≡ refuse e.number e.second

abbrev pub AllLowered : List Lowering → Type 0
AllLowered [] = Unit
AllLowered (e ∷ l) = Lowered e × AllLowered l

-- A with one line of a route, or of the done list, written otherwise
abbrev pub in_old : ℕ → String → ℕ → ℕ → Lowering
in_old k s n line = record { old = set old_a k s; new = new_a; done = done_a; number = n; second = line }

abbrev pub in_new : ℕ → String → ℕ → ℕ → Lowering
in_new k s n line = record { old = old_a; new = set new_a k s; done = done_a; number = n; second = line }

abbrev pub in_done : ℕ → String → ℕ → ℕ → Lowering
in_done k s n line = record { old = old_a; new = new_a; done = set done_a k s; number = n; second = line }

abbrev pub lowerings : List Lowering
lowerings =
    -- "a start other than the implied one"
    in_old 1 "(start 0 1)" 22 2
    ∷ in_new 1 "(start 1)" 22 7
    ∷ record { old = L.old; new = L.new; done = []; number = 22; second = 2 }
    -- "a cloth mark"
    ∷ in_old 3 "(step 20 (in 1) (out 2) (read) (write 1) (cloth))" 22 4
    -- "a name over 65,535"
    ∷ in_old 2 "(step 65536 (in 0) (out 1) (read) (write 0))" 22 3
    ∷ in_old 2 "(step 65535 (in 0) (out 1) (read) (write 0))" 0 0
    ∷ in_new 4 "(step 4294967295 (in 2) (out 3) (read 0 1) (write 2))" 22 10
    ∷ in_done 2 "(done 65536)" 22 14
    ∷ in_done 2 "(done 65535)" 0 0
    -- "at the first such line, after rows 1 to 7"
    ∷ record {
      old = old_a;
      new = set new_a 1 "(start 1)";
      done = set done_a 0 "(done 65536)";
      number = 22;
      second = 7;
    }
    ∷ record {
      old = set old_a 1 "(start 0 1)";
      new = set new_a 1 "(start)";
      done = done_a;
      number = 7;
      second = 7;
    }
    ∷ record {
      old = set old_a 1 "(start 0 1)";
      new = new_a;
      done = set done_a 2 "(done 0)";
      number = 2;
      second = 14;
    }
    ∷ []
