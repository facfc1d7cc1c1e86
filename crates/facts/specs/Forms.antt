-- Rows 4, 2, 3 and 5 of a step as it is written, and its record; rows 2 and 3 of a start line.
use Rattle.std.specs.Prelude.{Bool, true, not, cond, ◌&&◌, List, [], ◌∷◌, ℕ, suc, eqb, ltb, leb, length}
use Rattle.std.specs.Int.Bits.{bit_or}
use Rattle.mask.specs.Mask.{bit}
use Rattle.refusal.specs.Rows.{unless, first}
use Rattle.route.specs.declared.Step.{Step}
use Rattle.refusal.specs.declared.Outcome.{Outcome}
use Rattle.version.specs.Limits.{name_fits}
use Rattle.name_set.specs.Among.{among}
use Rattle.version.specs.declared.Version.{Version}
use Rattle.layout.specs.Text.{Form}

-- every entry is below n
unfoldable pub all_below : ℕ → List ℕ → Bool
all_below n [] = true
all_below n (v ∷ l) = ltb v n && all_below n l

-- every entry is above the one before; the first is at least low
unfoldable pub rising : ℕ → List ℕ → Bool
rising low [] = true
rising low (v ∷ l) = leb low v && rising (suc v) l

-- 2: a number outside its range, or a place not below N
unfoldable pub form_fits : Version → ℕ → Form → Bool
form_fits v n f = name_fits v f.name && (all_below n f.ins
    && (all_below n f.outs && (all_below 32 f.reads && all_below 32 f.writes)))

-- 3: in or out empty, a list over 8, or an entry not above the one before
unfoldable pub list_fits : List ℕ → Bool
list_fits l = leb (length l) 8 && rising 0 l

unfoldable pub form_lists : Form → Bool
form_lists f =
    not (eqb (length f.ins) 0)
    && (not (eqb (length f.outs) 0) && (list_fits f.ins
    && (list_fits f.outs && (list_fits f.reads && list_fits f.writes))))

-- the rows of one step's line, given how many steps stand above it and their names
unfoldable pub form_row : Version → ℕ → ℕ → ℕ → List ℕ → Form → Outcome
form_row v line n above earlier f =
    first
    (unless (ltb above 64) 4 line
    ∷ unless (form_fits v n f) 2 line
    ∷ unless (form_lists f) 3 line
    ∷ unless (not (among f.name earlier)) 5 line
    ∷ [])

-- 02: "Row 2 applies to it, and row 3 where it doesn't rise": the rows of a start line. (An empty one is 7, in 7's
-- place, and a list that rises below 64 has at most 64.)
unfoldable pub start_row : ℕ → ℕ → List ℕ → Outcome
start_row line n l = first (unless (all_below n l) 2 line ∷ unless (rising 0 l) 3 line ∷ [])

-- the set of the entries below w, taken along from m
unfoldable pub masked : ℕ → ℕ → List ℕ → ℕ
masked w m [] = m
masked w m (v ∷ l) = masked w (bit_or m (cond (ltb v w) (bit v) 0)) l

-- "with the lists as bit masks, place p at bit p", and the mark
unfoldable pub record_of : Form → Step
record_of f = record {
  name = f.name;
  cloth = f.cloth;
  ins = masked 64 0 f.ins;
  outs = masked 64 0 f.outs;
  reads = masked 32 0 f.reads;
  writes = masked 32 0 f.writes;
}
