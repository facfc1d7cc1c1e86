-- What the readers of tokens tell, over the reading of a sheet from point to point.
use Rattle.std.specs.Prelude.{◌≡◌, Bool, true, false, cond, List, [], ◌∷◌, ℕ, ◌+◌, ◌*◌, ◌%◌, ◌^◌, ◌≤◌, ◌<◌, ltb, length, drop, get_or, Result, Ok, Err}
use Rattle.std.specs.Int.Bits.{bit_or}
use Rattle.mask.specs.Mask.{bit}
use Rattle.version.specs.declared.Version.{Version}
use Rattle.layout.specs.Text.{Lines}
use Rattle.layout.specs.Points.{alive, list_end, next}
use Rattle.layout.specs.Parse.{Line, Parsed, with_num, took, keep, at_end, run, parse}
use Rattle.layout.specs.inner.Entries.{with_entries}
use Rattle.layout.specs.declared.Word.{Word}
use Rattle.layout.specs.declared.Word.TheVariants.{Old, New, Job, Done, Step, In, Out, Read, Write, Cloth, Start}
use Rattle.layout.specs.declared.Part.{Part}
use Rattle.layout.specs.declared.Point.{Point}
use Rattle.layout.specs.declared.Point.TheVariants.{Past, Digit, Digits, Stuck}
use Rattle.tokens.specs.declared.Broken.{Broken}
use Rattle.tokens.specs.declared.Numeral.{Numeral}
use Rattle.tokens.specs.declared.Entries.{Entries}
use Rattle.tokens.specs.declared.Listed.{Listed}

-- reading has come to the byte i, at the point p, with the line c in hand and the lines t put away
pub record Reading (v : Version) (s : List ℕ) (i : ℕ) (p : Point) (c : Line) (t : Lines) : Type 0 where
  pub within : i ≤ length s
  pub same : parse v s ≡ run v p c t (drop i s)

-- no sheet goes on so from the byte i
pub record Breaks (v : Version) (s : List ℕ) (i : ℕ) : Type 0 where
  pub within : i ≤ length s
  pub same : parse v s ≡ Parsed.broken (drop i s)

-- ---- a fixed text

-- in a version the bytes w lead from a point to another, and at each point no other byte of s does
unfoldable pub Spells : Version → List ℕ → ℕ → Point → Line → Lines → List ℕ → Point → Line → Lines → Type 0
Spells v s i p c t [] q d u = (p ≡ q) × ((c ≡ d) × (t ≡ u))
Spells v s i p c t (b ∷ w) q d u =
    (alive (next v p b) ≡ true)
    × (((get_or s i 0 ≡ b → ⊥) → next v p (get_or s i 0) ≡ Stuck)
    × ((length s ≤ i → at_end p t ≡ Parsed.broken [])
    × (get_or s i 0 ≡ b → Spells v s (i + 1) (next v p b) (took p b c) (keep p c t) w q d u)))

-- past the text
pub record TextTo (s : List ℕ) (from : ℕ) (w : List ℕ) (at : ℕ) : Type 0 where
  pub past : from + length w ≤ at
  pub within : at ≤ length s
  pub goes : (v : Version) (p : Point) (c : Line) (t : Lines) (q : Point) (d : Line) (u : Lines)
      → Spells v s from p c t w q d u → Reading v s from p c t → Reading v s at q d u

-- at the first byte that is not the text's
pub record TextBreaks (s : List ℕ) (from : ℕ) (w : List ℕ) (at : ℕ) : Type 0 where
  pub later : from ≤ at
  pub within : at ≤ length s
  pub goes : (v : Version) (p : Point) (c : Line) (t : Lines) (q : Point) (d : Line) (u : Lines)
      → Spells v s from p c t w q d u → Reading v s from p c t → Breaks v s at

abbrev pub TextOn : List ℕ → ℕ → List ℕ → Result ℕ Broken → Type 0
TextOn s from w (Ok at) = TextTo s from w at
TextOn s from w (Err e) = TextBreaks s from w e.at

-- the first n bytes from there are those of the text
abbrev pub Agrees : List ℕ → ℕ → List ℕ → ℕ → Type 0
Agrees s from w n = (j : ℕ) → j < n → get_or s (from + j) 0 ≡ get_or w j 0

-- where the test holds, the text stands there
pub record Agreeing (s : List ℕ) (from : ℕ) (w : List ℕ) (x : Bool) : Type 0 where
  pub agrees : x ≡ true → Agrees s from w (length w)
  pub within : x ≡ true → from + length w ≤ length s

-- four bytes as one number
abbrev pub four : List ℕ → ℕ → ℕ
four s at = get_or s at 0 + get_or s (at + 1) 0 * 256 + get_or s (at + 2) 0 * 65536 + get_or s (at + 3) 0 * 16777216

-- ---- a number: past it, whatever its word, as where no digit may follow

pub record NumberTo (v : Version) (s : List ℕ) (from : ℕ) (n : Numeral) : Type 0 where
  pub later : from ≤ n.at
  pub within : n.at ≤ length s
  pub small : n.value < 10 ^ 10
  pub goes : (w : Word) (q : Part) (c : Line) (t : Lines) → Reading v s from (Digit w q) c t
      → Reading v s n.at (Digits w q 0) (with_num n.value c) t

pub record NumberBreaks (v : Version) (s : List ℕ) (from at : ℕ) : Type 0 where
  pub later : from ≤ at
  pub within : at ≤ length s
  pub goes : (w : Word) (q : Part) (c : Line) (t : Lines) → Reading v s from (Digit w q) c t → Breaks v s at

abbrev pub NumberOn : Version → List ℕ → ℕ → Result Numeral Broken → Type 0
NumberOn v s from (Ok n) = NumberTo v s from n
NumberOn v s from (Err e) = NumberBreaks v s from e.at

-- ---- a list

-- the five words that head a list
unfoldable pub list_word : Word → Bool
list_word Old = false
list_word New = false
list_word Job = false
list_word Done = false
list_word Step = false
list_word In = true
list_word Out = true
list_word Read = true
list_word Write = true
list_word Cloth = false
list_word Start = true

abbrev pub no_entries : Entries
no_entries = record { mask = 0; top = 0; count = 0; falls = false }

-- one more entry
unfoldable pub added : ℕ → Entries → Entries
added n e =
    record {
      mask = bit_or e.mask (bit (n % 64));
      top = cond (ltb n e.top) e.top (n + 1);
      count = e.count + 1;
      falls = cond (ltb n e.top) true e.falls;
    }

-- what is kept of a list, after what was kept before it
unfoldable pub along : Entries → List ℕ → Entries
along e [] = e
along e (n ∷ l) = along (added n e) l

pub record ListTo (v : Version) (s : List ℕ) (from : ℕ) (r : Listed) : Type 0 where
  pub later : from ≤ r.at
  pub within : r.at ≤ length s
  pub entries : List ℕ
  pub kept : r.entries ≡ along no_entries entries
  pub goes : (w : Word) (q : Part) (c : Line) (t : Lines) → list_word w ≡ true → Reading v s from (Past w q) c t
      → Reading v s r.at (list_end w q) (with_entries w entries c) t

pub record ListBreaks (v : Version) (s : List ℕ) (from at : ℕ) : Type 0 where
  pub later : from ≤ at
  pub within : at ≤ length s
  pub goes : (w : Word) (q : Part) (c : Line) (t : Lines) → list_word w ≡ true → Reading v s from (Past w q) c t
      → Breaks v s at

abbrev pub ListOn : Version → List ℕ → ℕ → Result Listed Broken → Type 0
ListOn v s from (Ok r) = ListTo v s from r
ListOn v s from (Err e) = ListBreaks v s from e.at
