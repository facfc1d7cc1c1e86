-- What the readers of a line tell, and its rows 2 and 3 on what is kept of its lists.
use Rattle.std.specs.Prelude.{◌≡◌, Bool, true, false, not, ◌&&◌, List, ℕ, ◌+◌, ◌≤◌, ◌<◌, eqb, leb, length, get_or, Result, Ok, Err}
use Rattle.version.specs.Limits.{name_fits}
use Rattle.version.specs.declared.Version.{Version}
use Rattle.layout.specs.Text.{Form, Lines}
use Rattle.layout.specs.Points.{list_end, past_line}
use Rattle.layout.specs.Parse.{Line, no_line, with_num, stored, form_of, put_step, put_start, put_line}
use Rattle.layout.specs.declared.Word.{Word}
use Rattle.layout.specs.declared.Word.TheVariants.{Old, New, Job, Done, Step, In, Out, Read, Write, Cloth, Start}
use Rattle.layout.specs.declared.Part.{Part}
use Rattle.layout.specs.declared.Part.TheVariants.{OldRoute, NewRoute, JobPart}
use Rattle.layout.specs.declared.Point.{Point}
use Rattle.layout.specs.declared.Point.TheVariants.{Open, Digit, Past, Gap, Closed}
use Rattle.layout.specs.inner.Entries.{with_entries}
use Rattle.tokens.specs.inner.Tokens.{Reading, Breaks, Spells, list_word, no_entries, along}
use Rattle.tokens.specs.declared.Broken.{Broken}
use Rattle.tokens.specs.declared.Numeral.{Numeral}
use Rattle.tokens.specs.declared.Entries.{Entries}
use Rattle.tokens.specs.declared.Listed.{Listed}
use Rattle.line_reader.specs.declared.Ending.{Ending}
use Rattle.line_reader.specs.declared.StepLine.{StepLine}

-- the words of a line that one number ends
unfoldable pub head_word : Word → Bool
head_word Old = true
head_word New = true
head_word Job = false
head_word Done = true
head_word Step = false
head_word In = false
head_word Out = false
head_word Read = false
head_word Write = false
head_word Cloth = false
head_word Start = false

pub record NumberedTo (v : Version) (s : List ℕ) (from : ℕ) (w : List ℕ) (n : Numeral) : Type 0 where
  pub past : from < n.at
  pub within : n.at ≤ length s
  pub goes : (p : Point) (c : Line) (t : Lines) (x : Word) (q : Part) → head_word x ≡ true
      → Spells v s from p c t w (Digit x q) c t → Reading v s from p c t
      → Reading v s n.at (past_line v x q) no_line (put_line x q (stored x (with_num n.value c)) t)

pub record NumberedBreaks (v : Version) (s : List ℕ) (from : ℕ) (w : List ℕ) (at : ℕ) : Type 0 where
  pub within : at ≤ length s
  pub goes : (p : Point) (c : Line) (t : Lines) (x : Word) (q : Part) → head_word x ≡ true
      → Spells v s from p c t w (Digit x q) c t → Reading v s from p c t → Breaks v s at

abbrev pub NumberedOn : Version → List ℕ → ℕ → List ℕ → Result Numeral Broken → Type 0
NumberedOn v s from w (Ok n) = NumberedTo v s from w n
NumberedOn v s from w (Err e) = NumberedBreaks v s from w e.at

-- a list from its text to its bracket
pub record ListedTo (v : Version) (s : List ℕ) (from : ℕ) (w : List ℕ) (r : Listed) : Type 0 where
  pub later : from ≤ r.at
  pub within : r.at ≤ length s
  pub entries : List ℕ
  pub kept : r.entries ≡ along no_entries entries
  pub goes : (p : Point) (c d : Line) (t : Lines) (x : Word) (q : Part) → list_word x ≡ true
      → Spells v s from p c t w (Past x q) d t → Reading v s from p c t
      → Reading v s r.at (list_end x q) (with_entries x entries d) t

pub record ListedBreaks (v : Version) (s : List ℕ) (from : ℕ) (w : List ℕ) (at : ℕ) : Type 0 where
  pub within : at ≤ length s
  pub goes : (p : Point) (c d : Line) (t : Lines) (x : Word) (q : Part) → list_word x ≡ true
      → Spells v s from p c t w (Past x q) d t → Reading v s from p c t → Breaks v s at

abbrev pub ListedOn : Version → List ℕ → ℕ → List ℕ → Result Listed Broken → Type 0
ListedOn v s from w (Ok r) = ListedTo v s from w r
ListedOn v s from w (Err e) = ListedBreaks v s from w e.at

-- what is kept of a start line is that of its places
pub record StartTo (v : Version) (s : List ℕ) (from : ℕ) (r : Listed) : Type 0 where
  pub past : from < r.at
  pub within : r.at ≤ length s
  pub places : List ℕ
  pub kept : r.entries ≡ along no_entries places
  pub goes : (q : Part) (t : Lines) → Reading v s from (Gap Start q) no_line t
      → Reading v s r.at (Open q) no_line (put_start q places t)

pub record StartBreaks (v : Version) (s : List ℕ) (from at : ℕ) : Type 0 where
  pub within : at ≤ length s
  pub goes : (q : Part) (t : Lines) → Reading v s from (Gap Start q) no_line t → Breaks v s at

abbrev pub StartOn : Version → List ℕ → ℕ → Result Listed Broken → Type 0
StartOn v s from (Ok r) = StartTo v s from r
StartOn v s from (Err e) = StartBreaks v s from e.at

-- from past the last list of a step's line to the next line: the form is marked where the mark stood
pub record EndingTo (v : Version) (s : List ℕ) (from : ℕ) (r : Ending) : Type 0 where
  pub past : from < r.at
  pub within : r.at ≤ length s
  pub goes : (q : Part) (c : Line) (t : Lines) → Reading v s from (Closed Write q) c t
      → Reading v s r.at (Open q) no_line (put_step q (form_of r.cloth c) t)

pub record EndingBreaks (v : Version) (s : List ℕ) (from at : ℕ) : Type 0 where
  pub within : at ≤ length s
  pub goes : (q : Part) (c : Line) (t : Lines) → Reading v s from (Closed Write q) c t → Breaks v s at

abbrev pub EndingOn : Version → List ℕ → ℕ → Result Ending Broken → Type 0
EndingOn v s from (Ok r) = EndingTo v s from r
EndingOn v s from (Err e) = EndingBreaks v s from e.at

-- what is kept of a step's line is that of its form
pub record IsForm (r : StepLine) (f : Form) : Type 0 where
  pub name : r.name ≡ f.name
  pub ins : r.ins ≡ along no_entries f.ins
  pub outs : r.outs ≡ along no_entries f.outs
  pub reads : r.reads ≡ along no_entries f.reads
  pub writes : r.writes ≡ along no_entries f.writes
  pub cloth : r.cloth ≡ f.cloth

-- the parts that have steps
unfoldable pub has_steps : Part → Bool
has_steps OldRoute = true
has_steps NewRoute = true
has_steps JobPart = false

pub record StepTo (v : Version) (s : List ℕ) (from : ℕ) (r : StepLine) : Type 0 where
  pub past : from < r.at
  pub within : r.at ≤ length s
  pub form : Form
  pub is : IsForm r form
  pub goes : (q : Part) (t : Lines) → has_steps q ≡ true → get_or s (from + 1) 0 ≡ 115
      → Reading v s from (Open q) no_line t → Reading v s r.at (Open q) no_line (put_step q form t)

pub record StepBreaks (v : Version) (s : List ℕ) (from at : ℕ) : Type 0 where
  pub within : at ≤ length s
  pub goes : (q : Part) (t : Lines) → has_steps q ≡ true → get_or s (from + 1) 0 ≡ 115
      → Reading v s from (Open q) no_line t → Breaks v s at

abbrev pub StepOn : Version → List ℕ → ℕ → Result StepLine Broken → Type 0
StepOn v s from (Ok r) = StepTo v s from r
StepOn v s from (Err e) = StepBreaks v s from e.at

-- ---- rows 2 and 3

unfoldable pub line_fits : Version → ℕ → StepLine → Bool
line_fits v n l = name_fits v l.name && (leb l.ins.top n
    && (leb l.outs.top n && (leb l.reads.top 32 && leb l.writes.top 32)))

unfoldable pub entries_fit : Entries → Bool
entries_fit e = leb e.count 8 && not e.falls

unfoldable pub line_lists : StepLine → Bool
line_lists l =
    not (eqb l.ins.count 0)
    && (not (eqb l.outs.count 0) && (entries_fit l.ins
    && (entries_fit l.outs && (entries_fit l.reads && entries_fit l.writes))))
