-- The text of a sheet as a function of its lines. Each definition puts its text in front of what follows, `s`. The
-- bytes: 40 and 41 are the brackets, 32 the space, 10 the LF, 48 the digit 0.
use Rattle.std.specs.Prelude.{◌≡◌, Bool, true, false, cond, List, [], ◌∷◌, ◌++◌, ℕ, zero, suc, ◌+◌, ◌/◌, ◌%◌, ◌^◌, ◌<◌, ltb}
use Rattle.version.specs.declared.Version.{Version}
use Rattle.layout.specs.Words.{spelling}
use Rattle.layout.specs.declared.Word.{Word}
use Rattle.layout.specs.declared.Word.TheVariants.{Old, New, Job, Done, Step, In, Out, Read, Write, Cloth, Start}

-- a step as it is written: its name, the entries of its four lists in turn, and whether it is marked
pub record Form : Type 0 where
  pub name : ℕ
  pub ins : List ℕ
  pub outs : List ℕ
  pub reads : List ℕ
  pub writes : List ℕ
  pub cloth : Bool

-- the lines of a sheet: `(old N)`, its start line, its steps, `(new N)`, its start line, its steps, `(job)`, then
-- `(done NAME)` lines, as many as there are; of a start line its places
pub record Lines : Type 0 where
  pub old_places : ℕ
  pub old_start : List ℕ
  pub old : List Form
  pub new_places : ℕ
  pub new_start : List ℕ
  pub new : List Form
  pub done : List ℕ

-- "Numbers are written in base ten": at most k digits, no leading zero
unfoldable pub digits : ℕ → ℕ → List ℕ → List ℕ
digits zero n s = s
digits (suc k) n s = cond (ltb n 10) ((48 + n) ∷ s) (digits k (n / 10) ((48 + n % 10) ∷ s))

-- no number of 64 bits has more than 20. (How many a version allows is `Short`'s matter: the text is the same.)
unfoldable pub number : ℕ → List ℕ → List ℕ
number n s = digits 20 n s

-- "between two entries stands one space": a space and a number for each
unfoldable pub entries : List ℕ → List ℕ → List ℕ
entries [] s = s
entries (n ∷ l) s = 32 ∷ number n (entries l s)

-- ` (in ..)`; "an empty list is `(read)`"
unfoldable pub listed : Word → List ℕ → List ℕ → List ℕ
listed w l s = 32 ∷ 40 ∷ (spelling w ++ entries l (41 ∷ s))

-- 02: "A step form may end with ` (cloth)` inside its bracket"
unfoldable pub marked : Bool → List ℕ → List ℕ
marked c s = cond c (32 ∷ 40 ∷ (spelling Cloth ++ (41 ∷ s))) s

-- `(step NAME (in ..) (out ..) (read ..) (write ..))`, or with the mark
unfoldable pub step_line : Form → List ℕ → List ℕ
step_line f s =
    40
    ∷ (spelling Step
    ++ (32 ∷ number f.name (listed In f.ins
    (listed Out f.outs (listed Read f.reads (listed Write f.writes (marked f.cloth (41 ∷ 10 ∷ s))))))))

-- `(old N)`, `(new N)`, `(done NAME)`
unfoldable pub word_line : Word → ℕ → List ℕ → List ℕ
word_line w n s = 40 ∷ (spelling w ++ (32 ∷ number n (41 ∷ 10 ∷ s)))

-- 02: "A line `(start ..)` [..] follows each head", where the version has it
unfoldable pub start_line : Version → List ℕ → List ℕ → List ℕ
start_line v l s = cond v.starts (40 ∷ (spelling Start ++ entries l (41 ∷ 10 ∷ s))) s

unfoldable pub job_line : List ℕ → List ℕ
job_line s = 40 ∷ (spelling Job ++ (41 ∷ 10 ∷ s))

unfoldable pub step_lines : List Form → List ℕ → List ℕ
step_lines [] s = s
step_lines (f ∷ l) s = step_line f (step_lines l s)

unfoldable pub done_lines : List ℕ → List ℕ → List ℕ
done_lines [] s = s
done_lines (n ∷ l) s = word_line Done n (done_lines l s)

-- the job part: from `(job)` to the end
unfoldable pub job_text : List ℕ → List ℕ
job_text done = job_line (done_lines done [])

unfoldable pub text : Version → Lines → List ℕ
text v x = word_line Old x.old_places (start_line v x.old_start (step_lines x.old
    (word_line New x.new_places (start_line v x.new_start (step_lines x.new (job_text x.done))))))

-- "A number has one to five digits", and in 02 "every number up to ten digits long": every number has at most as many
-- as the version allows
abbrev pub Short : Version → ℕ → Type 0
Short v n = n < 10 ^ v.digits

abbrev pub Shorts : Version → List ℕ → Type 0
Shorts v [] = Unit {0}
Shorts v (n ∷ l) = Short v n × Shorts v l

-- and a step is marked only where the version has the mark
pub record ShortForm (v : Version) (f : Form) : Type 0 where
  pub name : Short v f.name
  pub ins : Shorts v f.ins
  pub outs : Shorts v f.outs
  pub reads : Shorts v f.reads
  pub writes : Shorts v f.writes
  pub cloth : f.cloth ≡ true → v.cloth ≡ true

abbrev pub ShortForms : Version → List Form → Type 0
ShortForms v [] = Unit {0}
ShortForms v (f ∷ l) = ShortForm v f × ShortForms v l

-- a version without start lines says nothing of a start
pub record ShortStart (v : Version) (l : List ℕ) : Type 0 where
  pub entries : Shorts v l
  pub none : v.starts ≡ false → l ≡ []

pub record ShortLines (v : Version) (x : Lines) : Type 0 where
  pub old_places : Short v x.old_places
  pub old_start : ShortStart v x.old_start
  pub old : ShortForms v x.old
  pub new_places : Short v x.new_places
  pub new_start : ShortStart v x.new_start
  pub new : ShortForms v x.new
  pub done : Shorts v x.done
