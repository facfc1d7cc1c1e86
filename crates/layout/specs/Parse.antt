-- Reading: from point to point through the bytes, gathering the lines. Lists are gathered with the latest first.
use Rattle.std.specs.Prelude.{Bool, true, false, cond, List, [], ◌∷◌, reverse, ℕ, ◌+◌, ◌-◌, ◌*◌}
use Rattle.version.specs.declared.Version.{Version}
use Rattle.layout.specs.Text.{Form, Lines}
use Rattle.layout.specs.Points.{digit, alive, next}
use Rattle.layout.specs.declared.Word.{Word}
use Rattle.layout.specs.declared.Word.TheVariants.{Old, New, Job, Done, Step, In, Out, Read, Write, Cloth, Start}
use Rattle.layout.specs.declared.Part.{Part}
use Rattle.layout.specs.declared.Part.TheVariants.{OldRoute, NewRoute, JobPart}
use Rattle.layout.specs.declared.Point.{Point}
use Rattle.layout.specs.declared.Point.TheVariants.{Top, Open, Choice, Letters, Past, Digit, Digits, Gap}
use Rattle.layout.specs.declared.Point.TheVariants.{Closed, Lf, Stuck}

-- what has been read of the line: the number in hand, the line's own number, the entries of its lists
pub record Line : Type 0 where
  pub num : ℕ
  pub head : ℕ
  pub ins : List ℕ
  pub outs : List ℕ
  pub reads : List ℕ
  pub writes : List ℕ

abbrev pub no_line : Line
no_line = record { num = 0; head = 0; ins = []; outs = []; reads = []; writes = [] }

abbrev pub with_num : ℕ → Line → Line
with_num n c = record { num = n; head = c.head; ins = c.ins; outs = c.outs; reads = c.reads; writes = c.writes }

-- one more digit
abbrev pub grown : ℕ → ℕ → ℕ
grown n b = n * 10 + (b - 48)

-- the line in hand with another head and other lists
abbrev pub with_form : Line → ℕ → List ℕ → List ℕ → List ℕ → List ℕ → Line
with_form c h i o r w = record { num = c.num; head = h; ins = i; outs = o; reads = r; writes = w }

-- a number that has ended goes where the word says; the line in hand gathers a start line's places where a step's line
-- has its in-places
unfoldable pub stored : Word → Line → Line
stored Old c = with_form c c.num c.ins c.outs c.reads c.writes
stored New c = with_form c c.num c.ins c.outs c.reads c.writes
stored Job c = c
stored Done c = with_form c c.num c.ins c.outs c.reads c.writes
stored Step c = with_form c c.num c.ins c.outs c.reads c.writes
stored In c = with_form c c.head (c.num ∷ c.ins) c.outs c.reads c.writes
stored Out c = with_form c c.head c.ins (c.num ∷ c.outs) c.reads c.writes
stored Read c = with_form c c.head c.ins c.outs (c.num ∷ c.reads) c.writes
stored Write c = with_form c c.head c.ins c.outs c.reads (c.num ∷ c.writes)
stored Cloth c = c
stored Start c = with_form c c.head (c.num ∷ c.ins) c.outs c.reads c.writes

-- what a byte does to the line in hand
unfoldable pub took : Point → ℕ → Line → Line
took Top b c = c
took (Open p) b c = c
took (Choice p) b c = c
took (Letters w p k) b c = c
took (Past w p) b c = c
took (Digit w p) b c = with_num (b - 48) c
took (Digits w p k) b c = cond (digit b) (with_num (grown c.num b) c) (stored w c)
took (Gap w p) b c = c
took (Closed w p) b c = c
took (Lf w p) b c = no_line
took Stuck b c = c

-- the line's form, marked or not
abbrev pub form_of : Bool → Line → Form
form_of m c = record {
  name = c.head;
  ins = reverse c.ins;
  outs = reverse c.outs;
  reads = reverse c.reads;
  writes = reverse c.writes;
  cloth = m;
}

-- the lines that have been read, the latest first in each list
abbrev pub no_lines : Lines
no_lines = record { old_places = 0; old_start = []; old = []; new_places = 0; new_start = []; new = []; done = [] }

-- a line that has ended is put away
unfoldable pub put_step : Part → Form → Lines → Lines
put_step OldRoute f t = record {
  old_places = t.old_places;
  old_start = t.old_start;
  old = f ∷ t.old;
  new_places = t.new_places;
  new_start = t.new_start;
  new = t.new;
  done = t.done;
}
put_step NewRoute f t = record {
  old_places = t.old_places;
  old_start = t.old_start;
  old = t.old;
  new_places = t.new_places;
  new_start = t.new_start;
  new = f ∷ t.new;
  done = t.done;
}
put_step JobPart f t = t

-- a start line that has ended, by its places in their order
unfoldable pub put_start : Part → List ℕ → Lines → Lines
put_start OldRoute l t = record {
  old_places = t.old_places;
  old_start = l;
  old = [];
  new_places = 0;
  new_start = [];
  new = [];
  done = [];
}
put_start NewRoute l t = record {
  old_places = t.old_places;
  old_start = t.old_start;
  old = t.old;
  new_places = t.new_places;
  new_start = l;
  new = [];
  done = [];
}
put_start JobPart l t = t

unfoldable pub put_line : Word → Part → Line → Lines → Lines
put_line Old p c t = record {
  old_places = c.head;
  old_start = [];
  old = [];
  new_places = 0;
  new_start = [];
  new = [];
  done = [];
}
put_line New p c t = record {
  old_places = t.old_places;
  old_start = t.old_start;
  old = t.old;
  new_places = c.head;
  new_start = [];
  new = [];
  done = [];
}
put_line Job p c t = record {
  old_places = t.old_places;
  old_start = t.old_start;
  old = t.old;
  new_places = t.new_places;
  new_start = t.new_start;
  new = t.new;
  done = [];
}
put_line Done p c t = record {
  old_places = t.old_places;
  old_start = t.old_start;
  old = t.old;
  new_places = t.new_places;
  new_start = t.new_start;
  new = t.new;
  done = c.head ∷ t.done;
}
put_line Step p c t = t
put_line In p c t = t
put_line Out p c t = t
put_line Read p c t = t
put_line Write p c t = put_step p (form_of false c) t
put_line Cloth p c t = put_step p (form_of true c) t
put_line Start p c t = put_start p (reverse c.ins) t

unfoldable pub keep : Point → Line → Lines → Lines
keep Top c t = t
keep (Open p) c t = t
keep (Choice p) c t = t
keep (Letters w p k) c t = t
keep (Past w p) c t = t
keep (Digit w p) c t = t
keep (Digits w p k) c t = t
keep (Gap w p) c t = t
keep (Closed w p) c t = t
keep (Lf w p) c t = put_line w p c t
keep Stuck c t = t

-- the lines in their order
abbrev pub in_order : Lines → Lines
in_order t = record {
  old_places = t.old_places;
  old_start = t.old_start;
  old = reverse t.old;
  new_places = t.new_places;
  new_start = t.new_start;
  new = reverse t.new;
  done = reverse t.done;
}

-- what reading finds: the lines, or what is left from the first byte where no sheet goes on so
pub data Parsed : Type 0 where
  read : Lines → Parsed
  broken : List ℕ → Parsed

-- where a sheet may end
unfoldable pub at_end : Point → Lines → Parsed
at_end Top t = broken []
at_end (Open OldRoute) t = broken []
at_end (Open NewRoute) t = broken []
at_end (Open JobPart) t = read (in_order t)
at_end (Choice p) t = broken []
at_end (Letters w p k) t = broken []
at_end (Past w p) t = broken []
at_end (Digit w p) t = broken []
at_end (Digits w p k) t = broken []
at_end (Gap w p) t = broken []
at_end (Closed w p) t = broken []
at_end (Lf w p) t = broken []
at_end Stuck t = broken []

unfoldable pub run : Version → Point → Line → Lines → List ℕ → Parsed
run v p c t [] = at_end p t
run v p c t (b ∷ s) = cond (alive (next v p b)) (run v (next v p b) (took p b c) (keep p c t) s) (broken (b ∷ s))

unfoldable pub parse : Version → List ℕ → Parsed
parse v s = run v Top no_line no_lines s
