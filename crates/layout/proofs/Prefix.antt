-- What has been read up to a point: the bytes in front of what follows, said from the point and what has been gathered.
-- Assumes nothing.
use mathlib.Core.Path.{◌≡◌}
use mathlib.Core.Bool.{Bool, true, false, ◌&&◌}
use mathlib.Core.Logic.{◌⊎◌}
use mathlib.Core.List.{List, [], ◌∷◌, ◌++◌}
use Prim.Native.Nat.{ℕ, ◌-◌, ◌^◌, ◌≤◌, ◌<◌}
use lib.ListN.{take}
use Rattle.version.specs.declared.Version.{Version}
use Rattle.layout.specs.Words.{spelling}
use Rattle.layout.specs.Text.{Lines, number, word_line, start_line, job_line, Short, Shorts, ShortLines}
use Rattle.layout.specs.Parse.{Line}
use Rattle.layout.specs.declared.Word.{Word}
use Rattle.layout.specs.declared.Word.TheVariants.{Old, New, Job, Done, Step, In, Out, Read, Write, Cloth, Start}
use Rattle.layout.specs.declared.Part.{Part}
use Rattle.layout.specs.declared.Part.TheVariants.{OldRoute, NewRoute, JobPart}
use Rattle.layout.specs.declared.Point.{Point}
use Rattle.layout.specs.declared.Point.TheVariants.{Top, Open, Choice, Letters, Past, Digit, Digits, Gap}
use Rattle.layout.specs.declared.Point.TheVariants.{Closed, Lf, Stuck}
use Rattle.layout.proofs.Reversed.{entries_back, steps_back, dones_back}

-- the line in hand without the number in hand
pub record Rest : Type 0 where
  pub head : ℕ
  pub ins : List ℕ
  pub outs : List ℕ
  pub reads : List ℕ
  pub writes : List ℕ

abbrev pub rest : Line → Rest
rest c = record { head = c.head; ins = c.ins; outs = c.outs; reads = c.reads; writes = c.writes }

-- the whole lines, up to a route's head
unfoldable pub headed : Version → Part → Lines → List ℕ → List ℕ
headed v OldRoute t s = word_line Old t.old_places s
headed v NewRoute t s = word_line Old t.old_places (start_line v t.old_start (steps_back t.old
    (word_line New t.new_places s)))
headed v JobPart t s = s

-- the whole lines, up to the last one of a part
unfoldable pub above : Version → Part → Lines → List ℕ → List ℕ
above v OldRoute t s = headed v OldRoute t (start_line v t.old_start (steps_back t.old s))
above v NewRoute t s = headed v NewRoute t (start_line v t.new_start (steps_back t.new s))
above v JobPart t s = headed v NewRoute t (start_line v t.new_start (steps_back t.new
    (job_line (dones_back t.done s))))

unfoldable pub gap_in : Version → Part → Rest → Lines → List ℕ → List ℕ
gap_in v p c t s = above v p t (40 ∷ (spelling Step ++ (32 ∷ number c.head (32 ∷ s))))

unfoldable pub gap_out : Version → Part → Rest → Lines → List ℕ → List ℕ
gap_out v p c t s = gap_in v p c t (40 ∷ (spelling In ++ entries_back c.ins (41 ∷ 32 ∷ s)))

unfoldable pub gap_read : Version → Part → Rest → Lines → List ℕ → List ℕ
gap_read v p c t s = gap_out v p c t (40 ∷ (spelling Out ++ entries_back c.outs (41 ∷ 32 ∷ s)))

unfoldable pub gap_write : Version → Part → Rest → Lines → List ℕ → List ℕ
gap_write v p c t s = gap_read v p c t (40 ∷ (spelling Read ++ entries_back c.reads (41 ∷ 32 ∷ s)))

unfoldable pub gap_cloth : Version → Part → Rest → Lines → List ℕ → List ℕ
gap_cloth v p c t s = gap_write v p c t (40 ∷ (spelling Write ++ entries_back c.writes (41 ∷ 32 ∷ s)))

-- up to the bracket in front of a word
unfoldable pub gap : Version → Word → Part → Rest → Lines → List ℕ → List ℕ
gap v Old p c t s = s
gap v New p c t s = above v OldRoute t s
gap v Job p c t s = above v NewRoute t s
gap v Done p c t s = above v JobPart t s
gap v Step p c t s = above v p t s
gap v In p c t s = gap_in v p c t s
gap v Out p c t s = gap_out v p c t s
gap v Read p c t s = gap_read v p c t s
gap v Write p c t s = gap_write v p c t s
gap v Cloth p c t s = gap_cloth v p c t s
gap v Start p c t s = headed v p t s

unfoldable pub list_of : Word → Rest → List ℕ
list_of Old c = []
list_of New c = []
list_of Job c = []
list_of Done c = []
list_of Step c = []
list_of In c = c.ins
list_of Out c = c.outs
list_of Read c = c.reads
list_of Write c = c.writes
list_of Cloth c = []
list_of Start c = c.ins

-- up to a word and the entries that follow it
unfoldable pub upto : Version → Word → Part → Rest → Lines → List ℕ → List ℕ
upto v w p c t s = gap v w p c t (40 ∷ (spelling w ++ entries_back (list_of w c) s))

-- up to a line's LF.
unfoldable pub line_end : Version → Word → Part → Rest → Lines → List ℕ → List ℕ
line_end v Old p c t s = upto v Old p c t (32 ∷ number c.head (41 ∷ s))
line_end v New p c t s = upto v New p c t (32 ∷ number c.head (41 ∷ s))
line_end v Job p c t s = upto v Job p c t (41 ∷ s)
line_end v Done p c t s = upto v Done p c t (32 ∷ number c.head (41 ∷ s))
line_end v Step p c t s = s
line_end v In p c t s = s
line_end v Out p c t s = s
line_end v Read p c t s = s
line_end v Write p c t s = upto v Write p c t (41 ∷ 41 ∷ s)
line_end v Cloth p c t s = upto v Cloth p c t (41 ∷ 41 ∷ s)
line_end v Start p c t s = upto v Start p c t (41 ∷ s)

unfoldable pub sofar : Version → Point → Line → Lines → List ℕ → List ℕ
sofar v Top c t s = s
sofar v (Open p) c t s = above v p t s
sofar v (Choice p) c t s = above v p t (40 ∷ s)
sofar v (Letters w p k) c t s = gap v w p (rest c) t (40 ∷ (take k (spelling w) ++ s))
sofar v (Past w p) c t s = upto v w p (rest c) t s
sofar v (Digit w p) c t s = upto v w p (rest c) t (32 ∷ s)
sofar v (Digits w p k) c t s = upto v w p (rest c) t (32 ∷ number c.num s)
sofar v (Gap w p) c t s = gap v w p (rest c) t s
sofar v (Closed w p) c t s = upto v w p (rest c) t (41 ∷ s)
sofar v (Lf w p) c t s = line_end v w p (rest c) t s
sofar v Stuck c t s = s

-- ---- what holds at a point besides

-- a step stands in a route
unfoldable pub routed : Part → Bool
routed OldRoute = true
routed NewRoute = true
routed JobPart = false

-- the word stands in the part, and the mark and the start only where the version has them
unfoldable pub goes : Version → Word → Part → Bool
goes v Old OldRoute = true
goes v Old NewRoute = false
goes v Old JobPart = false
goes v New OldRoute = false
goes v New NewRoute = true
goes v New JobPart = false
goes v Job OldRoute = false
goes v Job NewRoute = false
goes v Job JobPart = true
goes v Done OldRoute = false
goes v Done NewRoute = false
goes v Done JobPart = true
goes v Step p = routed p
goes v In p = routed p
goes v Out p = routed p
goes v Read p = routed p
goes v Write p = routed p
goes v Cloth p = routed p && v.cloth
goes v Start p = routed p && v.starts

-- the word is the last of a line of the part
unfoldable pub closes : Version → Word → Part → Bool
closes v Old p = goes v Old p
closes v New p = goes v New p
closes v Job p = goes v Job p
closes v Done p = goes v Done p
closes v Step p = false
closes v In p = false
closes v Out p = false
closes v Read p = false
closes v Write p = goes v Write p
closes v Cloth p = goes v Cloth p
closes v Start p = goes v Start p

-- the lists from a word on are empty; those after it are
abbrev pub From : Word → Rest → Type 0
From Old c = Unit {0}
From New c = Unit {0}
From Job c = Unit {0}
From Done c = Unit {0}
From Step c = (c.ins ≡ []) × ((c.outs ≡ []) × ((c.reads ≡ []) × (c.writes ≡ [])))
From In c = (c.ins ≡ []) × ((c.outs ≡ []) × ((c.reads ≡ []) × (c.writes ≡ [])))
From Out c = (c.outs ≡ []) × ((c.reads ≡ []) × (c.writes ≡ []))
From Read c = (c.reads ≡ []) × (c.writes ≡ [])
From Write c = c.writes ≡ []
From Cloth c = Unit {0}
From Start c = c.ins ≡ []

abbrev pub After : Word → Rest → Type 0
After Old c = Unit {0}
After New c = Unit {0}
After Job c = Unit {0}
After Done c = Unit {0}
After Step c = From In c
After In c = From Out c
After Out c = From Read c
After Read c = From Write c
After Write c = Unit {0}
After Cloth c = Unit {0}
After Start c = Unit {0}

-- the number in hand, where k more digits may follow; none may follow a lone 0
abbrev pub Wide : Version → ℕ → ℕ → Type 0
Wide v k n = (k < v.digits) × (((1 ≤ n) × (n < 10 ^ (v.digits - k))) ⊎ ((n ≡ 0) × (k ≡ 0)))

abbrev pub Shape : Version → Point → Line → Type 0
Shape v Top c = Unit {0}
Shape v (Open p) c = From Step (rest c)
Shape v (Choice p) c = From Step (rest c)
Shape v (Letters w p k) c = (goes v w p ≡ true) × From w (rest c)
Shape v (Past w p) c = (goes v w p ≡ true) × After w (rest c)
Shape v (Digit w p) c = (goes v w p ≡ true) × After w (rest c)
Shape v (Digits w p k) c = ((goes v w p ≡ true) × After w (rest c)) × Wide v k c.num
Shape v (Gap w p) c = (goes v w p ≡ true) × From w (rest c)
Shape v (Closed w p) c = (goes v w p ≡ true) × After w (rest c)
Shape v (Lf w p) c = closes v w p ≡ true
Shape v Stuck c = Unit {0}

-- every number that has been put away is short
abbrev pub ShortLine : Version → Rest → Type 0
ShortLine v c = Short v c.head × (Shorts v c.ins
    × (Shorts v c.outs × (Shorts v c.reads × Shorts v c.writes)))

-- one byte on, from p at b to q
pub record Onward (v : Version) (p : Point) (b : ℕ) (c : Line) (t : Lines) (q : Point) (c' : Line) (t' : Lines) : Type
    0 where
  pub same : (s : List ℕ) → sofar v q c' t' s ≡ sofar v p c t (b ∷ s)
  pub shape : Shape v q c'
  pub line : ShortLine v (rest c')
  pub lines : ShortLines v t'
