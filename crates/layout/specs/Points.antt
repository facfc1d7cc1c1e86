-- The points of the layout, and the step from one to the next. The theorems of proofs/ say that this is the text of
-- specs/Text.antt.
use Rattle.std.specs.Prelude.{Bool, true, false, cond, ◌&&◌, ℕ, ◌+◌, ◌-◌, eqb, ltb, leb, length, get_or}
use Rattle.version.specs.declared.Version.{Version}
use Rattle.layout.specs.Words.{spelling}
use Rattle.layout.specs.declared.Word.{Word}
use Rattle.layout.specs.declared.Word.TheVariants.{Old, New, Job, Done, Step, In, Out, Read, Write, Cloth, Start}
use Rattle.layout.specs.declared.Part.{Part}
use Rattle.layout.specs.declared.Part.TheVariants.{OldRoute, NewRoute, JobPart}
use Rattle.layout.specs.declared.Point.{Point}
use Rattle.layout.specs.declared.Point.TheVariants.{Top, Open, Choice, Letters, Past, Digit, Digits, Gap}
use Rattle.layout.specs.declared.Point.TheVariants.{Closed, Lf, Stuck}

unfoldable pub digit : ℕ → Bool
digit b = leb 48 b && leb b 57

unfoldable pub alive : Point → Bool
alive Top = true
alive (Open p) = true
alive (Choice p) = true
alive (Letters w p k) = true
alive (Past w p) = true
alive (Digit w p) = true
alive (Digits w p k) = true
alive (Gap w p) = true
alive (Closed w p) = true
alive (Lf w p) = true
alive Stuck = false

-- the point p where the byte b is the one that the layout has, c
unfoldable pub expect : ℕ → ℕ → Point → Point
expect b c p = cond (eqb b c) p Stuck

-- a line's first letter: `s` of step, or the head of the next part
unfoldable pub chosen : Part → ℕ → Point
chosen OldRoute b = cond (eqb b 115) (Letters Step OldRoute 1) (expect b 110 (Letters New NewRoute 1))
chosen NewRoute b = cond (eqb b 115) (Letters Step NewRoute 1) (expect b 106 (Letters Job JobPart 1))
chosen JobPart b = expect b 100 (Letters Done JobPart 1)

-- the next letter of a word
unfoldable pub spelt : Word → Part → ℕ → ℕ → Point
spelt w p k b =
    cond (ltb k (length (spelling w)))
    (expect b (get_or (spelling w) k 0) (cond (eqb (k + 1) (length (spelling w))) (Past w p) (Letters w p (k + 1))))
    Stuck

-- past a list's closing bracket: a start line ends there, and a step's line goes on
unfoldable pub list_end : Word → Part → Point
list_end Old p = Closed Old p
list_end New p = Closed New p
list_end Job p = Closed Job p
list_end Done p = Closed Done p
list_end Step p = Closed Step p
list_end In p = Closed In p
list_end Out p = Closed Out p
list_end Read p = Closed Read p
list_end Write p = Closed Write p
list_end Cloth p = Closed Cloth p
list_end Start p = Lf Start p

-- in a list: one more entry, or its end
unfoldable pub in_list : Word → Part → ℕ → Point
in_list w p b = cond (eqb b 32) (Digit w p) (expect b 41 (list_end w p))

unfoldable pub past_word : Word → Part → ℕ → Point
past_word Old p b = expect b 32 (Digit Old p)
past_word New p b = expect b 32 (Digit New p)
past_word Done p b = expect b 32 (Digit Done p)
past_word Step p b = expect b 32 (Digit Step p)
past_word Job p b = expect b 41 (Lf Job p)
past_word In p b = in_list In p b
past_word Out p b = in_list Out p b
past_word Read p b = in_list Read p b
past_word Write p b = in_list Write p b
past_word Cloth p b = expect b 41 (Closed Cloth p)
past_word Start p b = in_list Start p b

-- a number's first digit: nothing follows a 0, and past another all but one of the version's digits may follow
unfoldable pub first : Version → Word → Part → ℕ → Point
first v w p b = cond (eqb b 48) (Digits w p 0) (cond (digit b) (Digits w p (v.digits - 1)) Stuck)

-- past a number
unfoldable pub ended : Word → Part → ℕ → Point
ended Old p b = expect b 41 (Lf Old p)
ended New p b = expect b 41 (Lf New p)
ended Done p b = expect b 41 (Lf Done p)
ended Step p b = expect b 32 (Gap In p)
ended Job p b = Stuck
ended In p b = in_list In p b
ended Out p b = in_list Out p b
ended Read p b = in_list Read p b
ended Write p b = in_list Write p b
ended Cloth p b = Stuck
ended Start p b = in_list Start p b

unfoldable pub more : Word → Part → ℕ → ℕ → Point
more w p k b = cond (digit b) (cond (ltb 0 k) (Digits w p (k - 1)) Stuck) (ended w p b)

-- past a list, or past the mark; past the last list the mark may follow, where the version has it
unfoldable pub closed : Version → Word → Part → ℕ → Point
closed v In p b = expect b 32 (Gap Out p)
closed v Out p b = expect b 32 (Gap Read p)
closed v Read p b = expect b 32 (Gap Write p)
closed v Write p b = cond (eqb b 32 && v.cloth) (Gap Cloth p) (expect b 41 (Lf Write p))
closed v Cloth p b = expect b 41 (Lf Cloth p)
closed v Old p b = Stuck
closed v New p b = Stuck
closed v Job p b = Stuck
closed v Done p b = Stuck
closed v Step p b = Stuck
closed v Start p b = Stuck

-- past a head's LF: at the bracket of its start line, where the version has it
unfoldable pub past_head : Version → Part → Point
past_head v p = cond v.starts (Gap Start p) (Open p)

-- past the LF of a line whose last word it is
unfoldable pub past_line : Version → Word → Part → Point
past_line v Old p = past_head v p
past_line v New p = past_head v p
past_line v Job p = Open p
past_line v Done p = Open p
past_line v Step p = Open p
past_line v In p = Open p
past_line v Out p = Open p
past_line v Read p = Open p
past_line v Write p = Open p
past_line v Cloth p = Open p
past_line v Start p = Open p

unfoldable pub next : Version → Point → ℕ → Point
next v Top b = expect b 40 (Letters Old OldRoute 0)
next v (Open p) b = expect b 40 (Choice p)
next v (Choice p) b = chosen p b
next v (Letters w p k) b = spelt w p k b
next v (Past w p) b = past_word w p b
next v (Digit w p) b = first v w p b
next v (Digits w p k) b = more w p k b
next v (Gap w p) b = expect b 40 (Letters w p 0)
next v (Closed w p) b = closed v w p b
next v (Lf w p) b = expect b 10 (past_line v w p)
next v Stuck b = Stuck
