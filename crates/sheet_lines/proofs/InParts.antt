-- The texts of a sheet in the parts that calls write, and the room that each call has.
-- Assumes nothing.
use mathlib.Core.Path.{◌≡◌, refl, sym, ap, ap₂, ◌∙◌}
use mathlib.Core.Bool.{Bool, true, false, cond}
use mathlib.Core.List.{List, [], ◌∷◌, ◌++◌, append-nil, map}
use Prim.Native.Nat.{ℕ, ◌+◌, ◌^◌, ◌<◌}
use Rattle.mask.specs.Mask.{members}
use Rattle.mask.proofs.FromLowest.{members-none, members-narrow}
use Rattle.emit.specs.Numbers.{decimal, entry, over}
use Rattle.emit.proofs.Chains.{parts, First, Second, Third, Fourth, Two, Three, Four, first-room, second-room}
use Rattle.emit.specs.Emit.{Emits}
use Rattle.emit.proofs.Chains.{third-room, fourth-room, two-emits, three-emits, four-emits, emits-as, emits_none}
use Rattle.emit.proofs.Over.{from_zero}
use Rattle.version.specs.declared.Version.{Version}
use Rattle.route.specs.declared.Places.{Places}
use Rattle.route.specs.declared.Step.{Step}
use Rattle.layout.specs.Words.{spelling}
use Rattle.layout.specs.Text.{entries, listed, marked, step_line, word_line, start_line}
use Rattle.layout.specs.Text.{job_line, step_lines, done_lines, job_text}
use Rattle.layout.specs.declared.Word.{Word}
use Rattle.layout.specs.declared.Word.TheVariants as W
use Rattle.facts.specs.LinesOf.{form_of}
use Rattle.sheet_lines.specs.inner.Parts.{opening, closing, lists, route_text}
use Rattle.sheet_lines.proofs.TextsInFront.{number_is, entries-are, listed-front, lists-front}
use Rattle.sheet_lines.proofs.TextsInFront.{word-front, start-front}

-- `(` and a word
module _ (w : Word) where
  opening-parts : opening w ≡ parts ((40 ∷ []) ∷ spelling w ∷ [])
  unfolding parts
  opening-parts = ap (λ (t : List ℕ). 40 ∷ t) (sym (append-nil (spelling w)))

  pub opening-first : First (opening w) (40 ∷ [])
  opening-first = first-room _ _ _ opening-parts

  pub opening-second : Second (opening w) (40 ∷ []) (spelling w)
  opening-second = second-room _ _ _ _ opening-parts

  pub opening-whole : Two (opening w) (40 ∷ []) (spelling w)
  opening-whole = two-emits _ _ _ opening-parts

pub closing-whole : Two closing (41 ∷ []) (10 ∷ [])
unfolding parts
closing-whole = two-emits closing (41 ∷ []) (10 ∷ []) refl

-- the entries of a mask, as they are written
abbrev numbers : ℕ → List ℕ
numbers m = over (λ (v : ℕ). entry (0 + v)) (members 64 m)

numbers-are : (m : ℕ) (s : List ℕ) → entries (members 64 m) s ≡ numbers m ++ s
numbers-are m s = entries-are (members 64 m) s ∙ ap (λ (t : List ℕ). t ++ s) (sym (from_zero (members 64 m)))

-- a list
module _ (w : Word) (m : ℕ) where
  list-parts : listed w (members 64 m) [] ≡ parts ((32 ∷ []) ∷ opening w ∷ numbers m ∷ (41 ∷ []) ∷ [])
  unfolding listed members parts
  list-parts = ap (λ (t : List ℕ). 32 ∷ 40 ∷ (spelling w ++ t)) (numbers-are m (41 ∷ []))

  pub list-first : First (listed w (members 64 m) []) (32 ∷ [])
  list-first = first-room _ _ _ list-parts

  pub list-second : Second (listed w (members 64 m) []) (32 ∷ []) (opening w)
  list-second = second-room _ _ _ _ list-parts

  pub list-third : Third (listed w (members 64 m) []) (32 ∷ []) (opening w) (numbers m)
  list-third = third-room _ _ _ _ _ list-parts

  pub list-fourth : Fourth (listed w (members 64 m) []) (32 ∷ []) (opening w) (numbers m) (41 ∷ [])
  list-fourth = fourth-room _ _ _ _ _ _ list-parts

  pub list-whole : Four (listed w (members 64 m) []) (32 ∷ []) (opening w) (numbers m) (41 ∷ [])
  list-whole = four-emits _ _ _ _ _ list-parts

-- the end of a step's line, with the mark and without
module _ (m : Bool) where
  abbrev mark : List ℕ
  mark = listed W.Cloth (members 64 0) []

  marked-parts : m ≡ true → marked m closing ≡ parts (mark ∷ closing ∷ [])
  unfolding marked listed entries spelling parts
  marked-parts e = ap (λ (x : Bool). marked x closing) e
      ∙ ap (λ (l : List ℕ). listed W.Cloth l [] ++ closing) (sym (members-none 64))

  unmarked : m ≡ false → marked m closing ≡ closing
  unfolding marked
  unmarked e = ap (λ (x : Bool). marked x closing) e

  pub marked-first : m ≡ true → First (marked m closing) mark
  marked-first e = first-room _ _ _ (marked-parts e)

  pub marked-second : m ≡ true → Second (marked m closing) mark closing
  marked-second e = second-room _ _ _ _ (marked-parts e)

  pub marked-whole : m ≡ true → Two (marked m closing) mark closing
  marked-whole e = two-emits _ _ _ (marked-parts e)

  pub unmarked-room : m ≡ false → First (marked m closing) closing
  unfolding parts
  unmarked-room e = first-room _ _ [] (unmarked e)

  pub unmarked-whole : m ≡ false → (o p : List ℕ) (n k : ℕ) → Emits closing o n p k → Emits (marked m closing) o n p k
  unmarked-whole e o p n k w = emits-as (unmarked e) w

-- a step
module _ (s : Step) where
  -- its lists; a mask of 32 bits has no member from 32 on
  module _ (reads : s.reads < 2 ^ 32) (writes : s.writes < 2 ^ 32) where
    abbrev list : Word → ℕ → List ℕ
    list w m = listed w (members 64 m) []

    four-parts : lists (form_of s) [] ≡ parts (list W.In s.ins ∷ list W.Out s.outs ∷ list W.Read s.reads
        ∷ list W.Write s.writes ∷ [])
    unfolding form_of parts
    four-parts =
        ap₂ (λ (r w : List ℕ). listed W.In (members 64 s.ins) (listed W.Out (members 64 s.outs)
        (listed W.Read r (listed W.Write w []))))
        (sym (members-narrow 32 32 s.reads reads)) (sym (members-narrow 32 32 s.writes writes))
        ∙ listed-front W.In (members 64 s.ins) _ ∙ ap (λ (t : List ℕ). list W.In s.ins ++ t)
        (listed-front W.Out (members 64 s.outs) _ ∙ ap (λ (t : List ℕ). list W.Out s.outs ++ t)
        (listed-front W.Read (members 64 s.reads) _ ∙ ap (λ (t : List ℕ). list W.Read s.reads ++ t)
        (sym (append-nil (list W.Write s.writes)))))

    pub four-first : First (lists (form_of s) []) (list W.In s.ins)
    four-first = first-room _ _ _ four-parts

    pub four-second : Second (lists (form_of s) []) (list W.In s.ins) (list W.Out s.outs)
    four-second = second-room _ _ _ _ four-parts

    pub four-third : Third (lists (form_of s) []) (list W.In s.ins) (list W.Out s.outs) (list W.Read s.reads)
    four-third = third-room _ _ _ _ _ four-parts

    pub four-fourth : Fourth (lists (form_of s) []) (list W.In s.ins) (list W.Out s.outs)
        (list W.Read s.reads) (list W.Write s.writes)
    four-fourth = fourth-room _ _ _ _ _ _ four-parts

    pub four-whole : Four (lists (form_of s) []) (list W.In s.ins) (list W.Out s.outs) (list W.Read s.reads)
        (list W.Write s.writes)
    four-whole = four-emits _ _ _ _ _ four-parts

  abbrev ending : List ℕ
  ending = marked s.cloth closing

  step-parts : step_line (form_of s) [] ≡ parts (opening W.Step ∷ entry s.name ∷ lists (form_of s) [] ∷ ending ∷ [])
  unfolding step_line form_of entry parts
  step-parts =
      ap (λ (t : List ℕ). 40 ∷ (spelling W.Step ++ (32 ∷ t)))
      (number_is s.name (lists (form_of s) ending)
      ∙ ap (λ (t : List ℕ). decimal s.name ++ t) (lists-front (form_of s) ending
      ∙ ap (λ (t : List ℕ). lists (form_of s) [] ++ t) (sym (append-nil ending))))

  pub step-first : First (step_line (form_of s) []) (opening W.Step)
  step-first = first-room _ _ _ step-parts

  pub step-second : Second (step_line (form_of s) []) (opening W.Step) (entry s.name)
  step-second = second-room _ _ _ _ step-parts

  pub step-third : Third (step_line (form_of s) []) (opening W.Step) (entry s.name) (lists (form_of s) [])
  step-third = third-room _ _ _ _ _ step-parts

  pub step-fourth : Fourth (step_line (form_of s) []) (opening W.Step) (entry s.name) (lists (form_of s) []) ending
  step-fourth = fourth-room _ _ _ _ _ _ step-parts

  pub step-whole : Four (step_line (form_of s) []) (opening W.Step) (entry s.name) (lists (form_of s) []) ending
  step-whole = four-emits _ _ _ _ _ step-parts

-- a head, and a done line
module _ (w : Word) (n : ℕ) where
  word-parts : word_line w n [] ≡ parts (opening w ∷ entry n ∷ closing ∷ [])
  unfolding word_line entry parts
  word-parts = ap (λ (t : List ℕ). 40 ∷ (spelling w ++ (32 ∷ t))) (number_is n closing)

  pub word_first : First (word_line w n []) (opening w)
  word_first = first-room _ _ _ word-parts

  pub word-second : Second (word_line w n []) (opening w) (entry n)
  word-second = second-room _ _ _ _ word-parts

  pub word-third : Third (word_line w n []) (opening w) (entry n) closing
  word-third = third-room _ _ _ _ _ word-parts

  pub word-whole : Three (word_line w n []) (opening w) (entry n) closing
  word-whole = three-emits _ _ _ _ word-parts

-- a start line, where the version has it, and none
module _ (v : Version) (m : ℕ) where
  start-parts : v.starts ≡ true
      → start_line v (members 64 m) [] ≡ parts (opening W.Start ∷ numbers m ∷ closing ∷ [])
  unfolding start_line parts
  start-parts e =
      ap (λ (t : Bool). cond t (40 ∷ (spelling W.Start ++ entries (members 64 m) closing)) []) e
      ∙ ap (λ (t : List ℕ). 40 ∷ (spelling W.Start ++ t)) (numbers-are m closing)

  start-none : v.starts ≡ false → start_line v (members 64 m) [] ≡ []
  unfolding start_line
  start-none e = ap (λ (t : Bool). cond t (40 ∷ (spelling W.Start ++ entries (members 64 m) closing)) []) e

  pub start_first : v.starts ≡ true → First (start_line v (members 64 m) []) (opening W.Start)
  start_first e = first-room _ _ _ (start-parts e)

  pub start-second : v.starts ≡ true → Second (start_line v (members 64 m) []) (opening W.Start) (numbers m)
  start-second e = second-room _ _ _ _ (start-parts e)

  pub start-third : v.starts ≡ true → Third (start_line v (members 64 m) []) (opening W.Start) (numbers m) closing
  start-third e = third-room _ _ _ _ _ (start-parts e)

  pub start-whole : v.starts ≡ true → Three (start_line v (members 64 m) []) (opening W.Start) (numbers m) closing
  start-whole e = three-emits _ _ _ _ (start-parts e)

  pub start-lacks : v.starts ≡ false → (o : List ℕ) (n : ℕ) → Emits (start_line v (members 64 m) []) o n o n
  start-lacks e o n = emits-as (start-none e) (emits_none o n)

-- a route
module _ (v : Version) (w : Word) (places : Places) (l : List Step) where
  abbrev head : List ℕ
  head = word_line w places.count []

  abbrev start : List ℕ
  start = start_line v (members 64 places.start) []

  abbrev steps : List ℕ
  steps = step_lines (map form_of l) []

  route-parts : route_text v w places l [] ≡ parts (head ∷ start ∷ steps ∷ [])
  unfolding parts
  route-parts =
      word-front w places.count _
      ∙ ap (λ (t : List ℕ). head ++ t) (start-front v (members 64 places.start) steps
      ∙ ap (λ (t : List ℕ). start ++ t) (sym (append-nil steps)))

  pub route-first : First (route_text v w places l []) head
  route-first = first-room _ _ _ route-parts

  pub route-second : Second (route_text v w places l []) head start
  route-second = second-room _ _ _ _ route-parts

  pub route-third : Third (route_text v w places l []) head start steps
  route-third = third-room _ _ _ _ _ route-parts

  pub route-whole : Three (route_text v w places l []) head start steps
  route-whole = three-emits _ _ _ _ route-parts

-- the job part
module _ (done : List ℕ) where
  job-parts : job_text done ≡ parts (opening W.Job ∷ closing ∷ done_lines done [] ∷ [])
  unfolding job_text job_line parts
  job-parts = ap (λ (t : List ℕ). 40 ∷ (spelling W.Job ++ (41 ∷ 10 ∷ t))) (sym (append-nil (done_lines done [])))

  pub job-first : First (job_text done) (opening W.Job)
  job-first = first-room _ _ _ job-parts

  pub job-second : Second (job_text done) (opening W.Job) closing
  job-second = second-room _ _ _ _ job-parts

  pub job-third : Third (job_text done) (opening W.Job) closing (done_lines done [])
  job-third = third-room _ _ _ _ _ job-parts

  pub job-whole : Three (job_text done) (opening W.Job) closing (done_lines done [])
  job-whole = three-emits _ _ _ _ job-parts
