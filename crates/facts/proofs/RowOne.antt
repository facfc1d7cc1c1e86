-- Row 1: reading answers 1 exactly where the bytes are no sheet, since the rows of lines have other numbers. Its second
-- number is the first byte where no sheet begins so, and the bytes of a sheet answer what the rows of its lines say.
use mathlib.Core.Path.{◌≡◌, refl, sym, ap, ◌∙◌, subst}
use mathlib.Core.Logic.{◌↔◌}
use mathlib.Core.Bool.{Bool, true, false, cond}
use mathlib.Core.List.{List, [], ◌∷◌, ◌++◌}
use Prim.Native.Nat.{ℕ, ◌+◌, ◌-◌}
use native.Mathlib.Omega.{arith}
use lib.ListN.{length}
use Rattle.refusal.specs.Rows.{first}
use Rattle.refusal.proofs.Rows.{unless-number, first-number, append-number}
use Rattle.job.specs.Lines.{done_row, done_rows}
use Rattle.version.specs.Limits.{Limits}
use Rattle.version.specs.declared.Version.{Version}
use Rattle.layout.specs.Text.{Form, Lines}
use Rattle.layout.specs.Parse.{Parsed, parse}
use Rattle.layout.specs.Begins.{IsSheet, FirstBroken}
use Rattle.layout.proofs.Complete.{complete}
use Rattle.layout.proofs.Sound.{sound}
use Rattle.layout.proofs.Broken.{first-broken}
use Rattle.facts.specs.Forms.{form_row, start_row}
use Rattle.facts.specs.Facts.{failed, facts_of, answered, read_by, job_read}
use Rattle.facts.specs.SheetRows.{form_rows, start_line_count, start_rows, after_forms, head_form_rows, route_form_rows}
use Rattle.facts.specs.SheetRows.{sheet_rows, facts_record}
use Rattle.facts.specs.LinesOf.{lines_of}
use Rattle.facts.specs.declared.Sheet.{Sheet}
use Rattle.facts.proofs.PassingLines.{Passes, lines-fine, short-starts}
use Rattle.facts.proofs.RowsFold.{reads-facts, rows-answer}
use Rattle.facts.proofs.ReadRecords.{read_is, lines-back}

-- ---- every line answers 0 or one of its rows

module _ (P : ℕ → Type 0) (zero : P 0) (two : P 2) (three : P 3) (four : P 4) (five : P 5) where
  none-number : P (first []).number
  unfolding first
  none-number = zero

  form-number : (v : Version) (line places above : ℕ) (earlier : List ℕ) (f : Form)
      → P (form_row v line places above earlier f).number
  unfolding form_row
  form-number v line places above earlier f =
      first-number P _ _ (unless-number P _ 4 line zero four)
      (first-number P _ _ (unless-number P _ 2 line zero two)
      (first-number P _ _ (unless-number P _ 3 line zero three)
      (first-number P _ [] (unless-number P _ 5 line zero five) none-number)))

  forms-number : (v : Version) (l : List Form) (line places : ℕ) (earlier : List ℕ)
      → P (first (form_rows v line places earlier l)).number
  unfolding form_rows
  forms-number v [] line places earlier = none-number
  forms-number v (f ∷ l) line places earlier =
      first-number P _ _ (form-number v line places (length earlier) earlier f)
      (forms-number v l (line + 1) places (earlier ++ (f.name ∷ [])))

  dones-number : (v : Version) (l : List ℕ) (line above : ℕ) → P (first (done_rows v line above l)).number
  unfolding done_rows done_row
  dones-number v [] line above = none-number
  dones-number v (n ∷ l) line above =
      first-number P _ _
      (first-number P _ _ (unless-number P _ 4 line zero four)
      (first-number P _ [] (unless-number P _ 2 line zero two) none-number))
      (dones-number v l (line + 1) (above + 1))

  start-number : (v : Version) (line n : ℕ) (l : List ℕ) → P (first (start_rows v line n l)).number
  unfolding start_rows start_row
  start-number v line n l = go v.starts
    where
      go : (t : Bool) → P (first (cond t (start_row line n l ∷ []) [])).number
      go true = first-number P _ []
          (first-number P _ _ (unless-number P _ 2 line zero two)
          (first-number P _ [] (unless-number P _ 3 line zero three) none-number)) none-number
      go false = none-number

  route-number : (v : Version) (line places : ℕ) (start : List ℕ) (l : List Form)
      → P (first (route_form_rows v line places start l)).number
  unfolding route_form_rows head_form_rows
  route-number v line places start l =
      append-number P (head_form_rows v line places start) _
      (first-number P _ _ (unless-number P _ 2 line zero two) (start-number v (line + 1) places start))
      (append-number P (form_rows v (line + 1 + start_line_count v) places [] l) _ (forms-number v l _ places [])
      (first-number P _ [] (unless-number P _ 4 (after_forms v line l) zero four) none-number))

  facts-number : (v : Version) (x : Lines) → P (facts_of v x).number
  unfolding sheet_rows
  facts-number v x =
      subst P (sym (rows-answer v x).0)
      (append-number P (route_form_rows v 1 x.old_places x.old_start x.old) _
      (route-number v 1 x.old_places x.old_start x.old)
      (append-number P (route_form_rows v (after_forms v 1 x.old) x.new_places x.new_start x.new) _
      (route-number v _ x.new_places x.new_start x.new)
      (dones-number v x.done _ 0)))

  -- and so does reading, or 1
  pub read-number : P 1 → (v : Version) (s : List ℕ) → P (read_by v s).number
  unfolding read_by answered failed
  read-number one v s = go (parse v s)
    where
      go : (p : Parsed) → P (answered v (length s) p).number
      go (Parsed.read x) = facts-number v x
      go (Parsed.broken r) = one

-- no line answers 1
facts-not : (v : Version) (x : Lines) → (facts_of v x).number ≡ 1 → ⊥
facts-not = facts-number (λ n. n ≡ 1 → ⊥) (λ e. omega arith) (λ e. omega arith) (λ e. omega arith) (λ e. omega arith)
    (λ e. omega arith)

-- ---- what reading answers

broken-is : (v : Version) (s r : List ℕ) → parse v s ≡ Parsed.broken r → read_by v s ≡ failed 1 (length s - length r)
unfolding read_by answered
broken-is v s r e = ap (answered v (length s)) e

-- complete: a sheet answers what the rows of its lines say
pub sheet-facts : {v : Version} (limits : Limits v) (s : List ℕ) (x : IsSheet v s) → read_by v s ≡ facts_of v x.lines
sheet-facts {v} limits s x = read_is v s x.lines (ap (parse v) x.same ∙ complete v limits x.lines x.short)

-- and where it reads, those rows pass, and it is read as their facts
pub sheet-passes : {v : Version} (limits : Limits v) (s : List ℕ) (x : IsSheet v s) → (read_by v s).number ≡ 0
    → Passes (sheet_rows v x.lines) × (read_by v s ≡ facts_record v x.lines)
sheet-passes {v} limits s x z =
    let facts = sheet-facts limits s x in
    let (passes, records) = reads-facts v x.lines (ap (λ (y : Sheet). y.number) (sym facts) ∙ z) in
    (passes, facts ∙ records)

-- so that its records have the lines of the sheet, no number of them cut down
pub sheet-lines : {v : Version} (limits : Limits v) (s : List ℕ) (x : IsSheet v s) → (read_by v s).number ≡ 0
    → lines_of (job_read (read_by v s)) ≡ x.lines
sheet-lines {v} limits s x z =
    let (passes, facts) = sheet-passes limits s x z in
    ap (λ (y : Sheet). lines_of (job_read y)) facts
    ∙ lines-back v x.lines (short-starts v x.lines x.short) (lines-fine v x.lines passes)

-- sound: bytes that reading answers otherwise than by 1 are a sheet
pub read-sheet : {v : Version} (limits : Limits v) (s : List ℕ) → ((read_by v s).number ≡ 1 → ⊥) → IsSheet v s
unfolding failed
read-sheet {v} limits s h = go (parse v s) refl
  where
    go : (p : Parsed) → parse v s ≡ p → IsSheet v s
    go (Parsed.read x) e = let made = sound v limits s x e in record
        { lines = x; short = made.short; same = made.same }
    go (Parsed.broken r) e = absurd (h (ap (λ (y : Sheet). y.number) (broken-is v s r e)))

-- such as those that it reads
pub reads-sheet : {v : Version} (limits : Limits v) (s : List ℕ) → (read_by v s).number ≡ 0 → IsSheet v s
reads-sheet limits s z = read-sheet limits s (λ one. absurd (let no : ◌≡◌ {A = ℕ} 1 0 = sym one ∙ z in omega arith))

-- what reading answers with 1 it answers with the first broken offset
pub row-1-offset : {v : Version} (limits : Limits v) (s : List ℕ) → (read_by v s).number ≡ 1
    → FirstBroken v s (read_by v s).second
unfolding failed
row-1-offset {v} limits s h = go (parse v s) refl
  where
    go : (p : Parsed) → parse v s ≡ p → FirstBroken v s (read_by v s).second
    go (Parsed.read x) e = absurd (facts-not v x (sym (ap (λ (y : Sheet). y.number) (read_is v s x e)) ∙ h))
    go (Parsed.broken r) e = subst (FirstBroken v s) (sym (ap (λ (y : Sheet). y.second) (broken-is v s r e)))
        (first-broken v limits s r e)

pub row-1-iff : {v : Version} (limits : Limits v) (s : List ℕ) → ((read_by v s).number ≡ 1) ↔ (IsSheet v s → ⊥)
unfolding failed
row-1-iff {v} limits s = (λ h. (row-1-offset limits s h).no-sheet, λ n. go (parse v s) refl n)
  where
    go : (p : Parsed) → parse v s ≡ p → (IsSheet v s → ⊥) → (read_by v s).number ≡ 1
    go (Parsed.read x) e n = absurd (let made = sound v limits s x e in n
        (record { lines = x; short = made.short; same = made.same }))
    go (Parsed.broken r) e n = ap (λ (y : Sheet). y.number) (broken-is v s r e)
