-- No sheet that reads is longer than its version allows: the longest step line has 130 bytes besides its name and its
-- mark, a head 9, a start line 190, the job line 6, a done line 8 besides its name. Assumes nothing.
use mathlib.Core.Path.{◌≡◌, refl, sym, ap, ◌∙◌, subst}
use mathlib.Core.Bool.{Bool, true, false, cond}
use mathlib.Core.List.{List, [], ◌∷◌}
use Prim.Native.Nat.{ℕ, zero, suc, ◌+◌, ◌-◌, ◌*◌, ◌^◌, ◌/◌, ◌%◌, ◌≤◌, ◌<◌}
use native.Mathlib.Nat.{suc-mul, mul-le-mul_right}
use native.Mathlib.Omega.{arith}
use lib.Dec.{eqb, ltb, leb}
use lib.ListN.{length}
use borrow.Author.Tests.{eq-eqb, ltb-true, ltb-false, leb-true}
use Rattle.mask.proofs.Truth.{both}
use Rattle.refusal.specs.Rows.{first}
use Rattle.refusal.specs.declared.Outcome.{Outcome}
use Rattle.version.specs.Limits.{present, Limits}
use Rattle.version.specs.declared.Version.{Version}
use Rattle.version.proofs.Tens.{tenth}
use Rattle.version.proofs.Limits.{present-limits, name-short}
use Rattle.job.specs.Lines.{line_rows, LinesPass}
use Rattle.layout.specs.Words.{spelling}
use Rattle.layout.specs.Text.{Form, Lines, digits, number, entries, listed, marked, step_line, word_line, job_line}
use Rattle.layout.specs.Text.{start_line, step_lines, done_lines, job_text, text, Short, Shorts}
use Rattle.layout.specs.declared.Word.TheVariants.{New, In, Out, Read, Write}
use Rattle.layout.proofs.Sound.{sound}
use Rattle.facts.specs.Forms.{all_below, rising}
use Rattle.facts.specs.Facts.{read_by}
use Rattle.facts.specs.SheetRows.{sheet_rows}
use Rattle.job.specs.Job as J
use Rattle.facts.specs.LinesOf.{lines_of, as_records}
use Rattle.facts.specs.Marks.{Marks, MarksTo}
use Rattle.facts.specs.Starts.{StartsTo}
use Rattle.writer.specs.Written.{written_by, written, mark_length, start_length, longest}
use Rattle.facts.proofs.PassingLines.{Passes, FineList, Fine, AllFine, FineStart, AllLines, lines-fine, lines-short}
use Rattle.facts.proofs.PassingLines.{short-marks, all-marks, short-starts, all-starts}
use Rattle.facts.proofs.Ties.{tie}
use Rattle.facts.proofs.ReadRecords.{reads_as}
use Rattle.facts.proofs.Widths.{lines_same, rows-as-records, rows-wide}

long-digits : (f k n : ℕ) (s : List ℕ) → n < 10 ^ suc k → length (digits f n s) ≤ suc k + length s
unfolding digits
long-digits zero k n s h = omega arith
long-digits (suc f) k n s h = go (ltb n 10) refl k h (λ j r. long-digits f j (n / 10) ((48 + n % 10) ∷ s) r)
  where
    go : (t : Bool) → ltb n 10 ≡ t → (k : ℕ) → n < 10 ^ suc k
        → ((j : ℕ) → n / 10 < 10 ^ suc j → length (digits f (n / 10) ((48 + n % 10) ∷ s)) ≤ suc j + suc (length s))
        → length (cond t ((48 + n) ∷ s) (digits f (n / 10) ((48 + n % 10) ∷ s))) ≤ suc k + length s
    go true e k b ih = omega arith
    go false e zero b ih = absurd (omega (arith, ltb-false n 10 e))
    go false e (suc k) b ih = omega (arith, ih k (tenth (suc k) n b))

-- a number that a version allows
long-number : (v : Version) → Limits v → (n : ℕ) (s : List ℕ) → Short v n → length (number n s) ≤ v.digits + length s
unfolding number
long-number v limits n s h = go v.digits limits.two h
  where
    go : (d : ℕ) → 2 ≤ d → n < 10 ^ d → length (digits 20 n s) ≤ d + length s
    go zero low b = absurd (omega arith)
    go (suc k) low b = long-digits 20 k n s b

two_digits : (n : ℕ) (s : List ℕ) → n < 100 → length (number n s) ≤ 2 + length s
unfolding number
two_digits n s h = long-digits 20 1 n s h

one-digit : (n : ℕ) (s : List ℕ) → n < 10 → length (number n s) ≤ 1 + length s
unfolding number
one-digit n s h = long-digits 20 0 n s h

long-entries : (l : List ℕ) (n : ℕ) (s : List ℕ) → n ≤ 64 → all_below n l ≡ true
    → length (entries l s) ≤ length l * 3 + length s
unfolding entries all_below
long-entries [] n s h e = omega arith
long-entries (m ∷ l) n s h e =
    let parts = both (ltb m n) (all_below n l) e in
    let small : m < n = ltb-true m n parts.0 in
    omega (arith, two_digits m (entries l s) (omega arith), long-entries l n s h parts.1)

-- a list of at most eight entries
long-list : (l : List ℕ) (n : ℕ) (s : List ℕ) → n ≤ 64 → FineList n l → length (entries l s) ≤ 24 + length s
long-list l n s h fine = omega (arith, long-entries l n s h fine.low, fine.few)

-- the mark
long-marked : (v : Version) (m : Bool) → (m ≡ true → v.cloth ≡ true) → (s : List ℕ)
    → length (marked m s) ≤ mark_length v + length s
unfolding marked spelling
long-marked v false h s = omega arith
long-marked v true h s = let eight : mark_length v ≡ 8 = ap (λ (x : Bool). cond x 8 0) (h refl) in omega (arith, eight)

-- a list that rises from low on: each entry below 10 has two bytes with its space, each other three
long-rising : (l : List ℕ) (low n : ℕ) (s : List ℕ) → n ≤ 64 → rising low l ≡ true → all_below n l ≡ true
    → length (entries l s) ≤ (10 - low) * 2 + (54 - (low - 10)) * 3 + length s
unfolding entries rising all_below
long-rising [] low n s h up e = omega arith
long-rising (m ∷ l) low n s h up e =
    let (over, rest) = both (leb low m) (rising (suc m) l) up in
    let (under, lows) = both (ltb m n) (all_below n l) e in
    go (ltb m 10) refl (leb-true low m over) (ltb-true m n under) (long-rising l (suc m) n s h rest lows)
  where
    go : (t : Bool) → ltb m 10 ≡ t → low ≤ m → m < n
        → length (entries l s) ≤ (10 - suc m) * 2 + (54 - (suc m - 10)) * 3 + length s
        → suc (length (number m (entries l s))) ≤ (10 - low) * 2 + (54 - (low - 10)) * 3 + length s
    go true t a b ih = omega (arith, ltb-true m 10 t, one-digit m (entries l s) (ltb-true m 10 t))
    go false t a b ih = omega (arith, ltb-false m 10 t, two_digits m (entries l s) (omega arith))

-- a start line
long-start : (v : Version) (n : ℕ) (l s : List ℕ) → n ≤ 64 → FineStart v n l
    → length (start_line v l s) ≤ start_length v + length s
unfolding start_line spelling
long-start v n l s h fine = go v.starts refl
  where
    go : (t : Bool) → v.starts ≡ t
        → length (cond t (40 ∷ 115 ∷ 116 ∷ 97 ∷ 114 ∷ 116 ∷ entries l (41 ∷ 10 ∷ s)) s) ≤ cond t 190 0 + length s
    go true e = omega (arith, long-rising l 0 n (41 ∷ 10 ∷ s) h (fine e).rises (fine e).low)
    go false e = omega arith

-- the most bytes of a step's line
abbrev line_length : Version → ℕ
line_length v = 130 + v.digits + mark_length v

long-step : (v : Version) → Limits v → (places : ℕ) (f : Form) (s : List ℕ) → places ≤ 64
    → (f.cloth ≡ true → v.cloth ≡ true) → Fine v places f → length (step_line f s) ≤ line_length v + length s
unfolding step_line listed spelling
long-step v limits places f s h mark fine =
    let ending : List ℕ = marked f.cloth (41 ∷ 10 ∷ s) in
    let fourth : List ℕ = listed Write f.writes ending in
    let third : List ℕ = listed Read f.reads fourth in
    let second : List ℕ = listed Out f.outs third in
    omega (
      arith,
      long-number v limits f.name (listed In f.ins second) (name-short v limits f.name fine.name),
      long-marked v f.cloth mark (41 ∷ 10 ∷ s),
      long-list f.writes 32 (41 ∷ ending) (omega arith) fine.writes,
      long-list f.reads 32 (41 ∷ fourth) (omega arith) fine.reads,
      long-list f.outs places (41 ∷ third) h fine.outs,
      long-list f.ins places (41 ∷ second) h fine.ins,
    )

long-steps : (v : Version) → Limits v → (l : List Form) (places : ℕ) (s : List ℕ) → places ≤ 64 → Marks v.cloth l
    → AllFine v places l → length (step_lines l s) ≤ length l * line_length v + length s
unfolding step_lines
long-steps v limits [] places s h marks fine = omega arith
long-steps v limits (f ∷ l) places s h marks fine =
    omega (
      arith,
      long-step v limits places f (step_lines l s) h marks.0 fine.0,
      long-steps v limits l places s h marks.1 fine.1,
      suc-mul (length l) (line_length v),
    )

long-dones : (v : Version) → Limits v → (l s : List ℕ) → Shorts v l
    → length (done_lines l s) ≤ length l * (8 + v.digits) + length s
unfolding done_lines word_line spelling
long-dones v limits [] s h = omega arith
long-dones v limits (n ∷ l) s h =
    omega (
      arith,
      long-number v limits n (41 ∷ 10 ∷ done_lines l s) h.0,
      long-dones v limits l s h.1,
      suc-mul (length l) (8 + v.digits),
    )

long-text : (v : Version) → Limits v → (x : Lines) → MarksTo v.cloth x → StartsTo v.starts x → AllLines v x
    → length (text v x) ≤ longest v
unfolding text job_text job_line word_line spelling
long-text v limits x marks starts h =
    let dones : List ℕ = done_lines x.done [] in
    let job : List ℕ = 40 ∷ 106 ∷ 111 ∷ 98 ∷ 41 ∷ 10 ∷ dones in
    let news : List ℕ = step_lines x.new job in
    let second : List ℕ = start_line v x.new_start news in
    let new : List ℕ = word_line New x.new_places second in
    let olds : List ℕ = step_lines x.old new in
    let first : List ℕ = start_line v x.old_start olds in
    omega (
      arith,
      two_digits x.old_places (41 ∷ 10 ∷ first) (omega (arith, h.old_places)),
      long-start v x.old_places x.old_start olds h.old_places h.old_start,
      long-steps v limits x.old x.old_places new h.old_places marks.old h.old,
      two_digits x.new_places (41 ∷ 10 ∷ second) (omega (arith, h.new_places)),
      long-start v x.new_places x.new_start news h.new_places h.new_start,
      long-steps v limits x.new x.new_places job h.new_places marks.new h.new,
      long-dones v limits x.done [] (lines-short v limits x marks starts h).done,
      mul-le-mul_right (line_length v) h.old_few,
      mul-le-mul_right (line_length v) h.new_few,
      mul-le-mul_right (8 + v.digits) h.done_few,
    )

-- no sheet that reads is longer
pub bounded : {v : Version} → Limits v → (s : List ℕ) → (read_by v s).number ≡ 0 → length s ≤ longest v
bounded {v} limits s z =
    let r = reads_as v s z in
    let made = sound v limits s r.lines r.parsed in
    subst (λ (l : List ℕ). length l ≤ longest v) (sym made.same)
    (long-text v limits r.lines (short-marks v r.lines made.short) (short-starts v r.lines made.short)
    (lines-fine v r.lines r.passes))

-- nor is a text that is written
pub written-length : (j : J.Job) → Passes (line_rows j) → length (written j) ≤ longest present
unfolding written_by
written-length j h =
    let passes : Passes (sheet_rows present (lines_of (as_records j))) =
    ap (λ (rows : List Outcome). eqb (first rows).number 0) (tie (as_records j) (rows-wide j h) ∙ rows-as-records j)
    ∙ h in
    subst (λ (x : Lines). length (text present x) ≤ longest present) (lines_same j)
    (long-text present present-limits (lines_of (as_records j)) (all-marks (lines_of (as_records j)))
    (all-starts (lines_of (as_records j))) (lines-fine present (lines_of (as_records j)) passes))

-- so it fits the bound of the present version
pub text-short : (j : J.Job) → LinesPass j → length (written j) ≤ 20500
text-short j pass = written-length j (eq-eqb _ 0 pass)
