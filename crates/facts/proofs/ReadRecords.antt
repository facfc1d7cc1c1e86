-- The records that reading gives: their lines are the sheet's lines, and pass the rows.
-- Assumes nothing.
use mathlib.Core.Path.{◌≡◌, refl, sym, ap, ap₂, ◌∙◌, subst}
use mathlib.Core.Bool.{Bool, true, false, cond, ◌&&◌}
use mathlib.Core.List.{List, [], ◌∷◌, map}
use Prim.Native.Nat.{ℕ, ◌-◌, ◌^◌, ◌≤◌, ◌<◌}
use native.Mathlib.Omega.{arith}
use lib.Dec.{eqb, ltb}
use lib.ListN.{length, replicate, length-map}
use lib.Seq.{take-append_seam}
use borrow.Author.Tests.{ltb-true, lt-ltb, eqb-true}
use Rattle.mask.specs.Mask.{members}
use Rattle.mask.proofs.Truth.{both}
use Rattle.route.specs.Steps.{steps_of}
use Rattle.refusal.specs.Rows.{first}
use Rattle.route.specs.declared.Places.{Places}
use Rattle.route.specs.declared.Step.{Step}
use Rattle.refusal.specs.declared.Outcome.{Outcome}
use Rattle.refusal.proofs.Rows.{row-passed}
use Rattle.version.specs.Limits.{present, Limits}
use Rattle.job.specs.Lines.{line_rows, LinesPass}
use Rattle.version.specs.declared.Version.{Version}
use Rattle.layout.specs.Text.{Form, Lines, text}
use Rattle.layout.specs.Parse.{Parsed, parse}
use Rattle.layout.proofs.Complete.{complete}
use Rattle.layout.proofs.Sound.{sound}
use Rattle.facts.specs.Forms.{all_below, rising, start_row, masked, record_of}
use Rattle.facts.specs.Facts.{failed, facts_of, answered, read_by, read_of, job_read}
use Rattle.facts.specs.SheetRows.{sheet_rows, filled, places_read, facts_record}
use Rattle.facts.specs.LinesOf.{form_of, lines_of, Wide, AllWide}
use Rattle.facts.specs.Marks.{MarksTo}
use Rattle.facts.specs.Starts.{StartsTo}
use Rattle.facts.specs.declared.Sheet.{Sheet}
use Rattle.facts.proofs.RowsFold.{reads-facts, rows-facts, filled-steps}
use Rattle.facts.proofs.Masks.{mask-members, members-mask, masked_below}
use Rattle.facts.proofs.PassingLines.{Passes, Fine, AllFine, FineStart, AllLines, lines-fine, lines-short}
use Rattle.facts.proofs.PassingLines.{short-starts, all-starts}
use Rattle.facts.proofs.Ties.{tie}

-- ---- a step: its form's record, and its record's form

pub record-form : (s : Step) → Wide s → record_of (form_of s) ≡ s
unfolding record_of form_of
record-form s h = λ i. record {
  name = s.name;
  cloth = s.cloth;
  ins = mask-members 64 s.ins h.ins i;
  outs = mask-members 64 s.outs h.outs i;
  reads = mask-members 32 s.reads h.reads i;
  writes =
      mask-members 32 s.writes h.writes i;
}

pub records-forms : (l : List Step) → AllWide l → map record_of (map form_of l) ≡ l
records-forms [] h = refl
records-forms (s ∷ l) h = ap₂ {C = List Step} (λ (x : Step) (k : List Step). x ∷ k) (record-form s h.0)
    (records-forms l h.1)

wider : (l : List ℕ) (n m : ℕ) → n ≤ m → all_below n l ≡ true → all_below m l ≡ true
unfolding all_below
wider [] n m h e = refl
wider (v ∷ l) n m h e =
    let parts = both (ltb v n) (all_below n l) e in
    ap₂ (λ (x y : Bool). x && y) (lt-ltb v m (omega (arith, ltb-true v n parts.0))) (wider l n m h parts.1)

pub form-record : (v : Version) (places : ℕ) (f : Form) → places ≤ 64 → Fine v places f → form_of (record_of f) ≡ f
unfolding record_of form_of
form-record v places f h fine =
    let ins = members-mask 64 f.ins fine.ins.rises (wider f.ins places 64 h fine.ins.low) in
    let outs = members-mask 64 f.outs fine.outs.rises (wider f.outs places 64 h fine.outs.low) in
    let reads = members-mask 32 f.reads fine.reads.rises fine.reads.low in
    let writes = members-mask 32 f.writes fine.writes.rises fine.writes.low in
    λ i. record { name = f.name; ins = ins i; outs = outs i; reads = reads i; writes = writes i; cloth = f.cloth }

forms-records : (v : Version) (l : List Form) (places : ℕ) → places ≤ 64 → AllFine v places l
    → map form_of (map record_of l) ≡ l
forms-records v [] places h fine = refl
forms-records v (f ∷ l) places h fine = ap₂ {C = List Form} (λ (x : Form) (k : List Form). x ∷ k)
    (form-record v places f h fine.0) (forms-records v l places h fine.1)

-- ---- a start line: its places are those of its mask

pub start-members : (line n : ℕ) (l : List ℕ) → n ≤ 64 → eqb (start_row line n l).number 0 ≡ true
    → members 64 (masked 64 0 l) ≡ l
unfolding start_row
start-members line n l h passes =
    let (low, three) = row-passed (all_below n l) 2 line _ refl passes in
    members-mask 64 l (row-passed (rising 0 l) 3 line [] refl three).0 (wider l n 64 h low)

-- in any version
start_back : (v : Version) (n : ℕ) (l : List ℕ) → n ≤ 64 → (v.starts ≡ false → l ≡ []) → FineStart v n l
    → members 64 (places_read v n l).start ≡ l
unfolding places_read rising all_below masked
start_back v n l h none fine = go v.starts refl
  where
    go : (t : Bool) → v.starts ≡ t → members 64 (cond t (masked 64 0 l) 0) ≡ l
    go true e = members-mask 64 l (fine e).rises (wider l n 64 h (fine e).low)
    go false e = members-mask 64 [] refl refl ∙ sym (none e)

-- the places of records are those that their lines tell of
pub places-back : (v : Version) (p : Places) → p.start < 2 ^ 64 → (v.starts ≡ false → members 64 p.start ≡ [])
    → places_read v p.count (members 64 p.start) ≡ p
unfolding places_read masked
places-back v p wide none = λ i. record { count = p.count; start = start_is v.starts refl i }
  where
    start_is : (t : Bool) → v.starts ≡ t → cond t (masked 64 0 (members 64 p.start)) 0 ≡ p.start
    start_is true e = mask-members 64 p.start wide
    start_is false e = sym (ap (masked 64 0) (none e)) ∙ mask-members 64 p.start wide

-- ---- the whole

-- the records that reading gives
pub lines-back : (v : Version) (x : Lines) → StartsTo v.starts x → AllLines v x
    → lines_of (job_read (facts_record v x)) ≡ x
unfolding lines_of facts_record filled places_read
lines-back v x starts h =
    λ i. record {
      old_places = x.old_places;
      old_start = start_back v x.old_places x.old_start h.old_places starts.old h.old_start i;
      old = (ap (map form_of) (filled-steps (places_read v x.old_places x.old_start) (map record_of x.old)
          (omega (arith, length-map x.old record_of, h.old_few)))
          ∙ forms-records v x.old x.old_places h.old_places h.old) i;
      new_places = x.new_places;
      new_start = start_back v x.new_places x.new_start h.new_places starts.new h.new_start i;
      new = (ap (map form_of) (filled-steps (places_read v x.new_places x.new_start) (map record_of x.new)
          (omega (arith, length-map x.new record_of, h.new_few)))
          ∙ forms-records v x.new x.new_places h.new_places h.new) i;
      done = take-append_seam x.done (replicate (64 - length x.done) 0) i;
    }

pub read_is : (v : Version) (s : List ℕ) (x : Lines) → parse v s ≡ Parsed.read x → read_by v s ≡ facts_of v x
unfolding read_by answered
read_is v s x e = ap (answered v (length s)) e

-- what is written of lines that a version's rows pass and whose marks and starts it allows, it reads as their facts
pub text-reads : {v : Version} → Limits v → (x : Lines) → MarksTo v.cloth x → StartsTo v.starts x
    → Passes (sheet_rows v x) → read_by v (text v x) ≡ facts_record v x
text-reads {v} limits x marks starts h =
    read_is v (text v x) x (complete v limits x (lines-short v limits x marks starts (lines-fine v x h)))
    ∙ rows-facts v x h

-- ---- the records that reading gives pass the rows

wide-records : (l : List Form) → AllWide (map record_of l)
unfolding record_of
wide-records [] = tt
wide-records (f ∷ l) = (
  record {
    ins = masked_below 64 0 f.ins (omega arith);
    outs = masked_below 64 0 f.outs (omega arith);
    reads = masked_below 32 0 f.reads (omega arith);
    writes =
        masked_below 32 0 f.writes (omega arith);
  },
  wide-records l,
)

wide-filled : (places : Places) (l : List Form) → length l ≤ 64 → AllWide (steps_of (filled places (map record_of l)))
wide-filled places l h =
    subst AllWide (sym (filled-steps places (map record_of l) (omega (arith, length-map l record_of)))) (wide-records l)

wide-start : (v : Version) (n : ℕ) (l : List ℕ) → (places_read v n l).start < 2 ^ 64
unfolding places_read
wide-start v n l = go v.starts
  where
    go : (t : Bool) → cond t (masked 64 0 l) 0 < 2 ^ 64
    go true = masked_below 64 0 l (omega arith)
    go false = omega arith

records-pass : (x : Lines) → Passes (sheet_rows present x) → Passes (line_rows (job_read (facts_record present x)))
unfolding facts_record filled
records-pass x h =
    let fine = lines-fine present x h in
    ap (λ (rows : List Outcome). eqb (first rows).number 0)
    (sym (tie (job_read (facts_record present x)) (record {
      old_start = wide-start present x.old_places x.old_start;
      old = wide-filled _ x.old fine.old_few;
      new_start = wide-start present x.new_places x.new_start;
      new = wide-filled _ x.new fine.new_few;
    })) ∙ ap (sheet_rows present) (lines-back present x (all-starts x) fine))
    ∙ h

pub not-broken : (v : Version) (s r : List ℕ) → (read_by v s).number ≡ 0 → parse v s ≡ Parsed.broken r → ⊥
unfolding read_by answered failed
not-broken v s r z e = let one : ◌≡◌ {A = ℕ} 1 0 =
    sym (ap (λ (p : Parsed). (answered v (length s) p).number) e) ∙ z in omega arith

-- a sheet that reads: its lines, which no row refuses, and its facts
pub record ReadAs (v : Version) (s : List ℕ) : Type 0 where
  pub lines : Lines
  pub parsed : parse v s ≡ Parsed.read lines
  pub passes : Passes (sheet_rows v lines)
  pub facts : read_by v s ≡ facts_record v lines

pub reads_as : (v : Version) (s : List ℕ) → (read_by v s).number ≡ 0 → ReadAs v s
reads_as v s z = go (parse v s) refl
  where
    go : (p : Parsed) → parse v s ≡ p → ReadAs v s
    go (Parsed.read x) e =
        let passed = reads-facts v x (ap (λ (y : Sheet). y.number) (sym (read_is v s x e)) ∙ z) in
        record { lines = x; parsed = e; passes = passed.0; facts = read_is v s x e ∙ passed.1 }
    go (Parsed.broken r) e = absurd (not-broken v s r z e)

-- its records have its lines
pub read_back : {v : Version} → Limits v → (s : List ℕ) (r : ReadAs v s) → lines_of (job_read (read_by v s)) ≡ r.lines
read_back {v} limits s r = ap (λ (y : Sheet). lines_of (job_read y)) r.facts
    ∙ lines-back v r.lines (short-starts v r.lines (sound v limits s r.lines r.parsed).short)
    (lines-fine v r.lines r.passes)

-- a sheet that reads passes the rows of its lines
pub read-lines : (s : List ℕ) → (read_of s).number ≡ 0 → LinesPass (job_read (read_of s))
read-lines s z = let r = reads_as present s z in ap (λ (y : Sheet). (first (line_rows (job_read y))).number) r.facts
    ∙ eqb-true _ 0 (records-pass r.lines r.passes)
