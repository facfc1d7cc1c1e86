-- Versions compared that both have start lines or both lack them: their text is the same, so what one reads the other
-- reads as the same facts, where it allows the names and the marks. Assumes nothing.
use mathlib.Core.Path.{◌≡◌, sym, ap, ◌∙◌, subst}
use mathlib.Core.Logic.{◌↔◌}
use mathlib.Core.Bool.{Bool, true, false}
use mathlib.Core.List.{List, [], ◌∷◌}
use Prim.Native.Nat.{ℕ, ◌≤◌}
use native.Mathlib.Nat.{le_refl}
use Rattle.version.specs.Limits.{Limits, Wider}
use Rattle.version.specs.declared.Version.{Version}
use Rattle.layout.specs.Text.{Form, Lines, start_line, text}
use Rattle.layout.proofs.Sound.{sound}
use Rattle.facts.specs.Facts.{read_by, job_read}
use Rattle.facts.specs.LinesOf.{lines_of}
use Rattle.facts.specs.Names.{NamesTo}
use Rattle.facts.specs.Marks.{Marks, MarksTo}
use Rattle.facts.specs.Starts.{StartsTo}
use Rattle.facts.specs.SheetRows.{places_read, facts_record}
use Rattle.facts.specs.declared.Sheet.{Sheet}
use Rattle.facts.proofs.PassingLines.{lines-fine, lines-named, short-marks, short-starts}
use Rattle.facts.proofs.ReadRecords.{ReadAs, reads_as, read_back}
use Rattle.facts.proofs.InAnother.{reads-in-another}

-- the names and the marks of the lines that a version reads
module _ {v : Version} (limits : Limits v) (s : List ℕ) (r : ReadAs v s) where
  read-named : (g : ℕ) → v.greatest ≤ g → NamesTo g r.lines
  read-named g most = lines-named v g most r.lines (lines-fine v r.lines r.passes)

  read-marked : MarksTo v.cloth r.lines
  read-marked = short-marks v r.lines (sound v limits s r.lines r.parsed).short

-- the text and the facts depend on the version by its start lines alone
abbrev of_starts : Bool → Version
of_starts t = record { digits = 0; greatest = 0; cloth = false; starts = t }

module _ (v w : Version) (starts : v.starts ≡ w.starts) where
  text_same : (x : Lines) → text v x ≡ text w x
  unfolding text start_line
  text_same x = ap (λ (t : Bool). text (of_starts t) x) starts

  facts-same : (x : Lines) → facts_record v x ≡ facts_record w x
  unfolding facts_record places_read
  facts-same x = ap (λ (t : Bool). facts_record (of_starts t) x) starts

  reads_same : Limits v → Limits w → (s : List ℕ) (r : ReadAs v s) → NamesTo w.greatest r.lines
      → MarksTo w.cloth r.lines → read_by w s ≡ facts_record v r.lines
  reads_same limits limits' s r names marks =
      let x = r.lines in
      let made = sound v limits s x r.parsed in
      let fine = lines-fine v x r.passes in
      ap (read_by w) (made.same ∙ text_same x)
      ∙ reads-in-another v w x x.old_start x.new_start limits' names marks
      (subst (λ (t : Bool). StartsTo t x) starts (short-starts v x made.short))
      (λ e. (fine.old_start (starts ∙ e), fine.new_start (starts ∙ e))) r.passes
      ∙ sym (facts-same x)

module _ {may may' : Bool} (allowed : may ≡ true → may' ≡ true) where
  marks-up : (l : List Form) → Marks may l → Marks may' l
  marks-up [] h = tt
  marks-up (f ∷ l) h = (λ e. allowed (h.0 e), marks-up l h.1)

module _ {v w : Version} (wider : Wider v w) (limits : Limits v) (limits' : Limits w) (s : List ℕ) where
  pub wider-reads : (read_by v s).number ≡ 0 → read_by w s ≡ read_by v s
  wider-reads z =
      let r = reads_as v s z in
      let marks = read-marked limits s r in
      reads_same v w wider.starts limits limits' s r (read-named limits s r w.greatest wider.names)
      (record { old = marks-up wider.marks r.lines.old marks.old; new = marks-up wider.marks r.lines.new marks.new })
      ∙ sym r.facts

  -- a version reads what a wider one does, where no name is over its own greatest and no step has a mark that it lacks
  pub narrower-reads : ((read_by v s).number ≡ 0)
      ↔ (((read_by w s).number ≡ 0) × NamesTo v.greatest (lines_of (job_read (read_by w s)))
      × MarksTo v.cloth (lines_of (job_read (read_by w s))))
  unfolding facts_record
  narrower-reads = (to, from)
    where
      Reads : Lines → Type 0
      Reads x = ((read_by w s).number ≡ 0) × NamesTo v.greatest x × MarksTo v.cloth x

      to : (read_by v s).number ≡ 0 → Reads (lines_of (job_read (read_by w s)))
      to z =
          let same = wider-reads z in
          let r = reads_as v s z in
          subst Reads (sym (ap (λ (y : Sheet). lines_of (job_read y)) same ∙ read_back limits s r)) (
            ap (λ (y : Sheet). y.number) same ∙ z,
            read-named limits s r v.greatest (le_refl v.greatest),
            read-marked limits s r,
          )

      from : Reads (lines_of (job_read (read_by w s))) → (read_by v s).number ≡ 0
      from h =
          let r = reads_as w s h.0 in
          let (_, names, marks) = subst Reads (read_back limits' s r) h in
          ap (λ (y : Sheet). y.number) (reads_same w v (sym wider.starts) limits' limits s r names marks)
