-- Reading and writing undo each other.
-- Assumes nothing.
use mathlib.Core.Path.{◌≡◌, sym, ap, ◌∙◌}
use mathlib.Core.List.{List, ◌++◌, map}
use Prim.Native.Nat.{ℕ, ◌-◌}
use native.Mathlib.Omega.{arith}
use lib.Dec.{eqb}
use lib.ListN.{length, replicate, length-map}
use lib.Seq.{take-append_seam}
use Rattle.route.specs.declared.Places.{Places}
use Rattle.refusal.specs.Rows.{first}
use Rattle.refusal.specs.declared.Outcome.{Outcome}
use Rattle.version.specs.Limits.{present, Limits}
use Rattle.version.specs.declared.Version.{Version}
use Rattle.version.proofs.Limits.{present-limits}
use Rattle.job.specs.Job.{Job}
use Rattle.job.specs.Lines.{line_rows}
use Rattle.layout.specs.Text.{Lines, text}
use Rattle.layout.proofs.Sound.{sound}
use Rattle.facts.specs.Forms.{record_of}
use Rattle.facts.specs.Facts.{read_by, read_of, job_read}
use Rattle.facts.specs.SheetRows.{sheet_rows, filled, places_read, facts_record, sheet_of}
use Rattle.facts.proofs.RowsFold.{filled-steps}
use Rattle.facts.specs.LinesOf.{lines_of, WideJob, as_records}
use Rattle.facts.specs.Marks.{MarksTo}
use Rattle.facts.specs.Starts.{StartsTo}
use Rattle.facts.proofs.PassingLines.{Passes, AllLines, lines-fine, all-marks, all-starts}
use Rattle.facts.proofs.Ties.{tie}
use Rattle.facts.proofs.ReadRecords.{ReadAs, records-forms, places-back, reads_as, read_back, text-reads}
use Rattle.facts.proofs.Widths.{lines_same, rows-as-records, rows-wide}
use Rattle.writer.specs.Written.{written_by, written}

-- what reading accepts, writing gives back byte for byte
pub read-then-write : {v : Version} → Limits v → (s : List ℕ) → (read_by v s).number ≡ 0
    → written_by v (job_read (read_by v s)) ≡ s
unfolding written_by
read-then-write {v} limits s z =
    let r = reads_as v s z in
    ap (text v) (read_back limits s r) ∙ sym (sound v limits s r.lines r.parsed).same

-- a sheet that reads is that of its own records
pub read-sheet_of : (v : Version) (s : List ℕ) → (read_by v s).number ≡ 0
    → read_by v s ≡ sheet_of (job_read (read_by v s))
unfolding facts_record filled
read-sheet_of v s z = r.facts ∙ ap sheet_of (sym (ap job_read r.facts ∙ same))
  where
    r : ReadAs v s
    r = reads_as v s z

    x : Lines
    x = r.lines

    fine : AllLines v x
    fine = lines-fine v x r.passes

    old-places : Places
    old-places = places_read v x.old_places x.old_start

    new-places : Places
    new-places = places_read v x.new_places x.new_start

    same : job_read (facts_record v x) ≡ record {
      old_places = old-places;
      old = map record_of x.old;
      new_places = new-places;
      new = map record_of x.new;
      done = x.done;
    }
    same =
        λ i. record {
          old_places = old-places;
          old = filled-steps old-places (map record_of x.old)
              (omega (arith, length-map x.old record_of, fine.old_few)) i;
          new_places = new-places;
          new = filled-steps new-places (map record_of x.new)
              (omega (arith, length-map x.new record_of, fine.new_few)) i;
          done = take-append_seam x.done (replicate (64 - length x.done) 0) i;
        }

-- what a version writes of records whose lines, marks and starts it allows, it reads back
pub lines-then-read : {v : Version} → Limits v → (j : Job) → WideJob j → MarksTo v.cloth (lines_of j)
    → StartsTo v.starts (lines_of j) → Passes (sheet_rows v (lines_of j)) → read_by v (written_by v j) ≡ sheet_of j
unfolding written_by lines_of facts_record
lines-then-read {v} limits j wide marks starts passes =
    let old-places = places-back v j.old_places wide.old_start starts.old in
    let new-places = places-back v j.new_places wide.new_start starts.new in
    text-reads limits (lines_of j) marks starts passes
    ∙ (λ i. record {
      number = 0;
      second = 0;
      old = filled (old-places i) (records-forms j.old wide.old i);
      new = filled (new-places i) (records-forms j.new wide.new i);
      done_len = length j.done;
      done =
          j.done ++ replicate (64 - length j.done) 0;
    })

-- what writing gives, reading takes back fact for fact
pub write-then-read : (j : Job) → Passes (line_rows j) → read_of (written j) ≡ sheet_of (as_records j)
unfolding written_by
write-then-read j h =
    let wide = rows-wide j h in
    ap (λ (x : Lines). read_of (text present x)) (sym (lines_same j))
    ∙ lines-then-read present-limits (as_records j) wide (all-marks (lines_of (as_records j)))
    (all-starts (lines_of (as_records j)))
    (ap (λ (rows : List Outcome). eqb (first rows).number 0) (tie (as_records j) wide ∙ rows-as-records j) ∙ h)
