-- The round trip over lent lists: a sheet that is read as a job fills lists long enough with it, and write gives the
-- sheet back.
use mathlib.Core.Path.{◌≡◌, refl, sym, ap, ◌∙◌}
use mathlib.Core.List.{List, ◌++◌}
use Prim.Native.Nat.{ℕ, ◌≤◌}
use native.Mathlib.Omega.{arith}
use lib.Dec.{leb}
use lib.ListN.{length, take, drop, length-map}
use lib.Seq.{take-append_seam}
use borrow.Author.Tests.{leb-true, eqb-true, eq-eqb}
use Rattle.refusal.proofs.Rows.{head_passed, row-passed, cond-zero-elim}
use Rattle.route.specs.declared.Step.{Step}
use Rattle.job.specs.Job.{Job}
use Rattle.records.specs.Overlaid.{overlaid}
use Rattle.version.specs.Limits.{present}
use Rattle.facts.specs.Facts.{read_of, job_read}
use Rattle.facts.specs.SheetRows.{filled, sheet_of}
use Rattle.facts.specs.LinesOf.{as_record, as_records}
use Rattle.facts.specs.declared.Sheet.{Sheet}
use Rattle.writer.specs.Writes.{wrote}
use Rattle.writer.proofs.Inverses.{read-sheet_of}
use Rattle.writer.proofs.RoundTrips.{write-reads, read-writes}
use Rattle.lent_reading.specs.Reading.{read_row, counts, counted}
use Rattle.reader.specs.Refused.{no_counts}
use Rattle.reader.specs.declared.Counts.{Counts}
use Rattle.lent_reading.proofs.Counting.{count-all}
use Rattle.theorems.specs.RoundTrip.{bytes_written, WritesBytes, counts_read, job_into, ReadsInto}

-- an array that a list fills from the front, laid into another list
overlaid-front : {X : Type 0} (l r out : List X) → overlaid (length l) (l ++ r) out ≡ l ++ drop (length l) out
unfolding overlaid
overlaid-front l r out = ap (λ (k : List _). k ++ drop (length l) out) (take-append_seam l r)

-- ---- a sheet that is read as the job k

module _ (s : List ℕ) (k : Job) (is : read_of s ≡ sheet_of k) (old new : List Step) (done : List ℕ) where
  pub reads-into : length k.old ≤ length old → length k.new ≤ length new → length k.done ≤ length done
      → ReadsInto s k old new done
  unfolding filled
  reads-into a b c =
      let n = ap (λ (y : Sheet). counted y (length old) (length new) (length done)) is
      ∙ sym (count-all (sheet_of k) (length old) (length new) (length done) refl a b c) in
      record {
        counts = n;
        old_list = (λ i. overlaid (n i).old_len (is i).old.steps old) ∙ overlaid-front k.old _ old;
        new_list = (λ i. overlaid (n i).new_len (is i).new.steps new) ∙ overlaid-front k.new _ new;
        done_list = (λ i. overlaid (n i).done_len (is i).done done) ∙ overlaid-front k.done _ done;
      }

  filled-job : ReadsInto s k old new done → job_into s old new done ≡ k
  filled-job r =
      λ i. record {
        old_places = (r.counts i).old_places;
        old = ((λ i. take (r.counts i).old_len (r.old_list i))
            ∙ take-append_seam k.old (drop (length k.old) old)) i;
        new_places = (r.counts i).new_places;
        new = ((λ i. take (r.counts i).new_len (r.new_list i))
            ∙ take-append_seam k.new (drop (length k.new) new)) i;
        done = ((λ i. take (r.counts i).done_len (r.done_list i))
            ∙ take-append_seam k.done (drop (length k.done) done)) i;
      }

-- ---- what is written is read back

pub write-then-read-lent : (j : Job) (out : List ℕ) → (wrote j (length out)).number ≡ 0
    → (old new : List Step) (done : List ℕ) → length j.old ≤ length old → length j.new ≤ length new
    → length j.done ≤ length done → ReadsInto (bytes_written j out) (as_records j) old new done
unfolding as_records
write-then-read-lent j out ok old new done a b c =
    reads-into (bytes_written j out) (as_records j) (write-reads j out ok) old new done
    (omega (arith, length-map j.old as_record)) (omega (arith, length-map j.new as_record)) c

-- ---- what is read is written back

pub read-then-write : (s out : List ℕ) → (read_of s).number ≡ 0 → length s ≤ length out
    → WritesBytes (job_read (read_of s)) s out
read-then-write s out z room = let (answer, leaves) =
    read-writes s out z room in record { answer = answer; leaves = leaves }

-- a success of read: the sheet reads, and the lists are long enough
record Took (y : Sheet) (a b d : ℕ) : Type 0 where
  reads : y.number ≡ 0
  old : y.old.len ≤ a
  new : y.new.len ≤ b
  done : y.done_len ≤ d

took : (y : Sheet) (a b d : ℕ) → (counted y a b d).number ≡ 0 → Took y a b d
unfolding counted counts read_row
took y a b d ok =
    let (zero_is, _) = cond-zero-elim (λ (n : Counts). n.number) (read_row y a b d).number _
    (no_counts (read_row y a b d).number (read_row y a b d).second) refl ok in
    let at_read = head_passed _ _ (eq-eqb (read_row y a b d).number 0 zero_is) in
    let at_old = row-passed (leb y.old.len a) 15 y.old.len _ refl at_read.1 in
    let at_new = row-passed (leb y.new.len b) 15 y.new.len _ refl at_old.1 in
    let at_done = row-passed (leb y.done_len d) 15 y.done_len _ refl at_new.1 in
    record {
      reads = eqb-true y.number 0 at_read.0;
      old = leb-true _ _ at_old.0;
      new = leb-true _ _ at_new.0;
      done = leb-true _ _ at_done.0;
    }

module _ (s : List ℕ) (old new : List Step) (done : List ℕ) (ok : (counts_read s old new done).number ≡ 0) where
  success : Took (read_of s) (length old) (length new) (length done)
  success = took (read_of s) (length old) (length new) (length done) ok

  abbrev sheet-is : read_of s ≡ sheet_of (job_read (read_of s))
  sheet-is = read-sheet_of present s success.reads

  -- the entries filled are the sheet's job
  pub read-lent : ReadsInto s (job_read (read_of s)) old new done
  unfolding filled
  read-lent =
      reads-into s (job_read (read_of s)) sheet-is old new done
      (omega (arith, success.old, ap (λ (y : Sheet). y.old.len) sheet-is))
      (omega (arith, success.new, ap (λ (y : Sheet). y.new.len) sheet-is))
      (omega (arith, success.done, ap (λ (y : Sheet). y.done_len) sheet-is))

  pub read-then-write-lent : (out : List ℕ) → length s ≤ length out → WritesBytes (job_into s old new done) s out
  read-then-write-lent out room = rw (filled-job s (job_read (read_of s)) sheet-is old new done read-lent)
      (read-then-write s out success.reads room)
