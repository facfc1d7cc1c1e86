-- The round trips for the operations: what write leaves in a slice, read takes back; what read accepts, write gives
-- back. Assumes nothing.
use mathlib.Core.Path.{◌≡◌, sym, ap, ◌∙◌, subst}
use mathlib.Core.List.{List, ◌++◌}
use Prim.Native.Nat.{ℕ, ◌≤◌}
use lib.ListN.{length, take, drop}
use borrow.Author.Tests.{eq-eqb}
use Rattle.version.proofs.Limits.{present-limits}
use Rattle.job.specs.Job.{Job}
use Rattle.job.specs.Lines.{line_rows}
use Rattle.facts.specs.Facts.{read_of, job_read}
use Rattle.facts.specs.LinesOf.{as_records}
use Rattle.facts.specs.SheetRows.{sheet_of}
use Rattle.facts.proofs.ReadRecords.{read-lines}
use Rattle.refusal.specs.Rows.{first}
use Rattle.writer.specs.Written.{written}
use Rattle.writer.specs.Writes.{wrote, out_after}
use Rattle.writer.proofs.Inverses.{read-then-write, write-then-read}
use Rattle.out_slice.specs.OutSlice.{whole}
use Rattle.out_slice.proofs.PastRows.{past-whole, past-bytes, past-stands, past-fits}

module _ (j : Job) (o : List ℕ) (ok : (wrote j (length o)).number ≡ 0) where
  passes : ((first (line_rows j)).number ≡ 0) × (length (written j) ≤ length o)
  passes = past-fits (first (line_rows j)) (written j) (length o) ok

  -- the bytes written are the text
  pub text-stands : take (wrote j (length o)).written (out_after j o) ≡ written j
  text-stands = past-stands (first (line_rows j)) (written j) o passes.0 passes.1

  -- reading them gives the records
  pub write-reads : read_of (take (wrote j (length o)).written (out_after j o)) ≡ sheet_of (as_records j)
  write-reads = ap read_of text-stands ∙ write-then-read j (eq-eqb _ 0 passes.0)

-- write gives a sheet that reads back byte for byte, where there is room
pub read-writes : (s o : List ℕ) → (read_of s).number ≡ 0 → length s ≤ length o
    → (wrote (job_read (read_of s)) (length o) ≡ whole (length s))
    × (out_after (job_read (read_of s)) o ≡ s ++ drop (length s) o)
read-writes s o z room =
    let j : Job = job_read (read_of s) in
    let same : written j ≡ s = read-then-write present-limits s z in
    let fits : length (written j) ≤ length o = subst (λ (t : List ℕ). length t ≤ length o) (sym same) room in (
      past-whole (first (line_rows j)) (written j) o (read-lines s z) fits
          ∙ ap (λ (t : List ℕ). whole (length t)) same,
      past-bytes (first (line_rows j)) (written j) o (read-lines s z) fits
          ∙ ap (λ (t : List ℕ). t ++ drop (length t) o) same,
    )
