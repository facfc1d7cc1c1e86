-- Where the lines are refused write answers that refusal and leaves every byte, whatever else the job holds; so steps
-- past the 65th of a list change nothing.
use mathlib.Core.Path.{◌≡◌}
use mathlib.Core.List.{List}
use Prim.Native.Nat.{ℕ}
use Rattle.job.specs.Job.{Job, cut}
use Rattle.job.proofs.LongLists.{Refused, laid-alike}
use Rattle.writer.specs.Writes.{wrote, out_after}
use Rattle.out_slice.specs.OutSlice.{wrote_past, out_past}
use Rattle.out_slice.specs.declared.Wrote.{Wrote}

module _ (j k : Job) (r : Refused j k) where
  wrote-alike : (n : ℕ) → wrote j n ≡ wrote k n
  unfolding wrote_past
  wrote-alike n = rw (r.alike, r.refused)

  out-alike : (l : List ℕ) → out_after j l ≡ out_after k l
  unfolding out_past
  out-alike l = rw (r.alike, r.refused)

-- ---- both lists laid as numbers

pub wrote_cut : (room : ℕ) (j k : Job) → k ≡ cut j → (r : Wrote) → r ≡ wrote k room → r ≡ wrote j room
wrote_cut room = laid-alike (λ (j : Job). wrote j room) (λ j k x. wrote-alike j k x room)

pub out_cut : (l : List ℕ) (j k : Job) → k ≡ cut j → (o : List ℕ) → o ≡ out_after k l → o ≡ out_after j l
out_cut l = laid-alike (λ (j : Job). out_after j l) (λ j k x. out-alike j k x l)
