-- The round trip over lent lists: what reading a sheet into them leaves.
use Rattle.std.specs.Prelude.{◌≡◌, List, ◌++◌, ℕ, length, take, drop}
use Rattle.route.specs.declared.Step.{Step}
use Rattle.job.specs.Job.{Job}
use Rattle.records.specs.Overlaid.{overlaid}
use Rattle.facts.specs.Facts.{read_of}
use Rattle.writer.specs.Writes.{wrote, out_after}
use Rattle.lent.specs.Lent.{lent_job}
use Rattle.lent_reading.specs.Reading.{counted}
use Rattle.reader.specs.declared.Counts.{Counts}

-- the bytes that write leaves in a slice
abbrev pub bytes_written : Job → List ℕ → List ℕ
bytes_written j out = take (wrote j (length out)).written (out_after j out)

-- write gives the bytes s: it answers 0, 0 and their count, and leaves them at the front of the slice, and the rest as
-- it was
pub record WritesBytes (j : Job) (s out : List ℕ) : Type 0 where
  pub answer : wrote j (length out) ≡ record { number = 0; second = 0; written = length s }
  pub leaves : out_after j out ≡ s ++ drop (length s) out

-- what read answers, and what it leaves in three lists
abbrev pub counts_read : List ℕ → List Step → List Step → List ℕ → Counts
counts_read s old new done = counted (read_of s) (length old) (length new) (length done)

abbrev pub old_after : List ℕ → List Step → List Step → List ℕ → List Step
old_after s old new done = overlaid (counts_read s old new done).old_len (read_of s).old.steps old

abbrev pub new_after : List ℕ → List Step → List Step → List ℕ → List Step
new_after s old new done = overlaid (counts_read s old new done).new_len (read_of s).new.steps new

abbrev pub done_after : List ℕ → List Step → List Step → List ℕ → List ℕ
done_after s old new done = overlaid (counts_read s old new done).done_len (read_of s).done done

-- the job of the entries that were filled
abbrev pub job_into : List ℕ → List Step → List Step → List ℕ → Job
job_into s old new done =
    let n : Counts = counts_read s old new done in
    lent_job
    n.old_places (take n.old_len (old_after s old new done))
    n.new_places (take n.new_len (new_after s old new done))
    (take n.done_len (done_after s old new done))

-- Reading these bytes into the lists gives the job's counts and entries.
-- "Entries of a lent slice past those filled keep their contents"
pub record ReadsInto (s : List ℕ) (j : Job) (old new : List Step) (done : List ℕ) : Type 0 where
  pub counts : counts_read s old new done
      ≡ record {
        number = 0;
        second = 0;
        old_places = j.old_places;
        old_len = length j.old;
        new_places = j.new_places;
        new_len = length j.new;
        done_len = length j.done;
      }
  pub old_list : old_after s old new done ≡ j.old ++ drop (length j.old) old
  pub new_list : new_after s old new done ≡ j.new ++ drop (length j.new) new
  pub done_list : done_after s old new done ≡ j.done ++ drop (length j.done) done
