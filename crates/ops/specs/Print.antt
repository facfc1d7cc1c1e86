-- The operation print: a sheet in, its listing out.
use Rattle.std.specs.Prelude.{cond, List, ℕ, eqb, leb}
use Rattle.facts.specs.Facts.{read_of, job_read}
use Rattle.judging.specs.Judge.{judged, work_after}
use Rattle.answering.specs.Answer.{judge_stopped}
use Rattle.answering.specs.declared.Judged.{Judged}
use Rattle.listing.specs.Listing.{listing}
use Rattle.out_slice.specs.OutSlice.{unwritten, wrote_text, out_with}
use Rattle.out_slice.specs.declared.Wrote.{Wrote}

-- what judge answers of a sheet's records; a sheet that doesn't read is refused as reading refuses it
unfoldable pub sheet_answer : List ℕ → Judged
sheet_answer s =
    cond (eqb (read_of s).number 0)
    (judged (job_read (read_of s)) 8192)
    (judge_stopped (read_of s).number (read_of s).second)

-- "a refusal up to 13 is itself the listing", and 02's 23, "like one up to 13"
unfoldable pub listing_of : List ℕ → List ℕ
listing_of s = listing (sheet_answer s)

-- "14: under 8,192 bytes" goes first; `work` and `room` are the lengths of the work slice and the out slice
unfoldable pub printed : List ℕ → ℕ → ℕ → Wrote
printed s work room = cond (leb 8192 work) (wrote_text (listing_of s) room) (unwritten 14 0)

unfoldable pub out_printed : List ℕ → ℕ → List ℕ → List ℕ
out_printed s work out = cond (leb 8192 work) (out_with (listing_of s) out) out

-- "the first 8,192 bytes of the work slice are 0" after a search; a sheet that doesn't read leaves it
unfoldable pub work_printed : List ℕ → List ℕ → List ℕ
work_printed s work = cond (eqb (read_of s).number 0) (work_after (job_read (read_of s)) work) work
