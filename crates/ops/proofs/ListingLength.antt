-- No listing of a sheet is longer than 7,053 bytes: judge's answers have a bound of their own, and a refusal is one
-- short line.
use mathlib.Core.Path.{◌≡◌, refl}
use mathlib.Core.Bool.{Bool, true, false, cond}
use mathlib.Core.List.{List}
use Prim.Native.Nat.{ℕ, ◌≤◌}
use lib.Dec.{eqb}
use lib.ListN.{length}
use Rattle.facts.specs.Facts.{read_of, job_read}
use Rattle.judging.specs.Judge.{judged}
use Rattle.answering.specs.Answer.{judge_stopped}
use Rattle.answering.specs.declared.Judged.{Judged}
use Rattle.listing.specs.Listing.{listing}
use Rattle.listing.proofs.Longest.{longest, stopped-short}
use Rattle.ops.specs.Print.{sheet_answer, listing_of}

pub listing-length : (s : List ℕ) → length (listing_of s) ≤ 7053
unfolding listing_of sheet_answer
listing-length s = go (eqb (read_of s).number 0) refl
  where
    go : (t : Bool) → eqb (read_of s).number 0 ≡ t
        → length (listing (cond t (judged (job_read (read_of s)) 8192)
        (judge_stopped (read_of s).number (read_of s).second))) ≤ 7053
    go true e = longest (job_read (read_of s)) 8192
    go false e = stopped-short (read_of s).number (read_of s).second

pub answer-length : (s : List ℕ) (a : Judged) → a ≡ sheet_answer s → length (listing a) ≤ 7053
unfolding listing_of
answer-length s a e = rw e (listing-length s)
