-- The bound on a listing is met: the sheet that writing gives of a job whose answer has that listing.
use mathlib.Core.Path.{◌≡◌, refl, ap, ◌∙◌}
use Prim.Native.Nat.{ℕ}
use mathlib.Core.List.{List}
use lib.ListN.{length}
use borrow.Author.Tests.{eq-eqb}
use Rattle.answering.specs.declared.Judged.{Judged}
use Rattle.facts.specs.SheetRows.{sheet_of}
use Rattle.facts.specs.LinesOf.{as_record, as_records}
use Rattle.writer.specs.Written.{written}
use Rattle.writer.proofs.Inverses.{write-then-read}
use Rattle.listing.specs.Listing.{listing}
use Rattle.ops.specs.Print.{listing_of}
use Rattle.examples.proofs.LongestListing.{longest_job, longest-passes, longest-judged}
use Rattle.theorems.proofs.EditionsJudged.{read-judged}

own-records : as_records longest_job ≡ longest_job
unfolding longest_job as_records as_record
own-records = refl

pub one-listing : (s : List ℕ) × (length (listing_of s) ≡ 7053)
unfolding listing_of
one-listing = (
  written longest_job,
  ap (λ (a : Judged). length (listing a)) (read-judged longest_job longest-passes (written longest_job)
      (write-then-read longest_job (eq-eqb _ 0 longest-passes) ∙ ap sheet_of own-records)) ∙ longest-judged,
)
