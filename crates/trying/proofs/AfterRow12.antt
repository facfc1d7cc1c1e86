-- What try finds where no row to 12 refuses: all that the rows after it start from.
use mathlib.Core.Path.{◌≡◌}
use mathlib.Core.List.{List}
use Prim.Native.Nat.{ℕ}
use native.Mathlib.Omega.{arith}
use Rattle.refusal.specs.Rows.{pass}
use Rattle.route.specs.declared.Step.{Step}
use Rattle.job.specs.Job.{Job, job_line, new_start}
use Rattle.preparing.specs.inner.Preparing.{PairsOf, PreparedOf}
use Rattle.preparing.specs.declared.Prepared.{Prepared}
use Rattle.occurrences.specs.Occurrences.{occurrences_of}
use Rattle.preparing.proofs.Preparation.{prepared-rows, steps-few, kept-has, kept-done}
use Rattle.preparing.proofs.Preparation.{pairs-matched}
use Rattle.matching.specs.KeptRows.{rows_to12}
use Rattle.matching.specs.inner.Pairs.{done_in, matched_in}
use Rattle.matching.specs.declared.Pairs.{Pairs}
use Rattle.matching.proofs.KeptRows.{kept_same}
use Rattle.trying.specs.Try.{try_list, tried}
use Rattle.trying.specs.inner.TryPrepared.{TryPrepared}
use Rattle.route.specs.declared.Fired.{Fired}
use Rattle.trying.proofs.TryRows.{tried-list}

module _ (j : Job) (p : Prepared) (rows : pass ≡ rows_to12 j) (occurrences matches : List ℕ)
    (is : PreparedOf j p occurrences matches) (x : Pairs) (pairs : PairsOf j x) where
  try-prepared : TryPrepared (new_start j) j.new (occurrences_of j) p (matched_in x)
  try-prepared =
      record {
        start_is = is.weighed.start_is;
        straight-is = is.weighed.straight-is;
        kept-are =
            record {
              kept-is = is.weighed.kept-is;
              matches-are = pairs-matched j p rows occurrences matches is x pairs;
              all_same = λ i h.
                  kept_same (job_line j) (new_start j) j.new (occurrences_of j)
                  (prepared-rows j p rows occurrences matches is) i
                  (omega (
                    arith,
                    steps-few j p rows occurrences matches is,
                    kept-done j p rows occurrences matches is i h,
                  ))
                  (kept-has j p rows occurrences matches is i h);
            };
      }

  -- the answer to the list is the answer
  pub tried-prepared :
      (o : List ℕ) (r : Fired)
      → ((from : ℕ) (new : List Step) → TryPrepared from new (done_in x) p (matched_in x)
      → r ≡ try_list from new (done_in x) o)
      → r ≡ tried j o
  tried-prepared o r answers =
      tried-list j o rows r ((rw pairs.done-are at answers) (new_start j) j.new try-prepared)
