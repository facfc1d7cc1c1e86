-- The operation slice: the kept occurrences and the precedence table.
use Rattle.std.specs.Prelude.{cond, ℕ, eqb, replicate, Result, Ok, Err}
use Rattle.refusal.specs.Refusal.{number_of}
use Rattle.refusal.specs.declared.Refusal.{Refusal}
use Rattle.job.specs.Job.{Job}
use Rattle.running.specs.Run.{ran}
use Rattle.occurrences.specs.Occurrences.{occurrences_of}
use Rattle.precedence.specs.Table.{table}
use Rattle.slice.specs.Slice.{variables, kept_mask}
use Rattle.slicing.specs.declared.Sliced.{Sliced}
use Rattle.slicing.specs.declared.Slicing.{Slicing}

-- a refusal: its number and second number, all else 0
abbrev pub sliced_stopped : ℕ → ℕ → Sliced
sliced_stopped n k = record { number = n; second = k; kept = 0; table = replicate 64 0 }

-- the answer in numbers
abbrev pub sliced_of : Result Slicing Refusal → Sliced
sliced_of (Ok s) = record { number = 0; second = 0; kept = s.kept; table = s.table }
sliced_of (Err e) = sliced_stopped (number_of e.row) e.second

-- the rows to 9, then "the kept occurrences and the table over all"
unfoldable pub sliced : Job → Sliced
sliced j =
    cond (eqb (ran j).number 0)
    (record {
      number = 0;
      second = 0;
      kept = kept_mask (occurrences_of j) (variables j.new);
      table = table (occurrences_of j);
    })
    (sliced_stopped (ran j).number (ran j).second)
