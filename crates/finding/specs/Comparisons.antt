-- "It also tells how many names it compared": the totals of a job's look-ups.
use Rattle.std.specs.Prelude.{cond, ℕ, eqb, Result, Ok, Err}
use Rattle.refusal.specs.Refusal.{number_of}
use Rattle.refusal.specs.declared.Refusal.{Refusal}
use Rattle.route.specs.Steps.{names}
use Rattle.lookup.specs.Around.{compared_all}
use Rattle.job.specs.Job.{Job}
use Rattle.running.specs.Run.{ran}
use Rattle.finding.specs.declared.Compared.{Compared}
use Rattle.finding.specs.declared.Totals.{Totals}

-- a refusal: its number and second number, all else 0
abbrev pub compared_stopped : ℕ → ℕ → Compared
compared_stopped n k = record { number = n; second = k; run = 0; matched = 0 }

-- the answer in numbers
abbrev pub compared_of : Result Totals Refusal → Compared
compared_of (Ok t) = record { number = 0; second = 0; run = t.run; matched = t.matched }
compared_of (Err e) = compared_stopped (number_of e.row) e.second

-- the rows to 9; then the done names looked up in turn, in the old route by the run and in the new one by the match
unfoldable pub comparisons : Job → Compared
comparisons j =
    cond (eqb (ran j).number 0)
    (record {
      number = 0;
      second = 0;
      run = compared_all (names j.old) j.done;
      matched = compared_all (names j.new) j.done;
    })
    (compared_stopped (ran j).number (ran j).second)
