-- How many names are compared, row by row: a line that is refused, a row from 6 to 9, and else both totals.
use mathlib.Core.Path.{◌≡◌, ap₂, ◌∙◌}
use mathlib.Core.List.{List}
use Prim.Native.Nat.{ℕ}
use Rattle.std.specs.Prelude.{Ok, Err}
use Rattle.refusal.specs.Rows.{refuse, first}
use Rattle.refusal.specs.Refusal.{number_of}
use Rattle.refusal.specs.declared.Refusal.{Refusal}
use Rattle.route.specs.Steps.{names}
use Rattle.lookup.specs.Around.{compared_all}
use Rattle.job.specs.Job.{Job, cut}
use Rattle.job.specs.Lines.{line_rows}
use Rattle.job.proofs.LongLists.{Refused, laid-alike}
use Rattle.running.specs.Run.{ran}
use Rattle.route.specs.Firing.{fired_of}
use Rattle.running.proofs.AfterRun.{line-ends, run_ends, run-answers}
use Rattle.running.proofs.LongLists.{ran-alike, ran-off}
use Rattle.finding.specs.Comparisons.{compared_stopped, comparisons}
use Rattle.finding.specs.inner.Gathering.{Gathers}
use Rattle.finding.specs.declared.Compared.{Compared}
use Rattle.finding.specs.declared.Gathered.{Gathered}

module _ (j : Job) where
  -- both totals
  abbrev pub both : Compared
  both =
      record {
        number = 0;
        second = 0;
        run = compared_all (names j.old) j.done;
        matched = compared_all (names j.new) j.done;
      }

  pub compare-line : (e : Refusal) → refuse (number_of e.row) e.second ≡ first (line_rows j)
      → compared_stopped (number_of e.row) e.second ≡ comparisons j
  unfolding comparisons
  compare-line e is = line-ends compared_stopped both j e is

  pub compare-run : (e : Refusal) → fired_of (Err e) ≡ ran j → compared_stopped (number_of e.row) e.second ≡ comparisons j
  unfolding comparisons
  compare-run e is = run_ends compared_stopped both j e is

  pub compare-both : (g : Gathered) → fired_of (Ok g.begun.marking) ≡ ran j → (v w : List ℕ) → Gathers j g v w
      → record { number = 0; second = 0; run = g.begun.compared; matched = g.matched } ≡ comparisons j
  unfolding comparisons
  compare-both g is v w gathers =
      ap₂ (λ (x y : ℕ). record { number = 0; second = 0; run = x; matched = y }) gathers.begins.compared_is gathers.compared_is
      ∙ run-answers compared_stopped both j _ is

-- ---- both lists laid as numbers: what a list has past its 65th step changes nothing

comparisons-alike : (j k : Job) → Refused j k → comparisons j ≡ comparisons k
unfolding comparisons
comparisons-alike j k r = rw (ran-alike j k r, ran-off j k r)

pub comparisons_cut : (j k : Job) → k ≡ cut j → (r : Compared) → r ≡ comparisons k → r ≡ comparisons j
comparisons_cut = laid-alike comparisons comparisons-alike
