-- A job's look-ups: names are unique where no line is refused, and a done list that follows its route costs one each.
use mathlib.Core.Path.{◌≡◌, refl, sym, ap, ◌∙◌}
use lib.ListN.{length}
use borrow.Author.Tests.{eq-eqb}
use Rattle.route.specs.Steps.{names}
use Rattle.mask.proofs.Truth.{cond_yes}
use Rattle.lookup.specs.Around.{Unique}
use Rattle.lookup.specs.Follows.{Follows}
use Rattle.lookup.proofs.Totals.{total-follows}
use Rattle.job.specs.Job.{Job}
use Rattle.job.specs.Lines.{LinesPass}
use Rattle.job.proofs.Rows.{pass_fits}
use Rattle.running.specs.Run.{ran}
use Rattle.finding.specs.Comparisons.{compared_stopped, comparisons}
use Rattle.finding.specs.declared.Compared.{Compared}
use Rattle.finding.proofs.ComparedRows.{both}

pub names-unique : (j : Job) → LinesPass j → Unique (names j.old) × Unique (names j.new)
names-unique j e = ((pass_fits j e).old-fits.names-unique, (pass_fits j e).new-fits.names-unique)

module _ (j : Job) (runs : (ran j).number ≡ 0) where
  -- the totals of a job that no row to 9 refuses
  totals : comparisons j ≡ both j
  unfolding comparisons
  totals =
      sym (cond_yes (both j) (compared_stopped (ran j).number (ran j).second) refl (eq-eqb (ran j).number 0 runs))

  pub run-follows : Follows (names j.old) 0 j.done → (comparisons j).run ≡ length j.done
  run-follows f = ap (λ (c : Compared). c.run) totals ∙ total-follows 0 (names j.old) j.done f

  pub match-follows : Follows (names j.new) 0 j.done → (comparisons j).matched ≡ length j.done
  match-follows f = ap (λ (c : Compared). c.matched) totals ∙ total-follows 0 (names j.new) j.done f
