-- A job whose lines are refused alike runs alike; so the run of lists laid as numbers is that of the lists.
use mathlib.Core.Path.{◌≡◌}
use mathlib.Core.Bool.{false}
use lib.Dec.{eqb}
use Rattle.job.specs.Job.{Job, cut}
use Rattle.job.proofs.LongLists.{Refused, checked-alike, checked-off, laid-alike}
use Rattle.running.specs.Run.{ran}
use Rattle.route.specs.declared.Fired.{Fired}

module _ (j k : Job) (r : Refused j k) where
  pub ran-alike : ran j ≡ ran k
  unfolding ran
  ran-alike = rw (checked-alike j k r, checked-off j k r)

  pub ran-off : eqb (ran k).number 0 ≡ false
  unfolding ran
  ran-off = rw (checked-off j k r) (checked-off j k r)

pub ran_cut : (j k : Job) → k ≡ cut j → (r : Fired) → r ≡ ran k → r ≡ ran j
ran_cut = laid-alike ran ran-alike
