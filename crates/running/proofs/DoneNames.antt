-- The steps of a done list that runs to its end have the names that are done.
use mathlib.Core.Path.{◌≡◌, refl, ap, ap₂, ◌∙◌}
use mathlib.Core.List.{List, [], ◌∷◌}
use mathlib.Core.Option.{Option, get_or}
use Prim.Native.Nat.{ℕ, ◌+◌}
use native.Mathlib.Omega.{arith}
use Rattle.route.specs.Firing.{fire}
use Rattle.route.specs.Steps.{blank, names, lookup}
use Rattle.route.specs.declared.Step.{Step}
use Rattle.route.proofs.StepList.{lookup-name}
use Rattle.route.proofs.IfFires.{Fires, if_fires-elim}
use Rattle.job.specs.Job.{Job, job_line, old_start}
use Rattle.running.specs.Run.{run_from, ran, performed}
use Rattle.route.specs.declared.Fired.{Fired}
use Rattle.running.proofs.RunLine.{ran-passed, ran-checked}

module _ (steps : List Step) where
  -- the first line's step is there and fires, and the rest runs
  module _ (m line n : ℕ) (d : List ℕ) where
    pub first-fires : (run_from steps m line (n ∷ d)).number ≡ 0
        → Fires m (lookup n steps) (λ s m'. run_from steps m' (line + 1) d) (λ (r : Fired). r.number ≡ 0)
    unfolding run_from
    first-fires = if_fires-elim (λ (r : Fired). r.number ≡ 0) m (lookup n steps) _ _ _ (λ e. omega arith)
        (λ e. omega arith)

  pub run-names : (m line : ℕ) (done : List ℕ) → (run_from steps m line done).number ≡ 0
      → names (performed steps done) ≡ done
  unfolding names performed
  run-names m line [] e = refl
  run-names m line (n ∷ d) e =
      let f = first-fires m line n d e in
      ap₂ (λ (x : ℕ) (l : List ℕ). x ∷ l)
      (ap (λ (q : Option Step). (get_or q blank).name) f.there ∙ lookup-name n steps f.step f.there)
      (run-names (fire m f.step) (line + 1) d f.onward)

-- ---- the job

module _ (j : Job) (ok : (ran j).number ≡ 0) where
  pub ran-is : run_from j.old (old_start j) (job_line j + 1) j.done ≡ ran j
  ran-is = ran-passed j _ refl (ran-checked j ok)

  runs : (run_from j.old (old_start j) (job_line j + 1) j.done).number ≡ 0
  runs = ap (λ (r : Fired). r.number) ran-is ∙ ok

  pub performed-names : names (performed j.old j.done) ≡ j.done
  performed-names = run-names j.old (old_start j) (job_line j + 1) j.done runs
