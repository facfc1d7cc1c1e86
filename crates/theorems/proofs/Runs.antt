-- What a job has that no row to 9 refuses: a done list of at most 64 known names, which fires on the old route from its
-- start. So the whole job comes to its end, and leaves what performing the steps done leaves, with their cloth cut in
-- turn.
use mathlib.Core.Path.{◌≡◌, refl, sym, ap, ◌∙◌}
use mathlib.Core.Bool.{true}
use mathlib.Core.List.{List, [], ◌∷◌}
use mathlib.Core.Option
use mathlib.Core.Option.{Option, some}
use Prim.Native.Nat.{ℕ, ◌+◌, ◌≤◌, ◌<◌}
use native.Mathlib.Omega.{arith}
use lib.ListN.{length, get_or}
use Rattle.route.specs.Firing.{fire, if_fires}
use Rattle.route.specs.Steps.{blank, lookup}
use Rattle.route.specs.declared.Step.{Step}
use Rattle.route.proofs.StepList.{lookup-name, get_or-names}
use Rattle.job.specs.Job.{Job, job_line, old_start}
use Rattle.running.specs.Run.{run_from, ran, performed}
use Rattle.route.specs.declared.Fired.{Fired}
use Rattle.running.proofs.DoneNames.{first-fires, ran-is, performed-names}
use Rattle.running.proofs.Performed.{performed-at}
use Rattle.occurrences.proofs.DoneOccurrences.{length-occurrences, names-occurrences, occurrence-at}
use Rattle.running.proofs.RunLine.{ran-fits}
use Rattle.precedence.specs.Order.{in_turn, times}
use Rattle.precedence.proofs.InTurn.{times-in_turn}
use Rattle.matching.specs.Straight.{fire_all}
use Rattle.theorems.specs.Values.{Work, all_blank, replay, perform_all, cut_all}
use Rattle.occurrences.specs.Occurrences.{shared, occurrence, occurrences_of}
use Rattle.theorems.specs.Demand3.{Runs, name_at, whole_job}
use Rattle.theorems.proofs.Fires.{replay-fires}
use Rattle.theorems.proofs.NarrowedReplay.{narrowed-fire}
use Rattle.theorems.proofs.Entries.{steps_on-in_turn}
use Rattle.theorems.proofs.Perform.{step_at}
use Rattle.theorems.proofs.Replayed.{SameData, replay-performs}

module _ (steps : List Step) where
  run-fires : (m line : ℕ) (done : List ℕ) → (run_from steps m line done).number ≡ 0
      → fire_all steps m (performed steps done) ≡ some (run_from steps m line done).marking.tokens
  unfolding run_from fire_all performed if_fires
  run-fires m line [] e = refl
  run-fires m line (n ∷ d) e =
      let r = first-fires steps m line n d e in
      let own : lookup (Option.get_or (lookup n steps) blank).name steps ≡ some r.step =
      ap (λ (q : Option Step). lookup (Option.get_or q blank).name steps) r.there
      ∙ ap (λ (x : ℕ). lookup x steps) (lookup-name n steps r.step r.there) ∙ r.there in
      rw (own, r.there, r.can) (run-fires (fire m r.step) (line + 1) d r.onward)

-- ---- the job

module _ (j : Job) (ok : Runs j) where
  pub steps-short : length (occurrences_of j) ≤ 64
  steps-short = omega (arith, (ran-fits j ok).done-fit, length-occurrences j)

  pub done-named : (i : ℕ) → (get_or (occurrences_of j) i blank).name ≡ name_at j i
  done-named i = sym (get_or-names (occurrences_of j) i)
      ∙ ap (λ (l : List ℕ). get_or l i 0) (names-occurrences j ∙ performed-names j ok)

  pub steps-fire : fire_all j.old (old_start j) (performed j.old j.done) ≡ some (ran j).marking.tokens
  steps-fire =
      run-fires j.old (old_start j) (job_line j + 1) j.done (ap (λ (r : Fired). r.number) (ran-is j ok) ∙ ok)
      ∙ ap (λ (r : Fired). some r.marking.tokens) (ran-is j ok)

  pub done-fires : fire_all j.old (old_start j) (occurrences_of j) ≡ some (ran j).marking.tokens
  unfolding occurrences_of
  done-fires = narrowed-fire j.old (shared j.old) (old_start j) (performed j.old j.done) ∙ steps-fire

  -- the whole job comes to its end, on the marking that run gives
  pub whole-job : {T : Type 0} (f : Work T)
      → ((whole_job f j).whole ≡ true) × ((whole_job f j).marking ≡ (ran j).marking.tokens)
  unfolding replay
  whole-job f = replay-fires f j.old (name_at j) (occurrences_of j) done-named (old_start j) (ran j).marking.tokens
      all_blank (in_turn 0 (length j.done)) (ap (fire_all j.old (old_start j))
      (rw (← length-occurrences j) (steps_on-in_turn (occurrences_of j))) ∙ done-fires)

  -- and leaves what performing the steps done leaves, with their cloth cut in turn
  pub whole-performs : {T : Type 0} (f : Work T)
      → ((whole_job f j).store ≡ perform_all f (step_at (occurrences_of j)) (in_turn 0 (length j.done)) all_blank)
      × ((whole_job f j).cut ≡ cut_all (step_at (occurrences_of j)) (in_turn 0 (length j.done)))
  unfolding replay occurrence
  whole-performs f = replay-performs f j.old (name_at j) (step_at (occurrences_of j)) (old_start j) all_blank
      (in_turn 0 (length j.done)) own (whole-job f).0
    where
      own : (i : ℕ) (s : Step) → 0 < times i (in_turn 0 (length j.done)) → lookup (name_at j i) j.old ≡ some s
          → SameData s (step_at (occurrences_of j) i)
      own i s n e =
          let same : get_or (occurrences_of j) i blank ≡ occurrence (shared j.old) s =
          occurrence-at j i
          ∙ ap (occurrence (shared j.old)) (performed-at j.old j.done i (omega (
            arith,
            times-in_turn 0
                (length j.done) i n,
          ))
          ∙ ap (λ (q : Option Step). Option.get_or q blank) e)
          in (
            ap (λ (x : Step). x.reads) (sym same),
            (ap (λ (x : Step). x.writes) (sym same), ap (λ (x : Step). x.cloth) (sym same)),
          )
