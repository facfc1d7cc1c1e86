-- An accepted list, replayed on the new route, leaves in every variable of the new route what the whole job left, and
-- cuts cloth in its sequence: the replay performs the occurrences with their own reads, writes and marks, and these are
-- all of them in turn, or the kept in order.
use mathlib.Core.Path.{◌≡◌, sym, ap, ◌∙◌}
use mathlib.Core.Logic.{inl, inr}
use mathlib.Core.Bool.{true}
use mathlib.Core.List.{List}
use mathlib.Core.Option.{some}
use Prim.Native.Nat.{ℕ, ◌<◌}
use lib.ListN.{length}
use Rattle.mask.specs.Mask.{has}
use Rattle.route.specs.Steps.{lookup}
use Rattle.route.specs.declared.Step.{Step}
use Rattle.job.specs.Job.{Job, new_start}
use Rattle.slice.specs.Slice.{variables}
use Rattle.precedence.specs.Order.{in_turn, times}
use Rattle.matching.specs.Fit.{kept_of, FitAt}
use Rattle.matching.proofs.SameStep.{same-step-elim}
use Rattle.trying.specs.Try.{tried}
use Rattle.theorems.specs.Values.{Store, Work, all_blank, replay, perform_all, cut_all}
use Rattle.occurrences.specs.Occurrences.{occurrences_of}
use Rattle.theorems.specs.Demand3.{Runs, name_at, positions, moved, InTurn, Carried}
use Rattle.theorems.proofs.Perform.{step_at}
use Rattle.theorems.proofs.FitList.{fit_same}
use Rattle.theorems.proofs.KeptValues.{kept-values, kept-cuts}
use Rattle.theorems.proofs.Replayed.{SameData, replay-performs}
use Rattle.theorems.proofs.Fires.{replay-fires, replay-turns}
use Rattle.theorems.proofs.Runs.{done-named, whole-job, whole-performs}
use Rattle.occurrences.proofs.DoneOccurrences.{length-occurrences}
use Rattle.theorems.proofs.Accepts.{positions-suc, try-fit, try-marking}

-- performing a fit list leaves what performing all leaves
fit-values : (from : ℕ) (new l : List Step) {T : Type 0} (f : Work T) (p : List ℕ) → FitAt from new l p → (v : ℕ)
    → has (variables new) v ≡ true
    → perform_all f (step_at l) p all_blank v ≡ perform_all f (step_at l) (in_turn 0 (length l)) all_blank v
unfolding kept_of
fit-values from new l f p (inl s) v w = ap (λ (o : List ℕ). perform_all f (step_at l) o all_blank v) s.whole
fit-values from new l f p (inr k) v w = kept-values f l (variables new) p k.once k.order v w

-- and cuts what all cut
fit-cuts : (from : ℕ) (new l : List Step) (p : List ℕ) → FitAt from new l p
    → cut_all (step_at l) p ≡ cut_all (step_at l) (in_turn 0 (length l))
unfolding kept_of
fit-cuts from new l p (inl s) = ap (cut_all (step_at l)) s.whole
fit-cuts from new l p (inr k) = kept-cuts l (variables new) p k.once k.order

module _ (j : Job) (ok : Runs j) (o : List ℕ) (e : (tried j o).number ≡ 0) {T : Type 0} (f : Work T) where
  fits : FitAt (new_start j) j.new (occurrences_of j) (positions o)
  fits = let r = (try-fit j ok o).0 e in rw (ap positions r.numbered ∙ positions-suc r.positions) r.fits

  replayed : ((moved f j o).whole ≡ true) × ((moved f j o).marking ≡ (tried j o).marking.tokens)
  unfolding replay
  replayed = replay-fires f j.new (name_at j) (occurrences_of j) (done-named j ok) (new_start j)
      (tried j o).marking.tokens all_blank (positions o) (try-marking j ok o e)

  turned : InTurn j.new (name_at j) (new_start j) (positions o) (moved f j o).passed
  unfolding replay
  turned = replay-turns f j.new (name_at j) (occurrences_of j) (done-named j ok) (new_start j)
      (tried j o).marking.tokens
      all_blank (positions o) (try-marking j ok o e)

  moved-performs : ((moved f j o).store ≡ perform_all f (step_at (occurrences_of j)) (positions o) all_blank)
      × ((moved f j o).cut ≡ cut_all (step_at (occurrences_of j)) (positions o))
  unfolding replay
  moved-performs = replay-performs f j.new (name_at j) (step_at (occurrences_of j)) (new_start j) all_blank
      (positions o) own
      replayed.0
    where
      own : (i : ℕ) (s : Step) → 0 < times i (positions o) → lookup (name_at j i) j.new ≡ some s
          → SameData s (step_at (occurrences_of j) i)
      own i s n h = same-step-elim j.new (step_at (occurrences_of j) i) s
          (fit_same (new_start j) j.new (occurrences_of j) (positions o) fits i n) (rw (done-named j ok i) h)

  -- what the done list cuts, in its own order
  pub moved-cuts : (moved f j o).cut ≡ cut_all (step_at (occurrences_of j)) (in_turn 0 (length j.done))
  moved-cuts = moved-performs.1 ∙ fit-cuts (new_start j) j.new (occurrences_of j) (positions o) fits
      ∙ ap (λ (n : ℕ). cut_all (step_at (occurrences_of j)) (in_turn 0 n)) (length-occurrences j)

  pub carried : Carried f j o
  carried =
      record {
        whole = replayed.0;
        turns = turned;
        marking = replayed.1;
        job = (whole-job j ok f).0;
        values = λ v w. ap (λ (σ : Store T). σ v) moved-performs.0
            ∙ fit-values (new_start j) j.new (occurrences_of j) f (positions o) fits v w
            ∙ ap (λ (n : ℕ). perform_all f (step_at (occurrences_of j)) (in_turn 0 n) all_blank v)
            (length-occurrences j)
            ∙ sym (ap (λ (σ : Store T). σ v) (whole-performs j ok f).0);
        cut = moved-cuts ∙ sym (whole-performs j ok f).1;
      }
