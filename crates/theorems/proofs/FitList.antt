-- What every fit list has: its steps are in the new route with the same reads, writes and mark, and they fire from the
-- new start. A straight list is the whole list, of which that is asked; of a list of the kept it is asked itself.
use mathlib.Core.Path.{◌≡◌, refl, sym, ap, ◌∙◌}
use mathlib.Core.Logic.{inl, inr}
use mathlib.Core.Bool.{true, false, true≢false}
use mathlib.Core.List.{List}
use mathlib.Core.Option
use mathlib.Core.Option.{Option, none, some}
use Prim.Native.Nat.{ℕ, ◌<◌}
use native.Mathlib.Omega.{arith}
use lib.ListN.{length, get_or}
use Rattle.mask.proofs.Truth.{both}
use Rattle.route.specs.Steps.{blank}
use Rattle.route.specs.declared.Step.{Step}
use Rattle.precedence.specs.Order.{times}
use Rattle.search.specs.Search.{is_some}
use Rattle.matching.specs.Straight.{all_of, same_step, fire_all, steps_on, runs_straight}
use Rattle.matching.proofs.AllOf.{all_of-elim}
use Rattle.matching.specs.Fit.{KeptFit, FitAt}
use Rattle.precedence.proofs.InTurn.{times-in_turn}
use Rattle.theorems.proofs.Entries.{all_of-steps_on-elim, steps_on-in_turn}

some_of : (q : Option ℕ) → is_some q ≡ true → q ≡ some (Option.get_or q 0)
unfolding is_some
some_of none h = cc
some_of (some m) h = refl

-- the marking at the end of a list that fires from the start
abbrev pub end_of : ℕ → List Step → List Step → ℕ
end_of from new s = Option.get_or (fire_all new from s) 0

module _ (from : ℕ) (new l : List Step) where
  pub straight-same : runs_straight from new l ≡ true → (i : ℕ) → i < length l → same_step new (get_or l i blank) ≡ true
  unfolding runs_straight
  straight-same h = all_of-elim (same_step new) l (both (all_of (same_step new) l) (is_some (fire_all new from l)) h).0

  pub straight-fires : runs_straight from new l ≡ true → fire_all new from l ≡ some (end_of from new l)
  unfolding runs_straight
  straight-fires h = some_of (fire_all new from l) (both (all_of (same_step new) l) (is_some (fire_all new from l)) h).1

  pub fit_same : (p : List ℕ) → FitAt from new l p → (i : ℕ) → 0 < times i p → same_step new (get_or l i blank) ≡ true
  fit_same p (inl s) i n = straight-same s.runs i (omega (arith, times-in_turn 0 (length l) i (rw s.whole at n)))
  fit_same p (inr k) i n = all_of-steps_on-elim (same_step new) l p k.same i n

  pub fit-fires : (p : List ℕ) → FitAt from new l p
      → fire_all new from (steps_on l p) ≡ some (end_of from new (steps_on l p))
  fit-fires p (inl s) = let all : steps_on l p ≡ l =
      ap (steps_on l) s.whole ∙ steps_on-in_turn l in rw all (straight-fires s.runs)
  fit-fires p (inr k) = some_of (fire_all new from (steps_on l p)) k.fires

  -- in a job that doesn't run straight only a list of the kept is fit
  pub fit-kept : runs_straight from new l ≡ false → (p : List ℕ) → FitAt from new l p → KeptFit from new l p
  fit-kept h p (inl s) = absurd (true≢false (sym s.runs ∙ h))
  fit-kept h p (inr k) = k
