-- An occurrence is replayed as its step is: its name, its data and its mark are the step's own. So straight replay
-- doesn't see what it took and put.
use mathlib.Core.Path.{◌≡◌, refl, ap, ap₂}
use mathlib.Core.Bool.{Bool, cond, ◌&&◌}
use mathlib.Core.List.{List, [], ◌∷◌, map}
use mathlib.Core.Option.{Option, none, some}
use Prim.Native.Nat.{ℕ}
use Rattle.route.specs.Firing.{can_fire, fire, if_fires}
use Rattle.route.specs.Steps.{lookup}
use Rattle.route.specs.declared.Step.{Step}
use Rattle.job.specs.Job.{Job, new_start}
use Rattle.running.specs.Run.{performed}
use Rattle.occurrences.specs.Occurrences.{shared, occurrence, occurrences_of}
use Rattle.search.specs.Search.{is_some}
use Rattle.matching.specs.Straight.{same_data, same_step, all_of, fire_all, runs_straight}

module _ (steps : List Step) (places : ℕ) where
  pub narrowed-fire : (m : ℕ) (l : List Step) → fire_all steps m (map (occurrence places) l) ≡ fire_all steps m l
  unfolding fire_all if_fires occurrence
  narrowed-fire m [] = refl
  narrowed-fire m (s ∷ l) = go (lookup s.name steps) (λ n. narrowed-fire n l)
    where
      go : (q : Option Step) → ((n : ℕ) → fire_all steps n (map (occurrence places) l) ≡ fire_all steps n l)
          → if_fires m q none none (λ t m'. fire_all steps m' (map (occurrence places) l))
          ≡ if_fires m q none none (λ t m'. fire_all steps m' l)
      go none on = refl
      go (some t) on = ap (λ (x : Option ℕ). cond (can_fire m t) x none) (on (fire m t))

  same : (s : Step) → same_step steps (occurrence places s) ≡ same_step steps s
  unfolding same_step same_data occurrence
  same s = go (lookup s.name steps)
    where
      go : (q : Option Step) → same_data (occurrence places s) q ≡ same_data s q
      go none = refl
      go (some t) = refl

  all-same : (l : List Step) → all_of (same_step steps) (map (occurrence places) l) ≡ all_of (same_step steps) l
  unfolding all_of
  all-same [] = refl
  all-same (s ∷ l) = ap₂ (λ (a b : Bool). a && b) (same s) (all-same l)

  narrowed-straight : (m : ℕ) (l : List Step) → runs_straight m steps (map
      (occurrence places) l) ≡ runs_straight m steps l
  unfolding runs_straight
  narrowed-straight m l = ap₂ (λ (a : Bool) (o : Option ℕ). a && is_some o) (all-same l) (narrowed-fire m l)

pub straight-unaltered : (j : Job)
    → runs_straight (new_start j) j.new (occurrences_of j) ≡ runs_straight (new_start j) j.new (performed j.old j.done)
unfolding occurrences_of
straight-unaltered j = narrowed-straight j.new (shared j.old) (new_start j) (performed j.old j.done)
