-- What fires in turn is replayed to its end, and both end on the same marking: a replay fires the same steps.
use mathlib.Core.Path.{◌≡◌, refl, sym, ap, ◌∙◌}
use mathlib.Core.Bool.{true}
use mathlib.Core.List.{List, [], ◌∷◌}
use mathlib.Core.Option.{Option, none, some, none-ne-some, some-injective}
use Prim.Native.Nat.{ℕ}
use lib.ListN.{get_or}
use Rattle.route.specs.Firing.{fire, if_fires}
use Rattle.route.specs.Steps.{blank, lookup}
use Rattle.route.specs.declared.Step.{Step}
use Rattle.route.proofs.IfFires.{Fires, if_fires-can, if_fires-elim}
use Rattle.matching.specs.Straight.{fire_all, steps_on}
use Rattle.theorems.specs.Values.{Store, Work, perform, replay_from}
use Rattle.theorems.specs.Demand3.{InTurn}

-- a list that fires: its first step is there and fires, and the others fire from the next marking
pub fire_all-cons : (steps : List Step) (m e : ℕ) (s : Step) (l : List Step) → fire_all steps m (s ∷ l) ≡ some e
    → Fires m (lookup s.name steps) (λ t m'. fire_all steps m' l) (λ (r : Option ℕ). r ≡ some e)
unfolding fire_all
fire_all-cons steps m e s l = if_fires-elim (λ (r : Option ℕ). r ≡ some e) m (lookup s.name steps) none none _
    (none-ne-some e) (none-ne-some e)

module _ {T : Type 0} (f : Work T) (steps : List Step) (name : ℕ → ℕ) (l : List Step)
    (named : (i : ℕ) → (get_or l i blank).name ≡ name i) where
  pub replay-fires : (m e : ℕ) (σ : Store T) (o : List ℕ) → fire_all steps m (steps_on l o) ≡ some e
      → ((replay_from f steps name m σ o).whole ≡ true) × ((replay_from f steps name m σ o).marking ≡ e)
  unfolding fire_all steps_on replay_from if_fires
  replay-fires m e σ [] h = (refl, some-injective m e h)
  replay-fires m e σ (i ∷ o) h =
      let r = fire_all-cons steps m e (get_or l i blank) (steps_on l o) h in
      let there : lookup (name i) steps ≡ some r.step = ap (λ (n : ℕ). lookup n steps) (sym (named i)) ∙ r.there in
      rw (there, r.can) (replay-fires (fire m r.step) e (perform f i r.step σ) o r.onward)

  -- a marking after each entry, by firing its step on the one before
  pub replay-turns : (m e : ℕ) (σ : Store T) (o : List ℕ) → fire_all steps m (steps_on l o) ≡ some e
      → InTurn steps name m o (replay_from f steps name m σ o).passed
  unfolding fire_all steps_on replay_from if_fires
  replay-turns m e σ [] h = tt
  replay-turns m e σ (i ∷ o) h =
      let r = fire_all-cons steps m e (get_or l i blank) (steps_on l o) h in
      let there : lookup (name i) steps ≡ some r.step = ap (λ (n : ℕ). lookup n steps) (sym (named i)) ∙ r.there in
      rw (there, r.can) (
        if_fires-can m (lookup (name i) steps) none none _ r.step there r.can,
        replay-turns (fire m r.step) e (perform f i r.step σ) o r.onward,
      )
