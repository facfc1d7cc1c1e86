-- A replay that comes to the end of its list leaves what performing the list leaves, and cuts what the list cuts: each
-- step that fires performs its occurrence, with what the occurrence reads and writes and with its mark.
use mathlib.Core.Path.{◌≡◌, refl, sym, ap, ap₂, ◌∙◌}
use mathlib.Core.Bool.{Bool, true, cond, false≢true}
use mathlib.Core.List.{List, [], ◌∷◌}
use mathlib.Core.Option.{some}
use Prim.Native.Nat.{ℕ, ◌<◌}
use native.Mathlib.Omega.{arith}
use Rattle.mask.specs.Mask.{has}
use Rattle.route.specs.Firing.{fire}
use Rattle.route.specs.Steps.{lookup}
use Rattle.route.specs.declared.Step.{Step}
use Rattle.route.proofs.IfFires.{if_fires-can, if_fires-elim}
use Rattle.precedence.specs.Order.{times}
use Rattle.theorems.specs.Values.{Store, Work, End, ended, readings, perform, perform_all, cut_then, cut_all}
use Rattle.theorems.specs.Values.{after, replay_from}
use Rattle.precedence.proofs.Times.{times-head}

-- the two steps read and write the same, and both are marked or neither
abbrev pub SameData : Step → Step → Type 0
SameData s t = (s.reads ≡ t.reads) × ((s.writes ≡ t.writes) × (s.cloth ≡ t.cloth))

perform-same : {T : Type 0} (f : Work T) (i : ℕ) (s t : Step) (σ : Store T) → SameData s t
    → perform f i s σ ≡ perform f i t σ
unfolding perform
perform-same {T} f i s t σ e = ap₂ {C = Store T} (λ (r w v : ℕ). cond (has w v) (some (f i v (readings r σ))) (σ v))
    e.0 e.1.0

module _ {T : Type 0} (f : Work T) (steps : List Step) (name : ℕ → ℕ) (at : ℕ → Step) where
  -- the first entry of a whole replay has a step that fires, and the replay goes on from it
  replay-cons : (m : ℕ) (σ : Store T) (i : ℕ) (o : List ℕ) → (replay_from f steps name m σ (i ∷ o)).whole ≡ true
      → (s : Step) × (lookup (name i) steps ≡ some s)
      × (replay_from f steps name m σ (i ∷ o) ≡
      after i s (fire m s) (replay_from f steps name (fire m s) (perform f i s σ) o))
  unfolding replay_from
  replay-cons m σ i o h =
      let r = if_fires-elim (λ (w : End T). w.whole ≡ true) m (lookup (name i) steps) (ended m σ) (ended m σ) _
      false≢true false≢true h in
      (r.step, r.there, if_fires-can m (lookup (name i) steps) (ended m σ) (ended m σ) _ r.step r.there r.can)

  pub replay-performs : (m : ℕ) (σ : Store T) (o : List ℕ)
      → ((i : ℕ) (s : Step) → 0 < times i o → lookup (name i) steps ≡ some s → SameData s (at i))
      → (replay_from f steps name m σ o).whole ≡ true
      → ((replay_from f steps name m σ o).store ≡ perform_all f at o σ)
      × ((replay_from f steps name m σ o).cut ≡ cut_all at o)
  unfolding perform_all cut_all cut_then times
  replay-performs m σ [] d h = unfold replay_from in (refl, refl)
  replay-performs m σ (i ∷ o) d h =
      let (s, e, on) = replay-cons m σ i o h in
      let own = d i s (times-head i (times i o)) e in
      let rest = replay-performs (fire m s) (perform f i s σ) o (λ j t n. d j t (omega arith))
      (sym (ap (λ (w : End T). w.whole) on) ∙ h) in (
        ap (λ (w : End T). w.store) on ∙ rest.0 ∙ ap (perform_all f at o) (perform-same f i s (at i) σ own),
        ap (λ (w : End T). w.cut) on ∙ ap₂ (λ (t : Bool) (k : List ℕ). cond t (i ∷ k) k) own.1.1 rest.1,
      )
