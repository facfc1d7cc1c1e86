-- When a written start is the implied one: place by place, by the steps' out-places.
use mathlib.Core.Path.{◌≡◌, sym, ap, ◌∙◌}
use mathlib.Core.Logic.{◌↔◌}
use mathlib.Core.Bool.{Bool, true, not, ◌&&◌}
use mathlib.Core.List.{List}
use Prim.Native.Nat.{ℕ}
use lib.Dec.{ltb}
use Rattle.mask.specs.Mask.{has, below, within}
use Rattle.mask.proofs.Laws.{has-ext, has-without, has-below, all-within}
use Rattle.mask.proofs.Truth.{both}
use Rattle.route.specs.Steps.{union}
use Rattle.route.specs.Firing.{implied_start}
use Rattle.route.specs.declared.Step.{Step}

module _ (count : ℕ) (l : List Step) where
  abbrev outs : ℕ
  outs = union (λ (s : Step). s.outs) l

  pub has-implied : (p : ℕ) → has (implied_start count l) p ≡ (ltb p count && not (has outs p))
  unfolding implied_start
  has-implied p = has-without (below count) outs p ∙ ap (λ (b : Bool). b && not (has outs p)) (has-below count p)

  -- exactly when each place has a token where it is below the count and an out-place of no step
  pub implied-iff : (m : ℕ) → (m ≡ implied_start count l) ↔ ((p : ℕ) → has m p ≡ (ltb p count && not (has outs p)))
  implied-iff m = (
    λ e p. ap (λ (x : ℕ). has x p) e ∙ has-implied p,
    λ h. has-ext m (implied_start count l) (λ p. h p ∙ sym (has-implied p)),
  )

  -- all of it is below the count
  pub implied-within : within (implied_start count l) (below count) ≡ true
  implied-within = all-within (implied_start count l) (below count)
      (λ v h. has-below count v ∙ (both (ltb v count) (not (has outs v)) (sym (has-implied v) ∙ h)).0)
