-- What performing an occurrence depends on: it sees of a store only the variables that it reads, and leaves alone what
-- it does not write.
use mathlib.Core.Path.{◌≡◌, refl, ap, ap₂}
use mathlib.Core.Bool.{Bool, true, false, cond}
use mathlib.Core.List.{List, ◌∷◌, map}
use mathlib.Core.Option.{Option, some}
use Prim.Native.Nat.{ℕ, zero, suc}
use lib.ListN.{get_or}
use Rattle.mask.specs.Mask.{has, members_from, members}
use Rattle.route.specs.Steps.{blank}
use Rattle.route.specs.declared.Step.{Step}
use Rattle.theorems.specs.Values.{Store, Work, readings, perform}

-- the step of the occurrence at position i of the done list
abbrev pub step_at : List Step → ℕ → Step
step_at l i = get_or l i blank

-- stores that agree on the variables of a set
abbrev pub Agree : {T : Type 0} → (ℕ → Bool) → Store T → Store T → Type 0
Agree among σ τ = (v : ℕ) → among v ≡ true → σ v ≡ τ v

module _ {T : Type 0} where
  map-members : (k w m : ℕ) (σ τ : Store T) → Agree (has m) σ τ
      → map σ (members_from w k m) ≡ map τ (members_from w k m)
  unfolding members_from
  map-members zero w m σ τ a = refl
  map-members (suc k) w m σ τ a = go (has m w) refl (map-members k (suc w) m σ τ a)
    where
      go : (t : Bool) → has m w ≡ t → map σ (members_from (suc w) k m) ≡ map τ (members_from (suc w) k m)
          → map σ (cond t (w ∷ members_from (suc w) k m) (members_from (suc w) k m))
          ≡ map τ (cond t (w ∷ members_from (suc w) k m) (members_from (suc w) k m))
      go true h ih = ap₂ (λ (x : Option T) (y : List (Option T)). x ∷ y) (a w h) ih
      go false h ih = ih

  module _ (f : Work T) (i : ℕ) (s : Step) where
    pub unwritten : (σ : Store T) (v : ℕ) → has s.writes v ≡ false → perform f i s σ v ≡ σ v
    unfolding perform
    unwritten σ v w = rw w

    -- the same readings, and the same in v unless it is written: the same in v afterwards
    pub perform_agree : (σ τ : Store T) (v : ℕ) → Agree (has s.reads) σ τ → (has s.writes v ≡ false → σ v ≡ τ v)
        → perform f i s σ v ≡ perform f i s τ v
    unfolding perform readings members
    perform_agree σ τ v a same = go (has s.writes v) same
      where
        go : (t : Bool) → (t ≡ false → σ v ≡ τ v)
            → cond t (some (f i v (readings s.reads σ))) (σ v) ≡ cond t (some (f i v (readings s.reads τ))) (τ v)
        go true h = ap (λ (r : List (Option T)). some (f i v r)) (map-members 32 0 s.reads σ τ a)
        go false h = h refl
