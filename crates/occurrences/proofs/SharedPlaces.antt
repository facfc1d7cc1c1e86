-- The places that two or more steps take from: the sweep that finds them, and what they are.
use mathlib.Core.Path.{◌≡◌, refl, sym, ap, ap₂, ◌∙◌}
use mathlib.Core.Logic.{◌↔◌}
use mathlib.Core.Bool.{Bool, true, false, ◌&&◌, ◌||◌, and-false, or-false, or-true}
use mathlib.Core.List.{List, [], ◌∷◌}
use Prim.Native.Nat.{ℕ, zero, suc, ◌<◌}
use native.Mathlib.Omega.{arith}
use lib.Bits.{bit_and, bit_or}
use lib.ListN.{length, get_or}
use Rattle.mask.specs.Mask.{has}
use Rattle.mask.proofs.Laws.{has-and, has-or, has-zero, has-ext}
use Rattle.mask.proofs.Truth.{both}
use Rattle.route.specs.Steps.{blank, union}
use Rattle.route.specs.declared.Step.{Step}
use Rattle.occurrences.specs.Occurrences.{shared}
use Rattle.occurrences.proofs.Union.{union-iff}

abbrev takes : Step → ℕ
takes t = t.ins

-- ---- the sweep: what one step so far takes from, what two do, and the steps that are left

abbrev pub Sharing : List Step → ℕ → ℕ → List Step → Type 0
Sharing l once twice left = bit_or twice (bit_or (bit_and once (union takes left)) (shared left)) ≡ shared l

pub sharing-init : (l left : List Step) → left ≡ l → Sharing l 0 0 left
sharing-init l left e = rw e (has-ext _ _ (λ p.
    has-or 0 _ p ∙ ap₂ (λ (a b : Bool). a || b) (has-zero p)
    (has-or (bit_and 0 (union takes l)) (shared l) p
    ∙ ap (λ (t : Bool). t || has (shared l) p) (has-and 0 (union takes l) p
    ∙ ap (λ (t : Bool). t && has (union takes l) p) (has-zero p)))))

pub sharing-step : (l left after : List Step) (once twice : ℕ) (s : Step) → left ≡ s ∷ after → Sharing l once twice left
    → Sharing l (bit_or once s.ins) (bit_or twice (bit_and once s.ins)) after
unfolding shared union
sharing-step l left after once twice s e h = has-ext _ _ same ∙ rw e at h
  where
    u : ℕ
    u = union takes after

    table : (t o i u r : Bool) → ((t || (o && i)) || (((o || i) && u) || r)) ≡ (t || ((o && (i || u)) ||
        ((i && u) || r)))
    table true o i u r = refl
    table false true true u r = refl
    table false true false true r = refl
    table false true false false r = refl
    table false false true u r = refl
    table false false false u r = refl

    same : (p : ℕ) → has (bit_or (bit_or twice (bit_and once s.ins)) (bit_or (bit_and (bit_or once s.ins) u)
        (shared after))) p
        ≡ has (bit_or twice (bit_or (bit_and once (bit_or s.ins u)) (bit_or (bit_and s.ins u) (shared after)))) p
    same p =
        has-or _ _ p
        ∙ ap₂ (λ (a b : Bool). a || b)
        (has-or twice _ p ∙ ap (λ (t : Bool). has twice p || t) (has-and once s.ins p))
        (has-or _ (shared after) p ∙ ap (λ (t : Bool). t || has (shared after) p)
        (has-and _ u p ∙ ap (λ (t : Bool). t && has u p) (has-or once s.ins p)))
        ∙ table (has twice p) (has once p) (has s.ins p) (has u p) (has (shared after) p)
        ∙ sym (has-or twice _ p ∙ ap (λ (t : Bool). has twice p || t)
        (has-or _ _ p ∙ ap₂ (λ (a b : Bool). a || b)
        (has-and once _ p ∙ ap (λ (t : Bool). has once p && t) (has-or s.ins u p))
        (has-or _ (shared after) p ∙ ap (λ (t : Bool). t || has (shared after) p) (has-and s.ins u p))))

pub sharing-done : (l left : List Step) (once twice : ℕ) → left ≡ [] → Sharing l once twice left → twice ≡ shared l
unfolding shared union
sharing-done l left once twice e h = has-ext _ _ (λ p. sym (same p)) ∙ rw e at h
  where
    same : (p : ℕ) → has (bit_or twice (bit_or (bit_and once 0) 0)) p ≡ has twice p
    same p =
        has-or twice _ p
        ∙ ap (λ (t : Bool). has twice p || t) (has-or _ 0 p
        ∙ ap₂ (λ (a b : Bool). a || b) (has-and once 0 p ∙ ap (λ (t : Bool). has once p && t) (has-zero p)) (has-zero p)
        ∙ ap (λ (t : Bool). t || false) (and-false (has once p)))
        ∙ or-false (has twice p)

-- ---- what they are: places that two steps of the route take from

module _ (p : ℕ) where
  abbrev pub TwoTake : List Step → Type 0
  TwoTake l =
      (i : ℕ) × (k : ℕ) × ((i < k) × (k < length l))
      × ((has (get_or l i blank).ins p ≡ true) × (has (get_or l k blank).ins p ≡ true))

  from-shared : (l : List Step) → has (shared l) p ≡ true → TwoTake l
  unfolding shared
  from-shared [] e = absurd (let z : false ≡ true = sym (has-zero p) ∙ e in cc)
  from-shared (s ∷ l) e =
      go (has s.ins p && has (union takes l) p) refl
      (sym (has-or _ (shared l) p ∙ ap (λ (t : Bool). t || has (shared l) p) (has-and s.ins (union takes l) p)) ∙ e)
      (from-shared l)
    where
      go : (t : Bool) → (has s.ins p && has (union takes l) p) ≡ t → (t || has (shared l) p) ≡ true
          → (has (shared l) p ≡ true → TwoTake l) → TwoTake (s ∷ l)
      go true h e on =
          let (a, b) = both (has s.ins p) (has (union takes l) p) h in
          let (k, c, d) = (union-iff takes p l).0 b in
          (0, suc k, (omega arith, omega arith), (a, d))
      go false h e on = let (i, k, (a, b), t) = on e in (suc i, suc k, (omega arith, omega arith), t)

  to-shared : (l : List Step) → TwoTake l → has (shared l) p ≡ true
  unfolding shared
  to-shared [] (i, k, (a, b), t) = absurd (omega arith)
  to-shared (s ∷ l) (i, zero, (a, b), t) = absurd (omega arith)
  to-shared (s ∷ l) (zero, suc k, (a, b), (c, d)) =
      has-or _ (shared l) p
      ∙ ap (λ (t : Bool). t || has (shared l) p)
      (has-and s.ins (union takes l) p
      ∙ ap₂ (λ (x y : Bool). x && y) c ((union-iff takes p l).1 (k, omega arith, d)))
  to-shared (s ∷ l) (suc i, suc k, (a, b), t) =
      has-or _ (shared l) p
      ∙ ap (λ (u : Bool). has (bit_and s.ins (union takes l)) p || u) (to-shared l (
        i,
        k,
        (omega arith, omega arith),
        t,
      ))
      ∙ or-true (has (bit_and s.ins (union takes l)) p)

  pub shared-iff : (l : List Step) → (has (shared l) p ≡ true) ↔ TwoTake l
  shared-iff l = (from-shared l, to-shared l)
