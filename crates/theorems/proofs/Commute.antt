-- Two occurrences that do not clash commute: neither writes what the other reads, so both read the same either way, and
-- no variable is written by both. And where not both cut cloth, a swap leaves the sequence of cuts.
use mathlib.Core.Path.{◌≡◌, refl, sym, ap, ◌∙◌, fun_ext}
use mathlib.Core.Bool.{Bool, true, false, cond, ◌&&◌, or-true}
use mathlib.Core.List.{List, ◌∷◌}
use Prim.Native.Nat.{ℕ}
use lib.Bits.{bit_or}
use Rattle.mask.specs.Mask.{has, meets}
use Rattle.mask.proofs.Truth.{or-fails}
use Rattle.mask.proofs.Laws.{has-or, meets-none}
use Rattle.route.specs.declared.Step.{Step}
use Rattle.precedence.specs.Precedence.{clash}
use Rattle.precedence.proofs.Rows.{clash-comm}
use Rattle.theorems.specs.Values.{Store, Work, perform, perform_all, cut_then, cut_all}
use Rattle.theorems.proofs.Perform.{step_at, unwritten, perform_agree}
use Rattle.theorems.proofs.Reorder.{Swappable}

-- s writes nothing that t reads or writes
record Spares (s t : Step) : Type 0 where
  read : (v : ℕ) → has t.reads v ≡ true → has s.writes v ≡ false
  written : (v : ℕ) → has t.writes v ≡ true → has s.writes v ≡ false

spares : (s t : Step) → clash s t ≡ false → Spares s t
unfolding clash
spares s t h = record {
  read = λ v r. free v (has-or t.reads t.writes v ∙ rw r);
  written = λ v w. free v (has-or t.reads t.writes v ∙ rw w (or-true (has t.reads v)));
}
  where
    table : (x y : Bool) → (x && y) ≡ false → y ≡ true → x ≡ false
    table true y e k = sym k ∙ e
    table false y e k = refl

    free : (v : ℕ) → has (bit_or t.reads t.writes) v ≡ true → has s.writes v ≡ false
    free v = table (has s.writes v) (has (bit_or t.reads t.writes) v)
        (meets-none s.writes (bit_or t.reads t.writes)
        (or-fails (meets s.writes (bit_or t.reads t.writes))
        (meets t.writes (bit_or s.reads s.writes)) h) v)

module _ {T : Type 0} (f : Work T) where
  -- in a variable that s does not write
  commute-at : (i j : ℕ) (s t : Step) (σ : Store T) (v : ℕ) → Spares s t → has s.writes v ≡ false
      → perform f i s (perform f j t σ) v ≡ perform f j t (perform f i s σ) v
  commute-at i j s t σ v p w =
      unwritten f i s (perform f j t σ) v w
      ∙ sym (perform_agree f j t (perform f i s σ) σ v (λ u r. unwritten f i s σ u (p.read u r))
      (λ e. unwritten f i s σ v w))

  commute : (i j : ℕ) (s t : Step) (σ : Store T) → clash s t ≡ false
      → perform f i s (perform f j t σ) ≡ perform f j t (perform f i s σ)
  commute i j s t σ h = fun_ext (λ v. go v (has t.writes v) refl)
    where
      go : (v : ℕ) (b : Bool) → has t.writes v ≡ b
          → perform f i s (perform f j t σ) v ≡ perform f j t (perform f i s σ) v
      go v true w = commute-at i j s t σ v (spares s t h) ((spares s t h).written v w)
      go v false w = sym (commute-at j i t s σ v (spares t s (clash-comm t s ∙ h)) w)

-- the store that a list leaves
pub values-swap : {T : Type 0} (f : Work T) (l : List Step)
    → Swappable l (λ o k. (σ : Store T) → perform_all f (step_at l) o σ ≡ perform_all f (step_at l) k σ)
unfolding perform_all
values-swap f l =
    record {
      same = λ o σ. refl;
      then = λ a b σ. a σ ∙ b σ;
      front = λ x a σ. a (perform f x (step_at l x) σ);
      swap = λ x y o h m σ. ap (perform_all f (step_at l) o) (sym (commute f x y (step_at l x) (step_at l y) σ h));
    }

-- the sequence of those that cut cloth
pub cut-swap : (l : List Step) → Swappable l (λ o k. cut_all (step_at l) o ≡ cut_all (step_at l) k)
unfolding cut_all cut_then
cut-swap l =
    record {
      same = λ o. refl;
      then = λ a b. a ∙ b;
      front = λ x a. ap (cut_then x (step_at l x)) a;
      swap = λ x y o h m. table x y (step_at l x).cloth (step_at l y).cloth (cut_all (step_at l) o) m;
    }
  where
    table : (x y : ℕ) (a b : Bool) (o : List ℕ) → (a && b) ≡ false
        → cond a (x ∷ cond b (y ∷ o) o) (cond b (y ∷ o) o) ≡ cond b (y ∷ cond a (x ∷ o) o) (cond a (x ∷ o) o)
    table x y true true o e = cc
    table x y true false o e = refl
    table x y false true o e = refl
    table x y false false o e = refl
