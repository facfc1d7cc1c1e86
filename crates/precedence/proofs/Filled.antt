-- An array that is filled from the front: entry by entry it is the function so far and 0 past that, and where the rest
-- of the function is 0 it is the whole function.
use mathlib.Core.Path.{◌≡◌, refl, sym, ap, ◌∙◌}
use mathlib.Core.Bool.{Bool, true, false, cond}
use mathlib.Core.List.{List, map}
use Prim.Native.Nat.{ℕ, zero, suc, ◌+◌, ◌≤◌, ◌<◌}
use native.Mathlib.Omega.{arith}
use lib.Dec.{eqb, ltb}
use lib.ListN.{length, get_or, set, replicate, length-map}
use lib.Seq.{get_or-set_same, get_or-set_other, ext_get_or}
use borrow.Author.Tests.{lt-ltb, le-ltb, ltb-true, ltb-false, eqb-true, eqb-false}
use Rattle.mask.proofs.Truth.{split}
use Rattle.precedence.specs.Order.{in_turn}
use Rattle.precedence.proofs.InTurn.{length-in_turn, get_or-map-in_turn}

abbrev pub Filled : (ℕ → ℕ) → ℕ → List ℕ → Type 0
Filled f i a = (k : ℕ) → get_or a k 0 ≡ cond (ltb k i) (f k) 0

pub zeros-at : (n k : ℕ) → get_or {A = ℕ} (replicate n 0) k 0 ≡ 0
zeros-at zero k = refl
zeros-at (suc n) zero = refl
zeros-at (suc n) (suc k) = zeros-at n k

pub filled_none : (f : ℕ → ℕ) (n : ℕ) → Filled f 0 (replicate n 0)
filled_none f n k = zeros-at n k ∙ ap (λ (t : Bool). cond t (f k) 0) (sym (le-ltb k 0 (omega arith)))

pub filled_more : (f : ℕ → ℕ) (i v : ℕ) (a : List ℕ) → Filled f i a → i < length a → v ≡ f i
    → Filled f (i + 1) (set a i v)
filled_more f i v a h room e k = go (eqb k i) refl
  where
    there : k ≡ i → get_or (set a i v) k 0 ≡ cond (ltb k (i + 1)) (f k) 0
    there p = ap (λ (n : ℕ). get_or (set a i v) n 0) p ∙ get_or-set_same a i v 0 room ∙ e ∙ ap f (sym p)
        ∙ ap (λ (t : Bool). cond t (f k) 0) (sym (lt-ltb k (i + 1) (omega arith)))

    same_test : (k ≡ i → ⊥) → ltb k i ≡ ltb k (i + 1)
    same_test far = split (λ (t : Bool). t ≡ ltb k (i + 1)) (ltb k i)
        (λ u. sym (lt-ltb k (i + 1) (omega (arith, ltb-true k i u))))
        (λ u. sym (le-ltb k (i + 1) (omega (arith, ltb-false k i u))))

    go : (t : Bool) → eqb k i ≡ t → get_or (set a i v) k 0 ≡ cond (ltb k (i + 1)) (f k) 0
    go true p = there (eqb-true k i p)
    go false p = get_or-set_other a i k v 0 (eqb-false k i p) ∙ h k
        ∙ ap (λ (t : Bool). cond t (f k) 0) (same_test (eqb-false k i p))

pub filled-all : (f : ℕ → ℕ) (i n : ℕ) (a : List ℕ) → length a ≡ n → Filled f i a → ((k : ℕ) → i ≤ k → f k ≡ 0)
    → a ≡ map f (in_turn 0 n)
filled-all f i n a len h rest = ext_get_or 0 a (map f (in_turn 0 n))
    (len ∙ sym (length-map (in_turn 0 n) f ∙ length-in_turn 0 n))
    (λ k b. h k ∙ here k ∙ sym (get_or-map-in_turn f 0 n k (omega arith) ∙ ap f (omega arith)))
  where
    here : (k : ℕ) → cond (ltb k i) (f k) 0 ≡ f k
    here k = split (λ (t : Bool). cond t (f k) 0 ≡ f k) (ltb k i) (λ u. refl) (λ u. sym (rest k (ltb-false k i u)))
