-- An array whose first entries are a function's values, filled one after another.
use mathlib.Core.Path.{◌≡◌, sym, ap, ◌∙◌}
use mathlib.Core.List.{List, map}
use Prim.Native.Nat.{ℕ, ◌+◌, ◌<◌}
use native.Mathlib.Omega.{arith}
use native.Mathlib.Decide.{ℕ_discrete}
use lib.ListN.{length, get_or, set, length-map}
use lib.Seq.{get_or-set_same, get_or-set_other, ext_get_or}
use Rattle.precedence.specs.Order.{in_turn}
use Rattle.precedence.proofs.InTurn.{length-in_turn, get_or-map-in_turn}

abbrev pub Filling : (ℕ → ℕ) → ℕ → List ℕ → Type 0
Filling f i a = (k : ℕ) → k < i → get_or a k 0 ≡ f k

pub filling_step :
    (f : ℕ → ℕ) (i v : ℕ) (a : List ℕ)
    → Filling f i a
    → i < length a
    → v ≡ f i
    → Filling f (i + 1) (set a i v)
filling_step f i v a h room e k b = go (ℕ_discrete k i)
  where
    go : Dec (k ≡ i) → get_or (set a i v) k 0 ≡ f k
    go (yes p) = ap (λ (n : ℕ). get_or (set a i v) n 0) p ∙ get_or-set_same a i v 0 room ∙ e ∙ ap f (sym p)
    go (no p) = get_or-set_other a i k v 0 p ∙ h k (omega arith)

pub filling-done : (f : ℕ → ℕ) (n : ℕ) (a : List ℕ) → length a ≡ n → Filling f n a → a ≡ map f (in_turn 0 n)
filling-done f n a long h =
    ext_get_or 0 a (map f (in_turn 0 n)) (long ∙ sym (length-map (in_turn 0 n) f ∙ length-in_turn 0 n))
    (λ k b. h k (omega arith) ∙ sym (get_or-map-in_turn f 0 n k (omega arith) ∙ ap f (omega arith)))
