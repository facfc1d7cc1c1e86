-- Lists of occurrences, by their positions.
use Rattle.std.specs.Prelude.{◌≡◌, Bool, true, not, cond, ◌&&◌, List, [], ◌∷◌, ℕ, zero, suc, ◌+◌, eqb}
use Rattle.mask.specs.Mask.{has}
use Rattle.precedence.specs.Precedence.{comes_after}
use Rattle.route.specs.declared.Step.{Step}

-- k positions in turn, from i on
unfoldable pub in_turn : ℕ → ℕ → List ℕ
in_turn i zero = []
in_turn i (suc k) = i ∷ in_turn (suc i) k

-- how often i stands in o
unfoldable pub times : ℕ → List ℕ → ℕ
times i [] = 0
times i (x ∷ o) = cond (eqb x i) 1 0 + times i o

-- "holds each kept occurrence once and no other"
abbrev pub EachOnce : ℕ → List ℕ → Type 0
EachOnce kept o = (i : ℕ) → times i o ≡ cond (has kept i) 1 0

-- no entry passes the test
unfoldable pub none_of : (ℕ → Bool) → List ℕ → Bool
none_of t [] = true
none_of t (x ∷ o) = not (t x) && none_of t o

-- "none before one that it comes after"
unfoldable pub in_order : List Step → List ℕ → Bool
in_order l [] = true
in_order l (i ∷ o) = none_of (comes_after l i) o && in_order l o
