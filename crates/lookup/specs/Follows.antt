-- "the next done step mostly stands just below the last one"
use Rattle.std.specs.Prelude.{◌≡◌, List, [], ◌∷◌, ℕ, suc, ◌≤◌, ◌<◌, length, get_or}

-- a list of names that follows the list l from a place on: its first name stands there, each further one just below the
-- one before it; below the last stands the top
pub data Follows (l : List ℕ) : ℕ → List ℕ → Type 0 where
  done : (from : ℕ) → Follows l from []
  below : (from n : ℕ) (sought : List ℕ) → from < length l → get_or l from 0 ≡ n → Follows l (suc from) sought
      → Follows l from (n ∷ sought)
  round : (from : ℕ) (sought : List ℕ) → length l ≤ from → Follows l 0 sought → Follows l from sought
