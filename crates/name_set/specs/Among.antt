-- A name among names.
use Rattle.std.specs.Prelude.{Bool, false, ◌||◌, List, [], ◌∷◌, ℕ, eqb}

unfoldable pub among : ℕ → List ℕ → Bool
among n [] = false
among n (x ∷ l) = eqb x n || among n l
