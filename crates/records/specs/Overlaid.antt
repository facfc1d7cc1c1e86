-- Entries in a lent list.
use Rattle.std.specs.Prelude.{List, ◌++◌, ℕ, take, drop}

-- the first n entries of l, and then what stood there: "Entries of a lent slice past those filled keep their contents"
unfoldable pub overlaid : {X : Type 0} → ℕ → List X → List X → List X
overlaid n l out = take n l ++ drop n out
