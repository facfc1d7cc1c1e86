-- A count within a list.
use Rattle.std.specs.Prelude.{◌≡◌, ℕ, ◌≤◌, List, length, take}

-- `&xs[..n]` is in bounds and has n entries. The second part follows from the first, and spares a caller's `&buf[..n]` a proof file.
abbrev pub IsPrefixLen : {A : Type 0} → ℕ → List A → Type 0
IsPrefixLen n xs = (n ≤ length xs) × (n ≡ length (take n xs))
