-- Where a name stands among names.
use Rattle.std.specs.Prelude.{List, ℕ, ◌==◌, Option}
use Rattle.std.specs.Prelude as std

-- the first position of a name among names
unfoldable pub position : ℕ → List ℕ → Option ℕ
position n l = std.position (λ x. x == n) l
