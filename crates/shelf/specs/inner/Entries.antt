-- Where an edition and a later target stand among the numbers stored.
use Rattle.std.specs.Prelude.{List, ℕ, Option, None, nat_lt, if◌then◌else◌}
use Rattle.std.specs.Option.{option_zip}
use Rattle.lookup.specs.Position.{position}

unfoldable pub entries_in : ℕ → ℕ → List ℕ → Option (ℕ × ℕ)
entries_in edition target l =
    if nat_lt edition target then option_zip (position edition l) (position target l) else None
