-- The precedence table.
use Rattle.std.specs.Prelude.{List, map, ℕ}
use Rattle.route.specs.declared.Step.{Step}
use Rattle.precedence.specs.Precedence.{row}
use Rattle.precedence.specs.Order.{in_turn}

-- "one table with a row of occurrence bits for each occurrence"; rows past the last occurrence are 0
unfoldable pub table : List Step → List ℕ
table l = map (row l) (in_turn 0 64)
