-- Which way a sheet goes: its second line tells its version.
use Rattle.std.specs.Prelude.{Bool, cond, List, ◌∷◌, ℕ, eqb}
use Rattle.std.specs.List.{starts_with}
use Rattle.layout.specs.Words.{spelling}
use Rattle.layout.specs.declared.Word.TheVariants.{Start}
use Rattle.facts.specs.JobPart.{after_lines}
use Rattle.out_slice.specs.declared.Wrote.{Wrote}
use Rattle.converting.specs.Up.{raised, out_raised}
use Rattle.converting.specs.Down.{lowered, out_lowered}

-- what follows the first line begins with `(start`
unfoldable pub has_start_line : List ℕ → Bool
has_start_line s = starts_with eqb (after_lines 1 s) (40 ∷ spelling Start)

-- down where it has a start line, else up
unfoldable pub converted : List ℕ → ℕ → Wrote
converted s room = cond (has_start_line s) (lowered s room) (raised s room)

unfoldable pub out_converted : List ℕ → List ℕ → List ℕ
out_converted s out = cond (has_start_line s) (out_lowered s out) (out_raised s out)
