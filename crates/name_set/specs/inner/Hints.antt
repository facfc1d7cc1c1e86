-- What a table of hints promises of a list of names.
use Rattle.std.specs.Prelude.{◌≡◌, List, ℕ, ◌%◌, ◌≤◌, ◌<◌, length, get_or}

-- hints for names: that of a name's last digit in base 256 is at least 1; no hint is above the count of names
pub record Hinted (column hint : List ℕ) : Type 0 where
  pub room : length hint ≡ 256
  pub held : (d : ℕ) → get_or hint d 0 ≤ length column
  pub some : (j : ℕ) → j < length column → 1 ≤ get_or hint (get_or column j 0 % 256) 0
