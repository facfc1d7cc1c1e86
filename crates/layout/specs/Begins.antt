-- That a sheet begins so, in a version of the layout
use Rattle.std.specs.Prelude.{◌≡◌, List, ◌++◌, ℕ, suc, ◌≤◌, ◌<◌, length, take}
use Rattle.version.specs.declared.Version.{Version}
use Rattle.layout.specs.Text.{Lines, ShortLines, text}

-- the bytes are a sheet by its layout
pub record IsSheet (v : Version) (s : List ℕ) : Type 0 where
  pub lines : Lines
  pub short : ShortLines v lines
  pub same : s ≡ text v lines

-- some sheet begins with these bytes
pub record Begins (v : Version) (s : List ℕ) : Type 0 where
  pub rest : List ℕ
  pub sheet : IsSheet v (s ++ rest)

-- "offset of the first byte where no sheet begins so, or the length if it ends early"
pub record FirstBroken (v : Version) (s : List ℕ) (k : ℕ) : Type 0 where
  pub within : k ≤ length s
  pub begins : Begins v (take k s)
  pub no_longer : k < length s → Begins v (take (suc k) s) → ⊥
  pub no-sheet : IsSheet v s → ⊥
