-- A shelf by value holds eight entries, so an entry's offset is within a word.
use Prim.Native.Nat.{ℕ, ◌*◌, ◌<◌}
use native.Mathlib.Omega.{arith}
use mir.Syntax.{w64}
use mir.Val.{Fits}

-- an entry has 2,080 bytes
pub entry-fits : (i : ℕ) → i < 8 → Fits w64 (i * 2080)
entry-fits i h = omega arith
