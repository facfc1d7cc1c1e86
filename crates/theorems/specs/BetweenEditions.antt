-- What converting gives, as bytes in an out slice.
use Rattle.std.specs.Prelude.{◌≡◌, List, ◌∷◌, ◌++◌, ℕ, ◌≤◌, length, drop}
use Rattle.out_slice.specs.OutSlice.{whole}
use Rattle.out_slice.specs.declared.Wrote.{Wrote}
use Rattle.refusal.specs.Rows.{first}
use Rattle.refusal.specs.declared.Outcome.{Outcome}
use Rattle.version.specs.Limits.{present}
use Rattle.facts.specs.Facts.{read_of}
use Rattle.converting.specs.Up.{raised, out_raised, read_row}
use Rattle.converting.specs.Nets.{net_rows}
use Rattle.converting.specs.Down.{present_job, lowered, out_lowered}
use Rattle.converting.specs.Either.{converted, out_converted}

-- into every out slice that has room for them the bytes t are written: the answer is 0, 0 and their count, they stand
-- at the front, and the rest is as it was
pub record Gives (answer : ℕ → Wrote) (after : List ℕ → List ℕ) (t : List ℕ) : Type 0 where
  pub answers : (out : List ℕ) → length t ≤ length out → answer (length out) ≡ whole (length t)
  pub leaves : (out : List ℕ) → length t ≤ length out → after out ≡ t ++ drop (length t) out

-- up gives t of the sheet s; down does; convert does
abbrev pub Raises : List ℕ → List ℕ → Type 0
Raises s t = Gives (raised s) (out_raised s) t

abbrev pub Lowers : List ℕ → List ℕ → Type 0
Lowers s t = Gives (lowered s) (out_lowered s) t

abbrev pub Converts : List ℕ → List ℕ → Type 0
Converts s t = Gives (converted s) (out_converted s) t

-- "rows 1 to 7 of the sheet given", of the present layout
abbrev pub to_row_7 : List ℕ → Outcome
to_row_7 s = first (read_row (read_of s) ∷ net_rows present (present_job s))
