-- The job part: "the caller's own bytes from `(job)` to the end".
use Rattle.std.specs.Prelude.{◌≡◌, cond, List, [], ◌∷◌, ℕ, zero, suc, ◌+◌, ◌≤◌, eqb, length, drop}
use Rattle.facts.specs.Facts.{read_of}

-- what follows the first n lines
unfoldable pub after_lines : ℕ → List ℕ → List ℕ
after_lines zero s = s
after_lines (suc n) [] = []
after_lines (suc n) (b ∷ s) = cond (eqb b 10) (after_lines n s) (after_lines (suc n) s)

-- past both heads, their start lines and both routes' steps; "a refused sheet gives the empty part at its start"
unfoldable pub job_part : List ℕ → List ℕ
job_part s = cond (eqb (read_of s).number 0) (after_lines ((read_of s).old.len + (read_of s).new.len + 4) s) []

-- an offset past the first n lines
pub record PastLines (n : ℕ) (s : List ℕ) (k : ℕ) : Type 0 where
  pub within : k ≤ length s
  pub rest : drop k s ≡ after_lines n s
