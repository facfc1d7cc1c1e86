-- The rows of the heads, as the facts have them.
use Rattle.std.specs.Prelude.{not, [], ◌∷◌, ℕ, eqb}
use Rattle.refusal.specs.Rows.{unless, first}
use Rattle.refusal.specs.declared.Outcome.{Outcome}
use Rattle.job.specs.Lines.{places_fit}

unfoldable pub head_row : ℕ → ℕ → Outcome
head_row line n = unless (places_fit n) 2 line

unfoldable pub new_row : ℕ → ℕ → ℕ → Outcome
new_row line above n = first (unless (not (eqb above 0)) 4 line ∷ unless (places_fit n) 2 line ∷ [])

unfoldable pub job_row : ℕ → ℕ → Outcome
job_row line above = unless (not (eqb above 0)) 4 line
