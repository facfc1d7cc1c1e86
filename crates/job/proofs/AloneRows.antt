-- The rows of one route by itself in turn: its lines, then rows 6, 7 and 23.
use Rattle.std.proofs.Common.{◌≡◌, sym, ◌∙◌, List}
use Rattle.refusal.specs.Rows.{pass, refuse, first}
use Rattle.refusal.specs.declared.Outcome.{Outcome}
use Rattle.refusal.specs.Refusal.{number_of}
use Rattle.refusal.specs.declared.Refusal.{Refusal}
use Rattle.refusal.proofs.Rows.{first_alone}
use Rattle.refusal.proofs.Answered.{err-rows, ok-rows}
use Rattle.opening.specs.Net.{open_row}
use Rattle.route.specs.declared.Places.{Places}
use Rattle.route.specs.declared.Step.{Step}
use Rattle.job.specs.Lines.{route_rows}
use Rattle.job.specs.Alone.{alone_rows}

module _ (places : Places) (l : List Step) where
  pub alone-lines : (e : Refusal) → refuse (number_of e.row) e.second ≡ first (route_rows 1 places l)
      → refuse (number_of e.row) e.second ≡ first (alone_rows places l)
  unfolding alone_rows
  alone-lines e is = err-rows e (route_rows 1 places l) is _

  pub alone-opens : pass ≡ first (route_rows 1 places l) → (o : Outcome) → o ≡ open_row 1 places l
      → o ≡ first (alone_rows places l)
  unfolding alone_rows open_row
  alone-opens passed o opens = opens ∙ sym (first_alone _) ∙ sym (ok-rows (route_rows 1 places l) passed _)
