-- One route by itself meets the rows of an old route: 4, 2, 3 and 5 on its lines, then 6, 7 and 23.
use Rattle.std.specs.Prelude.{List, [], ◌∷◌, ◌++◌}
use Rattle.refusal.specs.declared.Outcome.{Outcome}
use Rattle.opening.specs.Net.{open_row}
use Rattle.route.specs.declared.Places.{Places}
use Rattle.route.specs.declared.Step.{Step}
use Rattle.job.specs.Lines.{route_rows}

-- the head is on line 1
unfoldable pub alone_rows : Places → List Step → List Outcome
alone_rows places l = route_rows 1 places l ++ (open_row 1 places l ∷ [])
