-- Inner promises: the new route's steps for the occurrences, and where the straight list ends.
use Rattle.std.specs.Prelude.{cond, List, ℕ, Option, Some, None}
use Rattle.std.proofs.Math.Option.{get_or}
use Rattle.route.specs.Steps.{names}
use Rattle.route.specs.declared.Step.{Step}
use Rattle.running.specs.Run.{performed}
use Rattle.route.specs.declared.Marking.{Marking}
use Rattle.matching.specs.Straight.{fire_all, runs_straight}

-- for each occurrence the new route's step of its name, and a blank one where there is none
unfoldable pub matched : List Step → List Step → List Step
matched new l = performed new (names l)

-- where the straight list ends, if there is one
unfoldable pub straight_end : ℕ → List Step → List Step → Option Marking
straight_end from new l = cond (runs_straight from new l) (Some (record { tokens = get_or (fire_all new from l) 0 }))
    None
