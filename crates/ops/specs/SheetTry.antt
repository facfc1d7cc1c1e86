-- Try on a sheet's bytes: "read, print and the C form of try take sheet bytes".
use Rattle.std.specs.Prelude.{cond, List, ℕ, eqb}
use Rattle.facts.specs.Facts.{read_of, job_read}
use Rattle.facts.specs.declared.Sheet.{Sheet}
use Rattle.route.specs.Firing.{stopped}
use Rattle.trying.specs.Try.{tried}
use Rattle.route.specs.declared.Fired.{Fired}

-- what try answers of a sheet's records; a sheet that doesn't read is refused as reading refuses it
unfoldable pub tried_facts : Sheet → List ℕ → Fired
tried_facts s order =
    cond (eqb s.number 0)
    (tried (job_read s) order)
    (stopped s.number s.second)

unfoldable pub tried_sheet : List ℕ → List ℕ → Fired
tried_sheet s order = tried_facts (read_of s) order
