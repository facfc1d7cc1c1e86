-- Rows 6 and 7 of both routes, in the lines of a version.
use Rattle.std.specs.Prelude.{List, [], ◌∷◌, ℕ, ◌+◌, length}
use Rattle.version.specs.declared.Version.{Version}
use Rattle.refusal.specs.declared.Outcome.{Outcome}
use Rattle.opening.specs.Net.{net_row_at}
use Rattle.job.specs.Job.{Job}
use Rattle.facts.specs.SheetRows.{start_line_count}

-- the line of `(new`: the old route's head, its start line where the version has it, and its steps stand above
abbrev pub new_head : Version → Job → ℕ
new_head v j = 2 + start_line_count v + length j.old

-- old route, then new; 7 is at the start line, and where the version has none, as in 01, at the head
unfoldable pub net_rows : Version → Job → List Outcome
net_rows v j =
    net_row_at 1 (1 + start_line_count v) j.old_places j.old
    ∷ net_row_at (new_head v j) (new_head v j + start_line_count v) j.new_places j.new
    ∷ []
