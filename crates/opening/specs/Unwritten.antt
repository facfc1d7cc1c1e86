-- Row 23, 02's "A reading that nobody writes": "a step that reads a variable which no step of that route writes".
use Rattle.std.specs.Prelude.{Bool, List, ℕ, ◌+◌}
use Rattle.mask.specs.Mask.{within}
use Rattle.route.specs.Steps.{union}
use Rattle.route.specs.declared.Step.{Step}
use Rattle.refusal.specs.declared.Outcome.{Outcome}
use Rattle.refusal.specs.Rows.{each_line}

-- a step reads only variables of a set
abbrev pub reads_among : ℕ → Step → Bool
reads_among written s = within s.reads written

-- only those that steps of the route write; its own writes count
abbrev pub reads_written : List Step → Step → Bool
reads_written l = reads_among (union (λ (t : Step). t.writes) l)

-- "23, such a step, at the first one's line": the head is on `line`, a start line and then the steps follow
unfoldable pub unwritten_rows : ℕ → List Step → List Outcome
unwritten_rows line l = each_line (reads_written l) 23 (line + 2) l
