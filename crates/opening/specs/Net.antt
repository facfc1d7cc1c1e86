-- The rows of a route as a whole: 6 and 7, and 23 "after 7 of the same route".
use Rattle.std.specs.Prelude.{not, List, [], ◌∷◌, ℕ, ◌+◌, eqb}
use Rattle.std.specs.Int.Bits.{bit_or}
use Rattle.mask.specs.Mask.{below, within}
use Rattle.route.specs.Steps.{union}
use Rattle.route.specs.declared.Places.{Places}
use Rattle.route.specs.declared.Step.{Step}
use Rattle.refusal.specs.declared.Outcome.{Outcome}
use Rattle.refusal.specs.Rows.{unless, first}
use Rattle.opening.specs.Unwritten.{unwritten_rows}

-- 6: a place in no step, at the head's line; 7: no start place, at the line that tells of the start
unfoldable pub net_row_at : ℕ → ℕ → Places → List Step → Outcome
net_row_at head start places l =
    first
    (unless
    (within (below places.count) (bit_or (union (λ (s : Step). s.ins) l) (union (λ (s : Step). s.outs) l))) 6 head
    ∷ unless (not (eqb places.start 0)) 7 start
    ∷ [])

-- in the present layout that is the start line, which follows the head
abbrev pub net_row : ℕ → Places → List Step → Outcome
net_row line places l = net_row_at line (line + 1) places l

-- a route that a job runs on meets all three
unfoldable pub open_row : ℕ → Places → List Step → Outcome
open_row line places l = first (net_row line places l ∷ unwritten_rows line l)
