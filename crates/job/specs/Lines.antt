-- Rows 4, 2, 3 and 5: each line, top down, and for each line the rows in this order.
use Rattle.std.specs.Prelude.{Bool, not, ◌&&◌, List, [], ◌∷◌, ◌++◌, ℕ, ◌+◌, ◌≤◌, ◌<◌, eqb, ltb, leb, length, get_or}
use Rattle.std.specs.Int.Bits.{bit_or}
use Rattle.mask.specs.Mask.{below, within, count}
use Rattle.refusal.specs.Rows.{unless, first, AllPass}
use Rattle.version.specs.Limits.{present, name_fits}
use Rattle.version.specs.declared.Version.{Version}
use Rattle.name_set.specs.Among.{among}
use Rattle.opening.specs.Net.{open_row}
use Rattle.route.specs.declared.Places.{Places}
use Rattle.route.specs.declared.Step.{Step}
use Rattle.refusal.specs.declared.Outcome.{Outcome}
use Rattle.job.specs.Job.{Job, after_steps, new_line, job_line}

-- N, the place count, is 1 to 64
unfoldable pub places_fit : ℕ → Bool
places_fit n = leb 1 n && leb n 64

-- 02, "Row 2 applies to it": each start place is below the place count. (A mask's entries rise by themselves.)
unfoldable pub start_fits : Places → Bool
start_fits places = within places.start (below places.count)

-- a name is one of the present version's, and each place that a step names is below the place count. (A variable is
-- below 32 by its mask's width.)
unfoldable pub step_fits : ℕ → Step → Bool
step_fits n s = name_fits present s.name && within (bit_or s.ins s.outs) (below n)

-- a list of variables has at most 8 entries, a list of places 1 to 8. (A mask's entries rise by themselves.)
unfoldable pub variable_list : ℕ → Bool
variable_list m = leb (count 32 m) 8

unfoldable pub place_list : ℕ → Bool
place_list m = not (eqb m 0) && leb (count 64 m) 8

unfoldable pub lists_fit : Step → Bool
lists_fit s = place_list s.ins && (place_list s.outs && (variable_list s.reads && variable_list s.writes))

-- the rows of one step's line, given the names of the steps above it
unfoldable pub step_row : ℕ → ℕ → List ℕ → Step → Outcome
step_row line n earlier s =
    first
    (unless (ltb (length earlier) 64) 4 line
    ∷ unless (step_fits n s) 2 line
    ∷ unless (lists_fit s) 3 line
    ∷ unless (not (among s.name earlier)) 5 line
    ∷ [])

unfoldable pub step_rows : ℕ → ℕ → List ℕ → List Step → List Outcome
step_rows line n earlier [] = []
step_rows line n earlier (s ∷ l) =
    step_row line n earlier s ∷ step_rows (line + 1) n (earlier ++ (s.name ∷ [])) l

-- a route's head, and the start line that follows it
unfoldable pub head_rows : ℕ → Places → List Outcome
head_rows line places = unless (places_fit places.count) 2 line ∷ unless (start_fits places) 2 (line + 1) ∷ []

-- a route's lines from its head on, and row 4 of a route with no step, at the line that follows
unfoldable pub route_rows : ℕ → Places → List Step → List Outcome
route_rows line places l =
    head_rows line places
    ++ (step_rows (line + 2) places.count [] l
    ++ (unless (not (eqb (length l) 0)) 4 (after_steps line l) ∷ []))

-- the done lines of a version, with how many stand above
unfoldable pub done_row : Version → ℕ → ℕ → ℕ → Outcome
done_row v line above n = first (unless (ltb above 64) 4 line ∷ unless (name_fits v n) 2 line ∷ [])

unfoldable pub done_rows : Version → ℕ → ℕ → List ℕ → List Outcome
done_rows v line above [] = []
done_rows v line above (n ∷ l) = done_row v line above n ∷ done_rows v (line + 1) (above + 1) l

-- all lines, top down
unfoldable pub line_rows : Job → List Outcome
line_rows j =
    route_rows 1 j.old_places j.old
    ++ (route_rows (new_line j) j.new_places j.new ++ done_rows present (job_line j + 1) 0 j.done)

-- no line is refused
abbrev pub LinesPass : Job → Type 0
LinesPass j = AllPass (line_rows j)

-- all lines, then rows 6, 7 and 23 of the old route, then of the new
unfoldable pub checked : Job → Outcome
checked j =
    first
    (line_rows j
    ++ (open_row 1 j.old_places j.old ∷ open_row (new_line j) j.new_places j.new ∷ []))

-- no name is 0: a step that a route lacks is blank, and no other has the name 0
abbrev pub AllNamed : List ℕ → Type 0
AllNamed done = (i : ℕ) → i < length done → 1 ≤ get_or done i 0
