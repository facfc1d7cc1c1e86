-- 02, "A reading that nobody writes": which jobs, and which routes that are put on a shelf, are refused by 23, and at
-- which line.
use Rattle.std.specs.Prelude.{◌≡◌, ◌⊎◌, true, List, [], ◌∷◌, ◌++◌, ℕ, ◌+◌, ◌<◌, length, get_or}
use Rattle.mask.specs.Mask.{has}
use Rattle.refusal.specs.Rows.{AllPass}
use Rattle.route.specs.Steps.{blank, steps_of}
use Rattle.route.specs.declared.Route.{Route}
use Rattle.route.specs.declared.Step.{Step}
use Rattle.opening.specs.Net.{net_row, open_row}
use Rattle.job.specs.Job.{Job, new_line}
use Rattle.job.specs.Lines.{route_rows, line_rows}
use Rattle.shelf.specs.Put.{shelf_rows}
use Rattle.shelf.specs.declared.Shelf.{Shelf}
use Rattle.facts.specs.Facts.{read_of}
use Rattle.theorems.specs.Sheets.{job_on}

-- some step of the route writes the variable
abbrev pub Written : List Step → ℕ → Type 0
Written l v = (k : ℕ) × (k < length l) × (has (get_or l k blank).writes v ≡ true)

-- "a step that reads a variable which no step of that route writes": step i, counted from 0
abbrev pub ReadsUnwritten : List Step → ℕ → Type 0
ReadsUnwritten l i =
    (i < length l) × ((v : ℕ) × (has (get_or l i blank).reads v ≡ true) × (Written l v → ⊥))

-- "such a step, at the first one's line": `at` is the line of the first such step of a route whose head is on `line`
pub record FirstUnwritten (line : ℕ) (l : List Step) (at : ℕ) : Type 0 where
  pub step : ℕ
  pub reads : ReadsUnwritten l step
  pub none_above : (i : ℕ) → i < step → ReadsUnwritten l i → ⊥
  pub at-line : at ≡ line + 2 + step

-- "after 7 of the same route, so the old route's comes before the new one's 6": no row before it refuses, and there is
-- such a step in the old route, or in the new
abbrev pub RefusedBy23 : Job → ℕ → Type 0
RefusedBy23 j at =
    (AllPass (line_rows j ++ (net_row 1 j.old_places j.old ∷ [])) × FirstUnwritten 1 j.old at)
    ⊎ (AllPass (line_rows j ++ (open_row 1 j.old_places j.old ∷ net_row (new_line j) j.new_places j.new ∷ []))
    × FirstUnwritten (new_line j) j.new at)

-- a sheet that reads, and tells of such a job
abbrev pub SheetRefusedBy23 : List ℕ → ℕ → Type 0
SheetRefusedBy23 s at = ((read_of s).number ≡ 0) × RefusedBy23 (job_on s) at

-- "The shelf looks for it too": the rows of the shelf, of the number and of the route before it
abbrev pub PutRefusedBy23 : Shelf → ℕ → Route → ℕ → Type 0
PutRefusedBy23 s n r at =
    AllPass (shelf_rows s n ++ (route_rows 1 r.places (steps_of r) ++ (net_row 1 r.places (steps_of r) ∷ [])))
    × FirstUnwritten 1 (steps_of r) at

-- an answer's two numbers are 23 and that line
abbrev pub Is23 : ℕ → ℕ → ℕ → Type 0
Is23 number second at = (number ≡ 23) × (second ≡ at)
