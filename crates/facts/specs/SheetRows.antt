-- The rows of a sheet's lines as one list, and the facts of a sheet that no row refuses.
use Rattle.std.specs.Prelude.{not, cond, List, [], ◌∷◌, ◌++◌, map, ℕ, ◌+◌, ◌-◌, eqb, length, replicate}
use Rattle.route.specs.Steps.{blank}
use Rattle.refusal.specs.Rows.{unless}
use Rattle.route.specs.declared.Places.{Places}
use Rattle.route.specs.declared.Step.{Step}
use Rattle.route.specs.declared.Route.{Route}
use Rattle.refusal.specs.declared.Outcome.{Outcome}
use Rattle.job.specs.Job.{Job}
use Rattle.job.specs.Lines.{places_fit, done_rows}
use Rattle.version.specs.declared.Version.{Version}
use Rattle.layout.specs.Text.{Form, Lines}
use Rattle.facts.specs.Forms.{form_row, start_row, masked, record_of}
use Rattle.facts.specs.declared.Sheet.{Sheet}

unfoldable pub form_rows : Version → ℕ → ℕ → List ℕ → List Form → List Outcome
form_rows v line n earlier [] = []
form_rows v line n earlier (f ∷ l) = form_row v line n (length earlier) earlier f
    ∷ form_rows v (line + 1) n (earlier ++ (f.name ∷ [])) l

-- how many start lines follow a head, and their rows
unfoldable pub start_line_count : Version → ℕ
start_line_count v = cond v.starts 1 0

unfoldable pub start_rows : Version → ℕ → ℕ → List ℕ → List Outcome
start_rows v line n l = cond v.starts (start_row line n l ∷ []) []

-- the line of the head that follows a route's
abbrev pub after_forms : Version → ℕ → List Form → ℕ
after_forms v line l = line + 1 + start_line_count v + length l

-- a route's head, and the start line that follows it
unfoldable pub head_form_rows : Version → ℕ → ℕ → List ℕ → List Outcome
head_form_rows v line n start = unless (places_fit n) 2 line ∷ start_rows v (line + 1) n start

unfoldable pub route_form_rows : Version → ℕ → ℕ → List ℕ → List Form → List Outcome
route_form_rows v line n start l =
    head_form_rows v line n start
    ++ (form_rows v (line + 1 + start_line_count v) n [] l
    ++ (unless (not (eqb (length l) 0)) 4 (after_forms v line l) ∷ []))

-- all lines, top down, as for records
unfoldable pub sheet_rows : Version → Lines → List Outcome
sheet_rows v x =
    route_form_rows v 1 x.old_places x.old_start x.old
    ++ (route_form_rows v (after_forms v 1 x.old) x.new_places x.new_start x.new
    ++ done_rows v (after_forms v (after_forms v 1 x.old) x.new + 1) 0 x.done)

-- a route by value of these steps, and a done list of these names
unfoldable pub filled : Places → List Step → Route
filled places l = record { places = places; len = length l; steps = l ++ replicate (64 - length l) blank }

-- a route's places: the count of its head, and the start of its start line, where the version has it
unfoldable pub places_read : Version → ℕ → List ℕ → Places
places_read v n l = record { count = n; start = cond v.starts (masked 64 0 l) 0 }

unfoldable pub facts_record : Version → Lines → Sheet
facts_record v x =
    record {
      number = 0;
      second = 0;
      old = filled (places_read v x.old_places x.old_start) (map record_of x.old);
      new = filled (places_read v x.new_places x.new_start) (map record_of x.new);
      done_len = length x.done;
      done = x.done ++ replicate (64 - length x.done) 0;
    }

-- the answer of a sheet of these records
abbrev pub sheet_of : Job → Sheet
sheet_of j =
    record {
      number = 0;
      second = 0;
      old = filled j.old_places j.old;
      new = filled j.new_places j.new;
      done_len = length j.done;
      done = j.done ++ replicate (64 - length j.done) 0;
    }
