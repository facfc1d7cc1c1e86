-- The facts of a sheet: its lines top down, each by the rows 4, 2, 3, 5 in this order. The first refusal stands, with
-- all else 0.
use Rattle.std.specs.Prelude.{not, cond, List, [], ◌∷◌, ℕ, ◌+◌, ◌-◌, eqb, ltb, length, set, take, replicate}
use Rattle.std.specs.Prelude.{Result, Ok, Err}
use Rattle.route.specs.Steps.{no_route, steps_of, names}
use Rattle.refusal.specs.Rows.{unless, first}
use Rattle.route.specs.declared.Step.{Step}
use Rattle.route.specs.declared.Route.{Route}
use Rattle.refusal.specs.Refusal.{number_of}
use Rattle.refusal.specs.declared.Outcome.{Outcome}
use Rattle.refusal.specs.declared.Refusal.{Refusal}
use Rattle.job.specs.Job.{Job, job_of}
use Rattle.job.specs.Lines.{places_fit, done_row}
use Rattle.version.specs.Limits.{present}
use Rattle.version.specs.declared.Version.{Version}
use Rattle.layout.specs.Text.{Form, Lines}
use Rattle.layout.specs.Parse.{Parsed, parse}
use Rattle.layout.specs.declared.Part.{Part}
use Rattle.layout.specs.declared.Part.TheVariants.{OldRoute, NewRoute, JobPart}
use Rattle.facts.specs.Forms.{form_row, start_row, masked, record_of}
use Rattle.facts.specs.declared.Records.{Records}
use Rattle.facts.specs.declared.Sheet.{Sheet}

-- "A refusal gives its number and a second number, all else 0"
unfoldable pub failed : ℕ → ℕ → Sheet
failed n k = record { number = n; second = k; old = no_route; new = no_route; done_len = 0; done = replicate 64 0 }

-- reading's answer in numbers
abbrev pub sheet_told : Result Records Refusal → Sheet
sheet_told (Ok t) = record { number = 0; second = 0; old = t.old; new = t.new; done_len = t.done_len; done = t.done }
sheet_told (Err e) = failed (number_of e.row) e.second

-- the outcome of a line: the facts with the line's own, or the refusal
unfoldable pub settled : Outcome → Sheet → Sheet
settled o s = cond (eqb o.number 0) s (failed o.number o.second)

-- a route with its place count, which its head gives; with its start, as a mask; with one more step
unfoldable pub headed : ℕ → Route → Route
headed n r = record { places = record { count = n; start = r.places.start }; len = r.len; steps = r.steps }

unfoldable pub started : List ℕ → Route → Route
started l r = record {
  places = record { count = r.places.count; start = masked 64 0 l };
  len = r.len;
  steps = r.steps;
}

unfoldable pub stepped : Route → Step → Route
stepped r s = cond (ltb r.len 64) (record {
  places = r.places;
  len = r.len + 1;
  steps = set r.steps r.len s;
}) r

abbrev pub with_old : Route → Sheet → Sheet
with_old r s = record {
  number = s.number;
  second = s.second;
  old = r;
  new = s.new;
  done_len = s.done_len;
  done = s.done;
}

abbrev pub with_new : Route → Sheet → Sheet
with_new r s = record {
  number = s.number;
  second = s.second;
  old = s.old;
  new = r;
  done_len = s.done_len;
  done = s.done;
}

abbrev pub with_done : ℕ → Sheet → Sheet
with_done n s = record {
  number = s.number;
  second = s.second;
  old = s.old;
  new = s.new;
  done_len = s.done_len + 1;
  done = set s.done s.done_len n;
}

-- ---- each kind of line, where nothing has been refused above it

unfoldable pub old_head : ℕ → ℕ → Sheet → Sheet
old_head line n s = settled (unless (places_fit n) 2 line) (with_old (headed n s.old) s)

unfoldable pub new_head : ℕ → ℕ → Sheet → Sheet
new_head line n s = settled (first (unless (not (eqb s.old.len 0)) 4 line ∷ unless (places_fit n) 2 line ∷ []))
    (with_new (headed n s.new) s)

unfoldable pub start_in : Part → ℕ → List ℕ → Sheet → Sheet
start_in OldRoute line l s = settled (start_row line s.old.places.count l) (with_old (started l s.old) s)
start_in NewRoute line l s = settled (start_row line s.new.places.count l) (with_new (started l s.new) s)
start_in JobPart line l s = s

unfoldable pub job_head : ℕ → Sheet → Sheet
job_head line s = settled (unless (not (eqb s.new.len 0)) 4 line) s

unfoldable pub done_in : Version → ℕ → ℕ → Sheet → Sheet
done_in v line n s = settled (done_row v line s.done_len n) (with_done n s)

unfoldable pub step_in : Version → Part → ℕ → Form → Sheet → Sheet
step_in v OldRoute line f s = settled (form_row v line s.old.places.count s.old.len (names (steps_of s.old)) f)
    (with_old (stepped s.old (record_of f)) s)
step_in v NewRoute line f s = settled (form_row v line s.new.places.count s.new.len (names (steps_of s.new)) f)
    (with_new (stepped s.new (record_of f)) s)
step_in v JobPart line f s = s

-- ---- the lines top down: how many have been read, and what they gave

pub record State : Type 0 where
  pub lines : ℕ
  pub sheet : Sheet

-- one more line, which counts only where nothing above it was refused
unfoldable pub more : (ℕ → Sheet → Sheet) → State → State
more line k = record {
  lines = k.lines + 1;
  sheet = cond (eqb k.sheet.number 0) (line (k.lines + 1) k.sheet) k.sheet;
}

-- a head's start line, where the version has it; else nothing is said of a start, and its mask stays 0
unfoldable pub more_start : Version → Part → List ℕ → State → State
more_start v p l k = cond v.starts (more (λ n s. start_in p n l s) k) k

unfoldable pub more_steps : Version → Part → List Form → State → State
more_steps v p [] k = k
more_steps v p (f ∷ l) k = more_steps v p l (more (λ n s. step_in v p n f s) k)

unfoldable pub more_dones : Version → List ℕ → State → State
more_dones v [] k = k
more_dones v (n ∷ l) k = more_dones v l (more (λ i s. done_in v i n s) k)

abbrev pub nothing : State
nothing = record { lines = 0; sheet = failed 0 0 }

unfoldable pub facts_of : Version → Lines → Sheet
facts_of v x =
    (more_dones v x.done
    (more job_head
    (more_steps v NewRoute x.new (more_start v NewRoute x.new_start
    (more (λ i s. new_head i x.new_places s)
    (more_steps v OldRoute x.old (more_start v OldRoute x.old_start
    (more (λ i s. old_head i x.old_places s) nothing)))))))
    ).sheet

-- row 1 over the whole sheet, then its lines
unfoldable pub answered : Version → ℕ → Parsed → Sheet
answered v long (Parsed.read x) = facts_of v x
answered v long (Parsed.broken r) = failed 1 (long - length r)

unfoldable pub read_by : Version → List ℕ → Sheet
read_by v s = answered v (length s) (parse v s)

-- by the present version
abbrev pub read_of : List ℕ → Sheet
read_of s = read_by present s

-- the job that a sheet's facts tell of, as records
abbrev pub job_read : Sheet → Job
job_read s = job_of s.old s.new (take s.done_len s.done)
