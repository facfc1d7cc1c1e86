-- Up: "A converter goes from 01's layout to the present one, writing out the implied start".
use Rattle.std.specs.Prelude.{List, ◌∷◌, ℕ}
use Rattle.version.specs.Limits.{scope}
use Rattle.route.specs.Firing.{implied_places}
use Rattle.refusal.specs.Rows.{first}
use Rattle.refusal.specs.declared.Outcome.{Outcome}
use Rattle.job.specs.Job.{Job}
use Rattle.facts.specs.Facts.{read_by, job_read}
use Rattle.facts.specs.declared.Sheet.{Sheet}
use Rattle.writer.specs.Written.{written}
use Rattle.out_slice.specs.OutSlice.{wrote_past, out_past}
use Rattle.out_slice.specs.declared.Wrote.{Wrote}
use Rattle.converting.specs.Nets.{net_rows}

-- a job with the start that each route implies
abbrev pub with_implied : Job → Job
with_implied j = record {
  old_places = implied_places j.old_places.count j.old;
  old = j.old;
  new_places = implied_places j.new_places.count j.new;
  new = j.new;
  done = j.done;
}

-- the job that a sheet of 01's layout tells of
abbrev pub scope_job : List ℕ → Job
scope_job s = with_implied (job_read (read_by scope s))

-- rows 1, 4, 2, 3 and 5 of a sheet, as reading answers it
abbrev pub read_row : Sheet → Outcome
read_row z = record { number = z.number; second = z.second }

-- the row that refuses it: these, then 6 and 7 as 01 has them
unfoldable pub up_row : List ℕ → Outcome
up_row s = first (read_row (read_by scope s) ∷ net_rows scope (scope_job s))

abbrev pub up_text : List ℕ → List ℕ
up_text s = written (scope_job s)

-- these rows, then the text, or 15; `room` is the out slice's length
abbrev pub raised : List ℕ → ℕ → Wrote
raised s room = wrote_past (up_row s) (up_text s) room

abbrev pub out_raised : List ℕ → List ℕ → List ℕ
out_raised s out = out_past (up_row s) (up_text s) out
