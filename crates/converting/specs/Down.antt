-- Down: "and back". 22 goes "after rows 1 to 7 of the sheet given and before 15".
use Rattle.std.specs.Prelude.{List, ◌∷◌, ◌++◌, ℕ}
use Rattle.version.specs.Limits.{scope, present}
use Rattle.refusal.specs.Rows.{first}
use Rattle.refusal.specs.declared.Outcome.{Outcome}
use Rattle.job.specs.Job.{Job}
use Rattle.facts.specs.Facts.{read_of, job_read}
use Rattle.writer.specs.Written.{written_by}
use Rattle.out_slice.specs.OutSlice.{wrote_past, out_past}
use Rattle.out_slice.specs.declared.Wrote.{Wrote}
use Rattle.converting.specs.Nets.{net_rows}
use Rattle.converting.specs.Up.{read_row}
use Rattle.converting.specs.Beyond.{beyond_rows}

-- the job that a sheet of the present layout tells of
abbrev pub present_job : List ℕ → Job
present_job s = job_read (read_of s)

-- the row that refuses it: 1 to 7, then 22
unfoldable pub down_row : List ℕ → Outcome
down_row s = first (read_row (read_of s) ∷ (net_rows present (present_job s) ++ beyond_rows (present_job s)))

abbrev pub down_text : List ℕ → List ℕ
down_text s = written_by scope (present_job s)

-- these rows, then the text, or 15; `room` is the out slice's length
abbrev pub lowered : List ℕ → ℕ → Wrote
lowered s room = wrote_past (down_row s) (down_text s) room

abbrev pub out_lowered : List ℕ → List ℕ → List ℕ
out_lowered s out = out_past (down_row s) (down_text s) out
