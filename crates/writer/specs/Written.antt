-- The text that writing records gives.
use Rattle.std.specs.Prelude.{cond, List, ℕ, ◌+◌, ◌*◌}
use Rattle.version.specs.Limits.{present}
use Rattle.version.specs.declared.Version.{Version}
use Rattle.job.specs.Job.{Job}
use Rattle.layout.specs.Text.{text}
use Rattle.facts.specs.LinesOf.{lines_of}

-- in any version
unfoldable pub written_by : Version → Job → List ℕ
written_by v j = text v (lines_of j)

-- writing is by the present one
abbrev pub written : Job → List ℕ
written j = written_by present j

-- a mark has 8 bytes, in a version that has it
abbrev pub mark_length : Version → ℕ
mark_length v = cond v.cloth 8 0

-- a start line of all 64 places has 190, in a version that has it
abbrev pub start_length : Version → ℕ
start_length v = cond v.starts 190 0

-- "No sheet that reads is longer than 18,136 bytes", and in 02 "a sheet has at most 20,500 bytes": in a version 192
-- names have all its digits, 128 steps its mark, both heads its start line, and the rest has 17,176 bytes
abbrev pub longest : Version → ℕ
longest v = 17176 + 192 * v.digits + 128 * mark_length v + 2 * start_length v
