-- A sheet's bytes: the job that it tells of, and what a listing begins with.
use Rattle.std.specs.Prelude.{◌≡◌, List, ℕ, length, take}
use Prim.Native.String.{String}
use Rattle.job.specs.Job.{Job}
use Rattle.facts.specs.Facts.{read_of, job_read}
use Rattle.examples.specs.Table.{codes}
use Rattle.theorems.specs.Demand3.{Runs, FitFor}

-- the job of a sheet, as records
abbrev pub job_on : List ℕ → Job
job_on s = job_read (read_of s)

-- a sheet that reads, and whose job no row to 9 refuses
abbrev pub SheetRuns : List ℕ → Type 0
SheetRuns s = ((read_of s).number ≡ 0) × Runs (job_on s)

-- a sheet whose job can be moved: it has a fit order
abbrev pub Movable : List ℕ → Type 0
Movable s = SheetRuns s × ((o : List ℕ) × FitFor (job_on s) o)

-- the bytes begin with those of a word
abbrev pub BeginsWith : String → List ℕ → Type 0
BeginsWith w s = take (length (codes w)) s ≡ codes w

-- a listing of a job that is moved, and one of a refusal
abbrev pub Moved : List ℕ → Type 0
Moved s = BeginsWith "(moved" s

abbrev pub Refused : List ℕ → Type 0
Refused s = BeginsWith "(refused" s
