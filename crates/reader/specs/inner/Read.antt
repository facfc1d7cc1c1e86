-- What reading into lent lists tells.
use Rattle.std.specs.Prelude.{◌≡◌, List, ℕ, ◌≤◌, Result, Ok, Err}
use Rattle.flat.specs.Flat.{steps_in}
use Rattle.route.specs.declared.Step.{Step}
use Rattle.route.specs.declared.Places.{Places}
use Rattle.route.specs.declared.Route.{Route}
use Rattle.version.specs.Limits.{present}
use Rattle.version.specs.declared.Version.{Version}
use Rattle.facts.specs.Facts.{failed, read_by}
use Rattle.tokens.specs.declared.Broken.{Broken}
use Rattle.refusal.specs.declared.Refusal.{Refusal}
use Rattle.reader.specs.Refused.{counts_of}
use Rattle.reader.specs.declared.Counts.{Counts}
use Rattle.reader.specs.declared.Lengths.{Lengths}

-- the counts are those of the sheet's facts, and where it reads, the lists hold its steps and its done names, 64
-- entries each
pub record ReadInto (v : Version) (s : List ℕ) (r : Counts) (old new done : List ℕ) : Type 0 where
  pub number : r.number ≡ (read_by v s).number
  pub second : r.second ≡ (read_by v s).second
  pub old-places : r.old_places ≡ (read_by v s).old.places
  pub old-len : r.old_len ≡ (read_by v s).old.len
  pub new-places : r.new_places ≡ (read_by v s).new.places
  pub new-len : r.new_len ≡ (read_by v s).new.len
  pub done-len : r.done_len ≡ (read_by v s).done_len
  pub old-few : r.old_len ≤ 64
  pub new-few : r.new_len ≤ 64
  pub done-few : r.done_len ≤ 64
  pub refused : (r.number ≡ 0 → ⊥) → read_by v s ≡ failed r.number r.second
  pub old-steps : r.number ≡ 0 → steps_in old ≡ (read_by v s).old.steps
  pub new-steps : r.number ≡ 0 → steps_in new ≡ (read_by v s).new.steps
  pub done-names : r.number ≡ 0 → done ≡ (read_by v s).done

-- where the layout breaks, the sheet is refused by row 1 at that byte
abbrev pub PartsInto : Version → List ℕ → Result (Result Lengths Refusal) Broken → List ℕ → List ℕ → List ℕ → Type 0
PartsInto v s (Ok r) old new done = ReadInto v s (counts_of r) old new done
PartsInto v s (Err e) old new done = read_by v s ≡ failed 1 e.at

-- by the present version
abbrev pub ReadTo : List ℕ → Counts → List ℕ → List ℕ → List ℕ → Type 0
ReadTo s r old new done = ReadInto present s r old new done

-- a route by value of these steps
abbrev pub route_in : Places → ℕ → List Step → Route
route_in n k l = record { places = n; len = k; steps = l }
