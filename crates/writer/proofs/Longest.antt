-- The bound is met: in each version a sheet as long as its bound reads. Each route has 64 steps, each with a name of
-- all digits, four lists of eight entries of two digits, and the version's mark, and where the version has start lines
-- all 64 places in its own; 64 such names are done. Its length and its rows compute; that it reads follows by laws.
-- Assumes nothing.
use mathlib.Core.Path.{◌≡◌, refl, ap}
use mathlib.Core.Bool.{Bool, false, cond}
use mathlib.Core.List.{List, [], ◌∷◌, map}
use Prim.Native.Nat.{ℕ, zero, suc}
use lib.ListN.{length}
use Rattle.refusal.specs.Rows.{unless, first}
use Rattle.version.specs.Limits.{scope, present, name_fits, Limits}
use Rattle.version.specs.declared.Version.{Version}
use Rattle.version.proofs.Limits.{scope-limits, present-limits}
use Rattle.name_set.specs.Among.{among}
use Rattle.job.specs.Lines.{places_fit, done_row, done_rows}
use Rattle.layout.specs.Words.{spelling}
use Rattle.layout.specs.Text.{Form, Lines, digits, number, entries, listed, marked, step_line, word_line, job_line}
use Rattle.layout.specs.Text.{start_line, step_lines, done_lines, job_text, text}
use Rattle.facts.specs.Forms.{all_below, rising, list_fits, form_fits, form_lists, form_row, start_row}
use Rattle.facts.specs.Facts.{read_by}
use Rattle.facts.specs.Marks.{Marks, MarksTo}
use Rattle.facts.specs.Starts.{StartsTo}
use Rattle.facts.specs.SheetRows.{form_rows, start_line_count, start_rows, head_form_rows}
use Rattle.facts.specs.SheetRows.{route_form_rows, sheet_rows, facts_record}
use Rattle.facts.specs.declared.Sheet.{Sheet}
use Rattle.facts.proofs.PassingLines.{Passes}
use Rattle.writer.specs.Written.{longest}
use Rattle.facts.proofs.ReadRecords.{text-reads}

-- the k numbers from n on
unfoldable from : ℕ → ℕ → List ℕ
from n zero = []
from n (suc k) = n ∷ from (suc n) k

-- a line of 130 bytes, its name's, and its mark's where it has one
unfoldable long_step : Bool → ℕ → Form
long_step may name =
    record { name = name; ins = from 56 8; outs = from 56 8; reads = from 24 8; writes = from 24 8; cloth = may }

long-marks : (may : Bool) (l : List ℕ) → Marks may (map (long_step may) l)
unfolding long_step
long-marks may [] = tt
long-marks may (n ∷ l) = (λ e. e, long-marks may l)

-- a line of 190 bytes, where the version has it
unfoldable long_start : Version → List ℕ
long_start v = cond v.starts (from 0 64) []

-- with 64 names from n on
unfoldable long_lines : Version → ℕ → Lines
long_lines v n =
    let names : List ℕ = from n 64 in
    record {
      old_places = 64;
      old_start = long_start v;
      old = map (long_step v.cloth) names;
      new_places = 64;
      new_start = long_start v;
      new = map (long_step v.cloth) names;
      done = names;
    }

lines-marks : (v : Version) (n : ℕ) → MarksTo v.cloth (long_lines v n)
unfolding long_lines
lines-marks v n = record { old = long-marks v.cloth (from n 64); new = long-marks v.cloth (from n 64) }

lines-starts : (v : Version) (n : ℕ) → StartsTo v.starts (long_lines v n)
unfolding long_lines long_start
lines-starts v n = record { old = none; new = none }
  where
    none : v.starts ≡ false → cond v.starts (from 0 64) [] ≡ []
    none e = ap (λ (t : Bool). cond t (from 0 64) []) e

-- a sheet as long as `bounded` allows reads
abbrev pub Attained : Version → Type 0
Attained v = (s : List ℕ) × (length s ≡ longest v) × ((read_by v s).number ≡ 0)

attained : (v : Version) → Limits v → (n : ℕ) → length (text v (long_lines v n)) ≡ longest v
    → Passes (sheet_rows v (long_lines v n)) → Attained v
unfolding facts_record
attained v limits n long passes = (
  text v (long_lines v n),
  long,
  ap (λ (y : Sheet). y.number) (text-reads limits (long_lines v n) (lines-marks v n) (lines-starts v n) passes),
)

-- the definitions that compute such a sheet's length and its rows
unfoldable the-sheet : Unit {0}
unfolding long_lines long_start long_step from text digits number entries listed marked step_line word_line start_line
    job_line step_lines done_lines job_text spelling sheet_rows route_form_rows head_form_rows
    start_line_count start_rows
    start_row form_rows form_row form_fits form_lists list_fits all_below rising name_fits places_fit among done_row
    done_rows unless first
the-sheet = tt

pub scope-attained : Attained scope
unfolding the-sheet
scope-attained = attained scope scope-limits 10000 refl refl

pub present-attained : Attained present
unfolding the-sheet
present-attained = attained present present-limits 1000000000 refl refl
