-- Rows that pass bound the places of a record and those of a start, and neither the rows nor the lines see a variable
-- past 32: a step's own record has the masks' widths, the same rows and the same lines.
use mathlib.Core.Path.{◌≡◌, refl, sym, ap₂, ◌∙◌}
use mathlib.Core.Bool.{true, not, ◌&&◌}
use mathlib.Core.List.{List, [], ◌∷◌, ◌++◌, map}
use Prim.Native.Nat.{ℕ, ◌+◌, ◌^◌, ◌≤◌, ◌<◌}
use native.Mathlib.Nat.{lt_of_lt_of_le}
use lib.Dec.{eqb, ltb, leb}
use lib.ListN.{length, length-map}
use lib.Pow.{pow_mono}
use Rattle.mask.specs.Mask.{below, within, members}
use Rattle.mask.proofs.Cut.{cut_below, cut-same, within-below, members-cut, count_cut}
use Rattle.mask.proofs.Truth.{both}
use Rattle.mask.proofs.Sets.{within-or}
use Rattle.refusal.specs.Rows.{unless, first}
use Rattle.refusal.specs.declared.Outcome.{Outcome}
use Rattle.refusal.proofs.Rows.{head_passed, unless-elim, row-passed, rows-passed}
use Rattle.route.specs.declared.Places.{Places}
use Rattle.route.specs.declared.Step.{Step}
use Rattle.job.specs.Job.{Job, new_line, job_line}
use Rattle.version.specs.Limits.{present, name_fits}
use Rattle.name_set.specs.Among.{among}
use Rattle.job.specs.Lines.{start_fits, step_fits, variable_list, place_list, lists_fit, step_row, step_rows, head_rows}
use Rattle.job.specs.Lines.{route_rows, done_rows, line_rows}
use Rattle.job.proofs.Rows.{route-fits}
use Rattle.layout.specs.Text.{Form}
use Rattle.facts.specs.LinesOf.{form_of, lines_of, Wide, AllWide, WideJob, as_record, as_records}
use Rattle.facts.proofs.PassingLines.{Passes}

-- ---- a step's record has the same lines and the same rows

form-same : (s : Step) → form_of (as_record s) ≡ form_of s
unfolding form_of as_record
form-same s = λ i. record {
  name = s.name;
  ins = members 64 s.ins;
  outs = members 64 s.outs;
  reads = members-cut 32 s.reads i;
  writes = members-cut 32 s.writes i;
  cloth = s.cloth;
}

forms-same : (l : List Step) → map form_of (map as_record l) ≡ map form_of l
forms-same [] = refl
forms-same (s ∷ l) = ap₂ {C = List Form} (λ (f : Form) (k : List Form). f ∷ k) (form-same s) (forms-same l)

pub lines_same : (j : Job) → lines_of (as_records j) ≡ lines_of j
unfolding lines_of as_records
lines_same j = λ i. record {
  old_places = j.old_places.count;
  old_start = members 64 j.old_places.start;
  old = forms-same j.old i;
  new_places = j.new_places.count;
  new_start = members 64 j.new_places.start;
  new = forms-same j.new i;
  done = j.done;
}

row_same : (line places : ℕ) (earlier : List ℕ) (s : Step)
    → step_row line places earlier (as_record s) ≡ step_row line places earlier s
unfolding step_row step_fits lists_fit variable_list as_record
row_same line places earlier s =
    ap₂
    (λ (r w : ℕ). first
    (unless (ltb (length earlier) 64) 4 line
    ∷ unless (step_fits places s) 2 line
    ∷ unless (place_list s.ins && (place_list s.outs && (leb r 8 && leb w 8))) 3 line
    ∷ unless (not (among s.name earlier)) 5 line
    ∷ []))
    (count_cut 32 s.reads)
    (count_cut 32 s.writes)

rows_same : (l : List Step) (line places : ℕ) (earlier : List ℕ)
    → step_rows line places earlier (map as_record l) ≡ step_rows line places earlier l
unfolding step_rows as_record
rows_same [] line places earlier = refl
rows_same (s ∷ l) line places earlier = ap₂ {C = List Outcome} (λ (o : Outcome) (k : List Outcome). o ∷ k)
    (row_same line places earlier s) (rows_same l (line + 1) places (earlier ++ (s.name ∷ [])))

route-same : (line : ℕ) (places : Places) (l : List Step)
    → route_rows line places (map as_record l) ≡ route_rows line places l
unfolding route_rows
route-same line places l =
    ap₂ {C = List Outcome}
    (λ (k : List Outcome) (n : ℕ). head_rows line places
    ++ (k ++ (unless (not (eqb n 0)) 4 (line + 2 + n) ∷ [])))
    (rows_same l (line + 2) places.count [])
    (length-map l as_record)

pub rows-as-records : (j : Job) → line_rows (as_records j) ≡ line_rows j
unfolding line_rows as_records
rows-as-records j =
    (λ i. route_rows 1 j.old_places (map as_record j.old)
    ++ (route_rows (1 + 2 + length-map j.old as_record i) j.new_places (map as_record j.new)
    ++ done_rows present (1 + 2 + length-map j.old as_record i + 2 + length-map j.new as_record i + 1) 0
    j.done))
    ∙ ap₂ (λ (x y : List Outcome). x ++ (y ++ done_rows present (job_line j + 1) 0 j.done))
    (route-same 1 j.old_places j.old) (route-same (new_line j) j.new_places j.new)

-- ---- where the rows pass, it has the masks' widths, and so has the start

within-wide : (m places : ℕ) → places ≤ 64 → within m (below places) ≡ true → m < 2 ^ 64
within-wide m places few e = lt_of_lt_of_le (within-below m places e) (pow_mono few)

step-wide : (line places : ℕ) (earlier : List ℕ) (s : Step) → places ≤ 64
    → eqb (step_row line places earlier s).number 0 ≡ true → Wide (as_record s)
unfolding step_row step_fits as_record
step-wide line places earlier s few h =
    let fits = unless-elim (step_fits places s) 2 line refl (head_passed _ _ (head_passed _ _ h).1).0 in
    let places-in = (both (name_fits present s.name) _ fits).1 in
    let (ins, outs) = both (within s.ins (below places)) (within s.outs (below places))
    (sym (within-or s.ins s.outs (below places)) ∙ places-in) in
    record {
      ins = within-wide s.ins places few ins;
      outs = within-wide s.outs places few outs;
      reads = cut_below s.reads 32;
      writes = cut_below s.writes 32;
    }

steps-wide : (l : List Step) (line places : ℕ) (earlier : List ℕ) → places ≤ 64
    → Passes (step_rows line places earlier l) → AllWide (map as_record l)
unfolding step_rows
steps-wide [] line places earlier few h = tt
steps-wide (s ∷ l) line places earlier few h =
    let (own, rest) = head_passed (step_row line places earlier s) _ h in
    (step-wide line places earlier s few own, steps-wide l (line + 1) places (earlier ++ (s.name ∷ [])) few rest)

route-wide : (line : ℕ) (places : Places) (l : List Step) → Passes (route_rows line places l)
    → (places.start < 2 ^ 64) × AllWide (map as_record l)
unfolding route_rows head_rows start_fits
route-wide line places l h =
    let few : places.count ≤ 64 = (route-fits line places l h).places-fit in
    let (head, rest) = rows-passed (head_rows line places) _ h in
    let start = (row-passed (start_fits places) 2 (line + 1) [] refl (head_passed _ _ head).1).0 in
    let steps = (rows-passed (step_rows (line + 2) places.count [] l) _ rest).0 in
    (within-wide places.start places.count few start, steps-wide l (line + 2) places.count [] few steps)

pub rows-wide : (j : Job) → Passes (line_rows j) → WideJob (as_records j)
unfolding line_rows as_records
rows-wide j h =
    let (old, rest) = rows-passed (route_rows 1 j.old_places j.old) _ h in
    let (new, done) = rows-passed (route_rows (new_line j) j.new_places j.new) _ rest in
    let (old-start, old-steps) = route-wide 1 j.old_places j.old old in
    let (new-start, new-steps) = route-wide (new_line j) j.new_places j.new new in
    record { old_start = old-start; old = old-steps; new_start = new-start; new = new-steps }

-- ---- a step whose masks have their widths is its own record

step-own : (s : Step) → Wide s → as_record s ≡ s
unfolding as_record
step-own s w = λ i. record {
  name = s.name;
  cloth = s.cloth;
  ins = s.ins;
  outs = s.outs;
  reads = cut-same s.reads 32 w.reads i;
  writes = cut-same s.writes 32 w.writes i;
}

pub records-own : (l : List Step) → AllWide l → map as_record l ≡ l
records-own [] h = refl
records-own (s ∷ l) h = ap₂ {C = List Step} (λ (x : Step) (k : List Step). x ∷ k) (step-own s h.0)
    (records-own l h.1)
