-- The rows of records are the rows of the lines that writing them gives, one for one.
-- Assumes nothing.
use mathlib.Core.Path.{◌≡◌, refl, sym, ap, ap₂, ◌∙◌}
use mathlib.Core.Bool.{Bool, true, false, not, ◌&&◌}
use mathlib.Core.List.{List, [], ◌∷◌, ◌++◌, map}
use Prim.Native.Nat.{ℕ, ◌+◌, ◌^◌, ◌<◌}
use native.Mathlib.Omega.{arith}
use lib.Dec.{eqb, ltb, leb}
use lib.ListN.{length, length-map}
use Rattle.mask.specs.Mask.{below, within, members, count}
use Rattle.mask.proofs.Sets.{within-or}
use Rattle.refusal.specs.Rows.{unless, first}
use Rattle.route.specs.declared.Places.{Places}
use Rattle.route.specs.declared.Step.{Step}
use Rattle.refusal.specs.declared.Outcome.{Outcome}
use Rattle.job.specs.Job.{Job, after_steps, new_line, job_line}
use Rattle.version.specs.Limits.{present, name_fits}
use Rattle.name_set.specs.Among.{among}
use Rattle.job.specs.Lines.{places_fit, start_fits, step_fits, variable_list, place_list, lists_fit, step_row}
use Rattle.job.specs.Lines.{step_rows, head_rows, route_rows, done_rows, line_rows}
use Rattle.facts.specs.Forms.{form_fits, form_lists, form_row, start_row}
use Rattle.facts.specs.SheetRows.{form_rows, start_line_count, start_rows, after_forms, head_form_rows, route_form_rows}
use Rattle.facts.specs.SheetRows.{sheet_rows}
use Rattle.facts.specs.LinesOf.{form_of, lines_of, Wide, AllWide, WideJob}
use Rattle.facts.proofs.Members.{rising-members, all-below-width, below-is, none_is, fits-is}

fits-same : (places : ℕ) (s : Step) → Wide s → form_fits present places (form_of s) ≡ step_fits places s
unfolding form_fits step_fits form_of
fits-same places s h =
    ap (λ (x : Bool). name_fits present s.name && x)
    (ap₂ (λ (x y : Bool). x && y) (below-is 64 s.ins places h.ins)
    (ap₂ (λ (x y : Bool). x && y) (below-is 64 s.outs places h.outs)
    (ap₂ (λ (x y : Bool). x && y) (all-below-width 32 s.reads) (all-below-width 32 s.writes)))
    ∙ ap (λ (x : Bool). within s.ins (below places) && x) (end (within s.outs (below places)))
    ∙ sym (within-or s.ins s.outs (below places)))
  where
    end : (x : Bool) → (x && (true && true)) ≡ x
    end true = refl
    end false = refl

lists-same : (s : Step) → Wide s → form_lists (form_of s) ≡ lists_fit s
unfolding form_lists lists_fit place_list variable_list form_of
lists-same s h =
    ap₂ (λ (x y : Bool). not x && y) (none_is 64 s.ins h.ins)
    (ap₂ (λ (x y : Bool). not x && y) (none_is 64 s.outs h.outs)
    (ap₂ (λ (x y : Bool). x && y) (fits-is 64 s.ins)
    (ap₂ (λ (x y : Bool). x && y) (fits-is 64 s.outs)
    (ap₂ (λ (x y : Bool). x && y) (fits-is 32 s.reads) (fits-is 32 s.writes)))))
    ∙ turn (not (eqb s.ins 0)) (not (eqb s.outs 0)) (leb (count 64 s.ins) 8) (leb (count 64 s.outs) 8)
    (leb (count 32 s.reads) 8 && leb (count 32 s.writes) 8)
  where
    turn : (a b c d e : Bool) → (a && (b && (c && (d && e)))) ≡ ((a && c) && ((b && d) && e))
    turn true true true d e = refl
    turn true true false d e = refl
    turn true false true d e = refl
    turn true false false d e = refl
    turn false b c d e = refl

row_same : (line places : ℕ) (earlier : List ℕ) (s : Step) → Wide s
    → form_row present line places (length earlier) earlier (form_of s) ≡ step_row line places earlier s
unfolding form_row step_row
row_same line places earlier s h =
    ap₂ (λ (x y : Bool). first (unless (ltb (length earlier) 64) 4 line ∷ unless x 2 line ∷ unless y 3 line
    ∷ unless (not (among (form_of s).name earlier)) 5 line ∷ [])) (fits-same places s h) (lists-same s h)
    ∙ (unfold form_of in refl)

rows_same : (l : List Step) (line places : ℕ) (earlier : List ℕ) → AllWide l
    → form_rows present line places earlier (map form_of l) ≡ step_rows line places earlier l
unfolding form_rows step_rows form_of
rows_same [] line places earlier h = refl
rows_same (s ∷ l) line places earlier h = ap₂ {C = List Outcome} (λ (o : Outcome) (k : List Outcome). o ∷ k)
    (row_same line places earlier s h.0) (rows_same l (line + 1) places (earlier ++ (s.name ∷ [])) h.1)

-- a start line and the row of its mask
start-same : (line count m : ℕ) → m < 2 ^ 64
    → start_row line count (members 64 m) ≡ unless (within m (below count)) 2 line
unfolding start_row members
start-same line count m h =
    ap₂ (λ (x y : Bool). first (unless x 2 line ∷ unless y 3 line ∷ [])) (below-is 64 m count h)
    (rising-members 64 0 0 m (omega arith))
    ∙ rows_at (within m (below count))
  where
    rows_at : (t : Bool) → first (unless t 2 line ∷ unless true 3 line ∷ []) ≡ unless t 2 line
    rows_at true = unfold first unless in refl
    rows_at false = unfold first unless in refl

head-same : (line : ℕ) (places : Places) → places.start < 2 ^ 64
    → head_form_rows present line places.count (members 64 places.start) ≡ head_rows line places
unfolding head_form_rows start_rows head_rows start_fits
head-same line places h =
    ap (λ (o : Outcome). unless (places_fit places.count) 2 line ∷ o ∷ [])
    (start-same (line + 1) places.count places.start h)

-- the line of the next head
next-same : (line : ℕ) (l : List Step) → after_forms present line (map form_of l) ≡ after_steps line l
unfolding start_line_count
next-same line l = omega (arith, length-map l form_of)

route-same : (line : ℕ) (places : Places) (l : List Step) → places.start < 2 ^ 64 → AllWide l
    → route_form_rows present line places.count (members 64 places.start) (map form_of l) ≡ route_rows line places l
unfolding route_form_rows route_rows
route-same line places l start h =
    λ i. head-same line places start i
    ++ (rows_at i
    ++ (unless (not (eqb (length-map l form_of i) 0)) 4 (next-same line l i) ∷ []))
  where
    first_step : line + 1 + start_line_count present ≡ line + 2
    first_step = unfold start_line_count in omega arith

    rows_at : form_rows present (line + 1 + start_line_count present) places.count [] (map form_of l)
        ≡ step_rows (line + 2) places.count [] l
    rows_at = ap (λ (n : ℕ). form_rows present n places.count [] (map form_of l)) first_step
        ∙ rows_same l (line + 2) places.count [] h

-- the rows of a job's records are those of the lines that writing it gives
pub tie : (j : Job) → WideJob j → sheet_rows present (lines_of j) ≡ line_rows j
unfolding sheet_rows line_rows lines_of
tie j h =
    (λ i. route_form_rows present 1 j.old_places.count (members 64 j.old_places.start) (map form_of j.old)
    ++ (route_form_rows present (new-at i) j.new_places.count (members 64 j.new_places.start)
    (map form_of j.new)
    ++ done_rows present (job-at i + 1) 0 j.done))
    ∙ ap₂ (λ (x y : List Outcome). x ++ (y ++ done_rows present (job_line j + 1) 0 j.done))
    (route-same 1 j.old_places j.old h.old_start h.old)
    (route-same (new_line j) j.new_places j.new h.new_start h.new)
  where
    new-at : after_forms present 1 (map form_of j.old) ≡ new_line j
    new-at = next-same 1 j.old

    job-at : after_forms present (after_forms present 1 (map form_of j.old)) (map form_of j.new) ≡ job_line j
    job-at = ap (λ (n : ℕ). after_forms present n (map form_of j.new)) new-at ∙ next-same (new_line j) j.new
