-- Lines said in another version. A row asks for the version only where it looks at a name or a start line, and whether
-- the others pass doesn't depend on where they stand: so lines that one version reads another reads too, with start
-- lines of its own, where it allows their names and marks; and as the same facts, with these starts. Assumes nothing.
use mathlib.Core.Path.{◌≡◌, refl, sym, ap, ap₂, ◌∙◌}
use mathlib.Core.Bool.{Bool, true, false, not, cond, ◌&&◌}
use mathlib.Core.List.{List, [], ◌∷◌, ◌++◌, map}
use Prim.Native.Nat.{ℕ, ◌+◌, ◌≤◌}
use lib.Dec.{eqb, ltb}
use lib.ListN.{length}
use Rattle.mask.proofs.Truth.{both}
use Rattle.refusal.specs.declared.Outcome.{Outcome}
use Rattle.refusal.proofs.Rows.{row-passes, row-passed, rows_pass, rows-passed, head-passes, head_passed, rows_end}
use Rattle.version.specs.Limits.{name_fits, Limits}
use Rattle.version.proofs.Limits.{fits_iff}
use Rattle.version.specs.declared.Version.{Version}
use Rattle.name_set.specs.Among.{among}
use Rattle.job.specs.Lines.{places_fit, done_row, done_rows}
use Rattle.layout.specs.Text.{Form, Lines, text}
use Rattle.facts.specs.Forms.{all_below, rising, form_fits, form_lists, form_row, start_row, masked, record_of}
use Rattle.facts.specs.Facts.{started, with_old, with_new, read_by}
use Rattle.facts.specs.Names.{Within, form_names, NamesTo}
use Rattle.facts.specs.Marks.{MarksTo}
use Rattle.facts.specs.Starts.{StartsTo, RisingBelow, started_lines, started_both}
use Rattle.facts.specs.SheetRows.{form_rows, start_line_count, start_rows, after_forms, head_form_rows, route_form_rows}
use Rattle.facts.specs.SheetRows.{sheet_rows, filled, places_read, facts_record}
use Rattle.facts.proofs.PassingLines.{Passes, FineStart}
use Rattle.facts.proofs.ReadRecords.{text-reads}

module _ (v w : Version) where
  form-in : (line at places above : ℕ) (earlier : List ℕ) (f : Form) → (1 ≤ f.name) × (f.name ≤ w.greatest)
      → eqb (form_row v line places above earlier f).number 0 ≡ true
      → eqb (form_row w at places above earlier f).number 0 ≡ true
  unfolding form_row form_fits
  form-in line at places above earlier f name e =
      let (a, e₁) = row-passed (ltb above 64) 4 line _ refl e in
      let (b, e₂) = row-passed (form_fits v places f) 2 line _ refl e₁ in
      let (c, e₃) = row-passed (form_lists f) 3 line _ refl e₂ in
      let (d, e₄) = row-passed (not (among f.name earlier)) 5 line [] refl e₃ in
      let fits = ap₂ (λ (s t : Bool). s && t) ((fits_iff w f.name).1 name) (both (name_fits v f.name) _ b).1 in
      ap (λ (o : Outcome). eqb o.number 0)
      (row-passes _ 4 at _ a ∙ row-passes _ 2 at _ fits ∙ row-passes _ 3 at _ c ∙ row-passes _ 5 at [] d ∙ rows_end)

  forms-in : (line at places : ℕ) (earlier : List ℕ) (l : List Form) → Within w.greatest (form_names l)
      → Passes (form_rows v line places earlier l) → Passes (form_rows w at places earlier l)
  unfolding form_rows
  forms-in line at places earlier [] names e = e
  forms-in line at places earlier (f ∷ l) names e =
      let (own, rest) = head_passed (form_row v line places (length earlier) earlier f) _ e in
      ap (λ (o : Outcome). eqb o.number 0)
      (head-passes (form_row w at places (length earlier) earlier f) _
      (form-in line at places (length earlier) earlier f names.0 own))
      ∙ forms-in (line + 1) (at + 1) places (earlier ++ (f.name ∷ [])) l names.1 rest

  dones-in : (line at above : ℕ) (l : List ℕ) → Within w.greatest l → Passes (done_rows v line above l)
      → Passes (done_rows w at above l)
  unfolding done_rows done_row
  dones-in line at above [] names e = e
  dones-in line at above (n ∷ l) names e =
      let (own, rest) = head_passed (done_row v line above n) _ e in
      let (a, _) = row-passed (ltb above 64) 4 line _ refl own in
      ap (λ (o : Outcome). eqb o.number 0)
      (head-passes (done_row w at above n) _ (ap (λ (o : Outcome). eqb o.number 0)
      (row-passes _ 4 at _ a ∙ row-passes _ 2 at [] ((fits_iff w n).1 names.0) ∙ rows_end)))
      ∙ dones-in (line + 1) (at + 1) (above + 1) l names.1 rest

  start-passes : (at places : ℕ) (start : List ℕ) → FineStart w places start → Passes (start_rows w at places start)
  unfolding start_rows start_row
  start-passes at places start fits = go w.starts fits
    where
      go : (t : Bool) → (t ≡ true → RisingBelow places start)
          → Passes (cond t (start_row at places start ∷ []) [])
      go false h = ap (λ (o : Outcome). eqb o.number 0) rows_end
      go true h = ap (λ (o : Outcome). eqb o.number 0)
          (head-passes (start_row at places start) [] (ap (λ (o : Outcome). eqb o.number 0)
          (row-passes (all_below places start) 2 at _ (h refl).low ∙ row-passes (rising 0 start) 3 at [] (h refl).rises
          ∙ rows_end)) ∙ rows_end)

  route-in : (line at places : ℕ) (own start : List ℕ) (l : List Form) → Within w.greatest (form_names l)
      → FineStart w places start → Passes (route_form_rows v line places own l)
      → Passes (route_form_rows w at places start l)
  unfolding route_form_rows head_form_rows
  route-in line at places own start l names fits e =
      let (head, rest) = rows-passed (head_form_rows v line places own) _ e in
      let (count, _) = row-passed (places_fit places) 2 line _ refl head in
      let (steps, last) = rows-passed (form_rows v (line + 1 + start_line_count v) places [] l) _ rest in
      let (some-step, _) = row-passed (not (eqb (length l) 0)) 4 (after_forms v line l) [] refl last in
      ap (λ (o : Outcome). eqb o.number 0)
      (rows_pass (head_form_rows w at places start) _
      (ap (λ (o : Outcome). eqb o.number 0) (row-passes (places_fit places) 2 at _ count)
      ∙ start-passes (at + 1) places start fits)
      ∙ rows_pass (form_rows w (at + 1 + start_line_count w) places [] l) _ (forms-in _ _ places [] l names steps)
      ∙ row-passes _ 4 (after_forms w at l) [] some-step
      ∙ rows_end)

  module _ (x : Lines) (a b : List ℕ) where
    pub rows-in-another : NamesTo w.greatest x
        → (w.starts ≡ true → RisingBelow x.old_places a × RisingBelow x.new_places b)
        → Passes (sheet_rows v x) → Passes (sheet_rows w (started_lines a b x))
    unfolding sheet_rows
    rows-in-another names fits e =
        let next = after_forms v 1 x.old in
        let next' = after_forms w 1 x.old in
        let (one, e₁) = rows-passed (route_form_rows v 1 x.old_places x.old_start x.old) _ e in
        let (two, three) = rows-passed (route_form_rows v next x.new_places x.new_start x.new) _ e₁ in
        ap (λ (o : Outcome). eqb o.number 0)
        (rows_pass (route_form_rows w 1 x.old_places a x.old) _
        (route-in 1 1 x.old_places x.old_start a x.old names.old (λ t. (fits t).0) one)
        ∙ rows_pass (route_form_rows w next' x.new_places b x.new) _
        (route-in next next' x.new_places x.new_start b x.new names.new (λ t. (fits t).1) two))
        ∙ dones-in _ _ 0 x.done names.done three

    pub reads-in-another : Limits w → NamesTo w.greatest x → MarksTo w.cloth x
        → StartsTo w.starts (started_lines a b x)
        → (w.starts ≡ true → RisingBelow x.old_places a × RisingBelow x.new_places b)
        → Passes (sheet_rows v x) → read_by w (text w (started_lines a b x)) ≡ facts_record w (started_lines a b x)
    reads-in-another limits names marks starts fits e =
        text-reads {v = w} limits (started_lines a b x) (record { old = marks.old; new = marks.new }) starts
        (rows-in-another names fits e)

    -- a version without start lines says the start 0, as no places do
    pub facts-in-another : StartsTo w.starts (started_lines a b x)
        → facts_record w (started_lines a b x) ≡ started_both a b (facts_record v x)
    unfolding facts_record filled places_read started masked
    facts-in-another starts =
        λ i. with_new (filled (record { count = x.new_places; start = start_is b starts.new i }) (map record_of x.new))
        (with_old (filled (record { count = x.old_places; start = start_is a starts.old i }) (map record_of x.old))
        (facts_record v x))
      where
        start_is : (l : List ℕ) → (w.starts ≡ false → l ≡ []) → cond w.starts (masked 64 0 l) 0 ≡ masked 64 0 l
        start_is l none = go w.starts none
          where
            go : (t : Bool) → (t ≡ false → l ≡ []) → cond t (masked 64 0 l) 0 ≡ masked 64 0 l
            go true h = refl
            go false h = ap (masked 64 0) (sym (h refl))
