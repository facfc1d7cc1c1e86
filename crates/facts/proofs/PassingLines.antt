-- What rows that pass say of the lines: every form fits its range and its lists, every start line rises below its
-- count, no count is over 64, and every number is short. Assumes nothing.
use mathlib.Core.Path.{◌≡◌, refl, sym, ap, ◌∙◌, subst}
use mathlib.Core.Bool.{Bool, true, false, not, cond, ◌&&◌, false≢true}
use mathlib.Core.List.{List, [], ◌∷◌, ◌++◌}
use Prim.Native.Nat.{ℕ, ◌+◌, ◌≤◌, ◌<◌}
use native.Mathlib.Omega.{arith}
use lib.Dec.{eqb, ltb, leb}
use lib.ListN.{length, length-append}
use borrow.Author.Tests.{leb-true, ltb-true}
use Rattle.mask.proofs.Truth.{both}
use Rattle.version.proofs.Limits.{fits_iff, low-short, name-short}
use Rattle.refusal.specs.Rows.{first}
use Rattle.refusal.specs.declared.Outcome.{Outcome}
use Rattle.refusal.proofs.Rows.{head_passed, unless-elim, row-passed, rows-passed}
use Rattle.version.specs.Limits.{name_fits}
use Rattle.job.specs.Lines.{places_fit, done_row, done_rows}
use Rattle.version.specs.Limits.{Limits}
use Rattle.version.specs.declared.Version.{Version}
use Rattle.layout.specs.Text.{Form, Lines, Shorts, ShortForm, ShortForms, ShortStart, ShortLines}
use Rattle.facts.specs.Forms.{all_below, rising, list_fits, form_fits, form_lists, form_row, start_row}
use Rattle.facts.specs.Names.{Within, form_names, NamesTo}
use Rattle.facts.specs.Marks.{Marks, MarksTo}
use Rattle.facts.specs.Starts.{StartsTo, RisingBelow}
use Rattle.facts.specs.SheetRows.{form_rows, start_line_count, start_rows, after_forms, head_form_rows, route_form_rows}
use Rattle.facts.specs.SheetRows.{sheet_rows}

abbrev pub Passes : List Outcome → Type 0
Passes rows = eqb (first rows).number 0 ≡ true

-- a list that passes rows 2 and 3: its entries are below n, at most eight, and rise
pub record FineList (n : ℕ) (l : List ℕ) : Type 0 where
  pub low : all_below n l ≡ true
  pub few : length l ≤ 8
  pub rises : rising 0 l ≡ true

-- a step's line that passes
pub record Fine (v : Version) (places : ℕ) (f : Form) : Type 0 where
  pub name : name_fits v f.name ≡ true
  pub ins : FineList places f.ins
  pub outs : FineList places f.outs
  pub reads : FineList 32 f.reads
  pub writes : FineList 32 f.writes

list-fine : (n : ℕ) (l : List ℕ) → all_below n l ≡ true → list_fits l ≡ true → FineList n l
unfolding list_fits
list-fine n l low fits =
    let parts = both (leb (length l) 8) (rising 0 l) fits in
    record { low = low; few = leb-true (length l) 8 parts.0; rises = parts.1 }

form-fine : (v : Version) (places : ℕ) (f : Form) → form_fits v places f ≡ true → form_lists f ≡ true → Fine v places f
unfolding form_fits form_lists
form-fine v places f fits lists =
    let a = both (name_fits v f.name) _ fits in
    let b = both (all_below places f.ins) _ a.1 in
    let c = both (all_below places f.outs) _ b.1 in
    let d = both (all_below 32 f.reads) _ c.1 in
    let some = both (not (eqb (length f.outs) 0)) _ (both (not (eqb (length f.ins) 0)) _ lists).1 in
    let p = both (list_fits f.ins) _ some.1 in
    let q = both (list_fits f.outs) _ p.1 in
    let r = both (list_fits f.reads) _ q.1 in
    record {
      name = a.0;
      ins = list-fine places f.ins b.0 p.0;
      outs = list-fine places f.outs c.0 q.0;
      reads = list-fine 32 f.reads d.0 r.0;
      writes = list-fine 32 f.writes d.1 r.1;
    }

abbrev pub AllFine : (v : Version) → ℕ → List Form → Type 0
AllFine v places [] = Unit {0}
AllFine v places (f ∷ l) = Fine v places f × AllFine v places l

forms-fine : (v : Version) (l : List Form) (line places : ℕ) (earlier : List ℕ) → length earlier ≤ 64
    → Passes (form_rows v line places earlier l) → AllFine v places l × (length earlier + length l ≤ 64)
unfolding form_rows form_row
forms-fine v [] line places earlier few h = (tt, omega arith)
forms-fine v (f ∷ l) line places earlier few h =
    let row = head_passed _ _ h in
    let four = head_passed _ _ row.0 in
    let two = head_passed _ _ four.1 in
    let three = head_passed _ _ two.1 in
    let room : length earlier < 64 = ltb-true (length earlier) 64
    (unless-elim (ltb (length earlier) 64) 4 line refl four.0) in
    let rest = forms-fine v l (line + 1) places (earlier ++ (f.name ∷ []))
    (omega (arith, length-append earlier (f.name ∷ []))) row.1 in (
      (
        form-fine v places f (unless-elim (form_fits v places f) 2 line refl two.0)
            (unless-elim (form_lists f) 3 line refl three.0),
        rest.0,
      ),
      omega (arith, rest.1, length-append earlier (f.name ∷ [])),
    )

-- a start line that passes, where the version has it
abbrev pub FineStart : Version → ℕ → List ℕ → Type 0
FineStart v n l = v.starts ≡ true → RisingBelow n l

start_fine : (v : Version) (line n : ℕ) (l : List ℕ) → Passes (start_rows v line n l) → FineStart v n l
unfolding start_rows start_row
start_fine v line n l h e =
    let here = ap (λ (t : Bool). eqb (first (cond t (start_row line n l ∷ []) [])).number 0) (sym e) ∙ h in
    let row = (head_passed (start_row line n l) [] here).0 in
    let (low, three) = row-passed (all_below n l) 2 line _ refl row in
    record { low = low; rises = (row-passed (rising 0 l) 3 line [] refl three).0 }

abbrev AllNamed : Version → List ℕ → Type 0
AllNamed v [] = Unit {0}
AllNamed v (n ∷ l) = (name_fits v n ≡ true) × AllNamed v l

dones-fine : (v : Version) (l : List ℕ) (line above : ℕ) → above ≤ 64 → Passes (done_rows v line above l)
    → AllNamed v l × (above + length l ≤ 64)
unfolding done_rows done_row
dones-fine v [] line above few h = (tt, omega arith)
dones-fine v (n ∷ l) line above few h =
    let row = head_passed _ _ h in
    let four = head_passed _ _ row.0 in
    let two = head_passed _ _ four.1 in
    let room : above < 64 = ltb-true above 64 (unless-elim (ltb above 64) 4 line refl four.0) in
    let name = unless-elim (name_fits v n) 2 line refl two.0 in
    let rest = dones-fine v l (line + 1) (above + 1) (omega arith) row.1 in
    ((name, rest.0), omega (arith, rest.1))

-- what the lines of a sheet that passes are
pub record AllLines (v : Version) (x : Lines) : Type 0 where
  pub old_places : x.old_places ≤ 64
  pub old_start : FineStart v x.old_places x.old_start
  pub old : AllFine v x.old_places x.old
  pub old_few : length x.old ≤ 64
  pub new_places : x.new_places ≤ 64
  pub new_start : FineStart v x.new_places x.new_start
  pub new : AllFine v x.new_places x.new
  pub new_few : length x.new ≤ 64
  pub done : AllNamed v x.done
  pub done_few : length x.done ≤ 64

route-fine : (v : Version) (line places : ℕ) (start : List ℕ) (l : List Form)
    → Passes (route_form_rows v line places start l)
    → (places ≤ 64) × FineStart v places start × AllFine v places l × (length l ≤ 64)
unfolding route_form_rows head_form_rows places_fit
route-fine v line places start l h =
    let head = rows-passed (head_form_rows v line places start) _ h in
    let (count, starts) = head_passed _ _ head.0 in
    let steps = forms-fine v l (line + 1 + start_line_count v) places [] (omega arith)
    (rows-passed (form_rows v (line + 1 + start_line_count v) places [] l) _ head.1).0 in (
      leb-true places 64 (both (leb 1 places) (leb places 64)
          (unless-elim (leb 1 places && leb places 64) 2 line refl count)).1,
      start_fine v (line + 1) places start starts,
      steps.0,
      omega (arith, steps.1),
    )

pub lines-fine : (v : Version) (x : Lines) → Passes (sheet_rows v x) → AllLines v x
unfolding sheet_rows
lines-fine v x h =
    let a = rows-passed (route_form_rows v 1 x.old_places x.old_start x.old) _ h in
    let b = rows-passed (route_form_rows v (after_forms v 1 x.old) x.new_places x.new_start x.new) _ a.1 in
    let old = route-fine v 1 x.old_places x.old_start x.old a.0 in
    let new = route-fine v (after_forms v 1 x.old) x.new_places x.new_start x.new b.0 in
    let done = dones-fine v x.done _ 0 (omega arith) b.1 in
    record {
      old_places = old.0;
      old_start = old.1;
      old = old.2;
      old_few = old.3;
      new_places = new.0;
      new_start = new.1;
      new = new.2;
      new_few = new.3;
      done = done.0;
      done_few = omega (arith, done.1);
    }

-- ---- every name is in its version's range, and in any longer one

module _ (v : Version) (g : ℕ) (most : v.greatest ≤ g) where
  name-within : (n : ℕ) → name_fits v n ≡ true → (1 ≤ n) × (n ≤ g)
  name-within n h = let (low, high) = (fits_iff v n).0 h in (low, omega (arith, high, most))

  forms-within : (places : ℕ) (l : List Form) → AllFine v places l → Within g (form_names l)
  forms-within places [] fine = tt
  forms-within places (f ∷ l) fine = (name-within f.name fine.0.name, forms-within places l fine.1)

  names-within : (l : List ℕ) → AllNamed v l → Within g l
  names-within [] h = tt
  names-within (n ∷ l) h = (name-within n h.0, names-within l h.1)

  pub lines-named : (x : Lines) → AllLines v x → NamesTo g x
  lines-named x h = record {
    old = forms-within x.old_places x.old h.old;
    new = forms-within x.new_places x.new h.new;
    done = names-within x.done h.done;
  }

-- ---- the marks of lines that a version can write, and those of any lines where steps may be marked

forms-marks : (v : Version) (l : List Form) → ShortForms v l → Marks v.cloth l
forms-marks v [] h = tt
forms-marks v (f ∷ l) h = (h.0.cloth, forms-marks v l h.1)

pub short-marks : (v : Version) (x : Lines) → ShortLines v x → MarksTo v.cloth x
short-marks v x h = record { old = forms-marks v x.old h.old; new = forms-marks v x.new h.new }

any-marks : (l : List Form) → Marks true l
any-marks [] = tt
any-marks (f ∷ l) = (λ e. refl, any-marks l)

pub all-marks : (x : Lines) → MarksTo true x
all-marks x = record { old = any-marks x.old; new = any-marks x.new }

-- ---- the start lines likewise

pub short-starts : (v : Version) (x : Lines) → ShortLines v x → StartsTo v.starts x
short-starts v x h = record { old = h.old_start.none; new = h.new_start.none }

pub all-starts : (x : Lines) → StartsTo true x
all-starts x = record { old = λ e. absurd (false≢true (sym e)); new = λ e. absurd (false≢true (sym e)) }

-- ---- every number is short

below-short : (v : Version) (limits : Limits v) (l : List ℕ) (n : ℕ) → n ≤ 64 → all_below n l ≡ true → Shorts v l
unfolding all_below
below-short v limits [] n h e = tt
below-short v limits (m ∷ l) n h e =
    let parts = both (ltb m n) (all_below n l) e in
    (low-short v limits m (omega (arith, ltb-true m n parts.0)), below-short v limits l n h parts.1)

start-short : (v : Version) (limits : Limits v) (l : List ℕ) (n : ℕ) → n ≤ 64 → (v.starts ≡ false → l ≡ [])
    → FineStart v n l → ShortStart v l
start-short v limits l n h none fine = record { entries = go v.starts refl; none = none }
  where
    go : (t : Bool) → v.starts ≡ t → Shorts v l
    go true e = below-short v limits l n h ((fine e).low)
    go false e = subst (Shorts v) (sym (none e)) tt

form-short : (v : Version) (limits : Limits v) (places : ℕ) (f : Form) → places ≤ 64
    → (f.cloth ≡ true → v.cloth ≡ true) → Fine v places f → ShortForm v f
form-short v limits places f h mark fine = record {
  name = name-short v limits f.name fine.name;
  ins = below-short v limits f.ins places h fine.ins.low;
  outs = below-short v limits f.outs places h fine.outs.low;
  reads = below-short v limits f.reads 32 (omega arith) fine.reads.low;
  writes = below-short v limits f.writes 32 (omega arith) fine.writes.low;
  cloth = mark;
}

forms-short : (v : Version) (limits : Limits v) (l : List Form) (places : ℕ) → places ≤ 64 → Marks v.cloth l
    → AllFine v places l → ShortForms v l
forms-short v limits [] places h marks fine = tt
forms-short v limits (f ∷ l) places h marks fine = (
  form-short v limits places f h marks.0 fine.0,
  forms-short v limits l places h marks.1 fine.1,
)

names-short : (v : Version) (limits : Limits v) (l : List ℕ) → AllNamed v l → Shorts v l
names-short v limits [] h = tt
names-short v limits (n ∷ l) h = (name-short v limits n h.0, names-short v limits l h.1)

pub lines-short : (v : Version) (limits : Limits v) (x : Lines) → MarksTo v.cloth x → StartsTo v.starts x
    → AllLines v x → ShortLines v x
lines-short v limits x marks starts h = record {
  old_places = low-short v limits x.old_places (omega (arith, h.old_places));
  old_start = start-short v limits x.old_start x.old_places h.old_places starts.old h.old_start;
  old = forms-short v limits x.old x.old_places h.old_places marks.old h.old;
  new_places =
      low-short v limits x.new_places (omega (arith, h.new_places));
  new_start = start-short v limits x.new_start x.new_places h.new_places starts.new h.new_start;
  new =
      forms-short v limits x.new x.new_places h.new_places marks.new h.new;
  done =
      names-short v limits x.done h.done;
}
