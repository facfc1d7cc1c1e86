-- The rows of lines in turn: what a loop over them meets. A line that passes leaves the rows of those below it, and a
-- line that refuses is the answer.
use mathlib.Core.Path.{◌≡◌, refl, sym, ap, ap₂, ◌∙◌}
use mathlib.Core.Bool.{Bool, true, false, not}
use mathlib.Core.List.{List, [], ◌∷◌, ◌++◌}
use Prim.Native.Nat.{ℕ, zero, suc, ◌+◌, ◌≤◌, ◌<◌}
use native.Mathlib.Nat.{not-suc-le-zero}
use native.Mathlib.Omega.{arith}
use native.Mathlib.Numerals.{add-one}
use lib.Dec.{eqb, ltb, leb}
use lib.ListN.{length, drop, get_or, drop_of_length-le, length-append}
use lib.Seq.{drop-cons}
use borrow.Author.Rules.{rules}
use borrow.Author.Tests.{le-ltb, lt-ltb, ltb-true, leb-true, not-true, not-false, eqb-false, eq-eqb, ne_eqb}
use Rattle.mask.proofs.Truth.{both}
use Rattle.refusal.specs.Rows.{pass, refuse, unless, first}
use Rattle.flat.specs.Flat.{steps_in}
use Rattle.route.specs.Steps.{names}
use Rattle.lookup.specs.Around.{Unique}
use Rattle.route.specs.declared.Places.{Places}
use Rattle.route.specs.declared.Step.{Step}
use Rattle.refusal.specs.declared.Outcome.{Outcome}
use Rattle.refusal.proofs.Rows.{head-refuses, head-passes, head_passed, row-refuses, row-passes, row-passed, rows_end}
use Rattle.refusal.proofs.Rows.{rows-passed}
use Rattle.refusal.proofs.Answered.{err-rows, ok-rows}
use Rattle.refusal.proofs.Sheet.{sheet-old, sheet-new, sheet-done}
use Rattle.refusal.specs.Refusal.{number_of}
use Rattle.refusal.specs.declared.Refusal.{Refusal}
use Rattle.version.specs.Limits.{present, name_fits}
use Rattle.job.specs.Lines.{places_fit, start_fits, step_row, step_rows, head_rows, route_rows, done_row, done_rows}
use Rattle.job.specs.Lines.{line_rows, LinesPass, AllNamed}
use Rattle.job.specs.Job.{Job, flat_job, after_steps, new_line, job_line}
use Rattle.job.proofs.UniqueNames.{route-unique}

-- ---- the done lines

module _ (line i : ℕ) (done : List ℕ) (whole : Outcome) where
  pub done_end : length done ≤ i → first (done_rows present (line + i) i (drop i done)) ≡ whole → pass ≡ whole
  unfolding done_rows
  done_end h inv =
      sym rows_end ∙ ap (λ (x : List ℕ). first (done_rows present (line + i) i x))
      (sym (drop_of_length-le done {i = i} h))
      ∙ inv

  module _ (more : i < length done) (inv : first (done_rows present (line + i) i (drop i done)) ≡ whole) where
    at-line : first (done_row present (line + i) i (get_or done i 0)
        ∷ done_rows present (line + i + 1) (i + 1) (drop (suc i) done)) ≡ whole
    unfolding done_rows
    at-line = ap (λ (x : List ℕ). first (done_rows present (line + i) i x)) (sym (drop-cons done i 0 more)) ∙ inv

    -- the 65th
    pub done-over : i ≤ 64 → 64 ≤ i → refuse 4 (line + 64) ≡ whole
    done-over low high =
        ap (λ (n : ℕ). refuse 4 (line + n)) at ∙ sym (head-refuses _ _ refl)
        ∙ ap (λ (x : Outcome). first (x ∷ done_rows present (line + i + 1) (i + 1) (drop (suc i) done))) (sym refused)
        ∙ at-line
      where
        at : 64 ≡ i
        at = omega arith

        refused : done_row present (line + i) i (get_or done i 0) ≡ refuse 4 (line + i)
        refused = unfold done_row in row-refuses _ 4 (line + i) _ (le-ltb i 64 high) refl

    pub done_refused : (f : Bool) → i < 64 → f ≡ name_fits present (get_or done i 0) → not f ≡ true
        → refuse 2 (line + i) ≡ whole
    done_refused f low is fails =
        sym (head-refuses _ _ refl)
        ∙ ap (λ (x : Outcome). first (x ∷ done_rows present (line + i + 1) (i + 1) (drop (suc i) done))) (sym refused)
        ∙ at-line
      where
        refused : done_row present (line + i) i (get_or done i 0) ≡ refuse 2 (line + i)
        refused =
            unfold done_row in row-passes _ 4 (line + i) _ (lt-ltb i 64 low)
            ∙ row-refuses (name_fits present (get_or done i 0)) 2 (line + i) [] (sym is ∙ not-true f fails) refl

    pub done-passed : (f : Bool) → i < 64 → f ≡ name_fits present (get_or done i 0) → not f ≡ false
        → first (done_rows present (line + (i + 1)) (i + 1) (drop (i + 1) done)) ≡ whole
    done-passed f low is passes =
        ap₂ (λ (n k : ℕ). first (done_rows present n (i + 1) (drop k done))) line_on (add-one i)
        ∙ sym (head-passes _ _ (ap (λ (x : Outcome). eqb x.number 0) passed)) ∙ at-line
      where
        line_on : line + (i + 1) ≡ line + i + 1
        line_on = omega arith

        passed : done_row present (line + i) i (get_or done i 0) ≡ pass
        passed =
            unfold done_row in row-passes _ 4 (line + i) _ (lt-ltb i 64 low)
            ∙ row-passes (name_fits present (get_or done i 0)) 2 (line + i) [] (sym is ∙ not-false f passes) ∙ rows_end

-- ---- a route's lines from its head on

places-bound : (n : ℕ) → places_fit n ≡ true → n ≤ 64
unfolding places_fit
places-bound n e = leb-true n 64 (both (leb 1 n) (leb n 64) e).1

pub head-places : (n : ℕ) (f : Bool) → f ≡ places_fit n → not f ≡ false → n ≤ 64
head-places n f fits ok = places-bound n (sym fits ∙ not-false f ok)

-- the head, then the start line
module _ (line : ℕ) (places : Places) (f : Bool) (fits : f ≡ places_fit places.count) where
  pub head-two : not f ≡ true → refuse 2 line ≡ first (head_rows line places)
  unfolding head_rows
  head-two fails = sym (row-refuses (places_fit places.count) 2 line _ (sym fits ∙ not-true f fails) refl)

  module _ (ok : not f ≡ false) (g : Bool) (starts : g ≡ start_fits places) where
    after-count : (k : List Outcome) → first (unless (places_fit places.count) 2 line ∷ k) ≡ first k
    after-count k = row-passes (places_fit places.count) 2 line k (sym fits ∙ not-false f ok)

    pub start-two : not g ≡ true → refuse 2 (line + 1) ≡ first (head_rows line places)
    unfolding head_rows
    start-two fails =
        sym (row-refuses (start_fits places) 2 (line + 1) [] (sym starts ∙ not-true g fails) refl) ∙ sym (after-count _)

    pub head-pass : not g ≡ false → pass ≡ first (head_rows line places)
    unfolding head_rows
    head-pass passes =
        sym rows_end ∙ sym (row-passes (start_fits places) 2 (line + 1) [] (sym starts ∙ not-false g passes))
        ∙ sym (after-count _)

-- what a head that passes has
head-passing : (line : ℕ) (places : Places) → eqb (first (head_rows line places)).number 0 ≡ true → places.count ≤ 64
unfolding head_rows
head-passing line places e =
    places-bound places.count (row-passed (places_fit places.count) 2 line _ refl e).0

module _ (line : ℕ) (places : Places) where
  pub route-head : (l : List Step) (e : Refusal) → refuse (number_of e.row) e.second ≡ first (head_rows line places)
      → refuse (number_of e.row) e.second ≡ first (route_rows line places l)
  unfolding route_rows
  route-head l e is = err-rows e (head_rows line places) is _

  -- past a head whose rows pass
  module _ (headed : pass ≡ first (head_rows line places)) where
    pub head-count : places.count ≤ 64
    head-count = head-passing line places (ap (λ (o : Outcome). eqb o.number 0) (sym headed))

    after-head : (k : List Outcome) → first (head_rows line places ++ k) ≡ first k
    after-head k = ok-rows (head_rows line places) headed k

    pub route-steps : (l : List Step) (e : Refusal)
        → refuse (number_of e.row) e.second ≡ first (step_rows (line + 2) places.count [] l)
        → refuse (number_of e.row) e.second ≡ first (route_rows line places l)
    unfolding route_rows
    route-steps l e is = err-rows e (step_rows (line + 2) places.count [] l) is _ ∙ sym (after-head _)

    module _ (l : List Step) (passed : pass ≡ first (step_rows (line + 2) places.count [] l)) (n : ℕ)
        (is : n ≡ length l) where
      past-steps : (k : List Outcome) → first (step_rows (line + 2) places.count [] l ++ k) ≡ first k
      past-steps k = ok-rows (step_rows (line + 2) places.count [] l) passed k

      pub route-none : n ≡ 0 → refuse 4 (line + 2) ≡ first (route_rows line places l)
      unfolding route_rows
      route-none nil =
          let none : length l ≡ 0 = sym is ∙ nil in
          let next : line + 2 ≡ after_steps line l = omega arith in
          ap (λ (n : ℕ). refuse 4 n) next
          ∙ sym (row-refuses (not (eqb (length l) 0)) 4 (after_steps line l) [] (ap not (eq-eqb (length l) 0 none)) refl)
          ∙ sym (past-steps _)
          ∙ sym (after-head _)

      pub route-pass : (n ≡ 0 → ⊥) → pass ≡ first (route_rows line places l)
      unfolding route_rows
      route-pass some =
          sym rows_end
          ∙ sym (row-passes (not (eqb (length l) 0)) 4 (after_steps line l) []
          (ap not (ne_eqb (length l) 0 (λ z. some (is ∙ z)))))
          ∙ sym (past-steps _)
          ∙ sym (after-head _)

-- ---- what lines that pass have: no list is over 64, and each route has a step

steps-short : (line places : ℕ) (earlier : List ℕ) (l : List Step) → length earlier ≤ 64
    → eqb (first (step_rows line places earlier l)).number 0 ≡ true → length earlier + length l ≤ 64
unfolding step_rows step_row
steps-short line places earlier [] h e = omega arith
steps-short line places earlier (s ∷ l) h e =
    let now =
    head_passed (step_row line places earlier s) (step_rows (line + 1) places (earlier ++ (s.name ∷ [])) l) e in
    let room : length earlier < 64 =
    ltb-true (length earlier) 64 (row-passed (ltb (length earlier) 64) 4 line _ refl now.0).0 in
    let longer : length (earlier ++ (s.name ∷ [])) ≡ length earlier + 1 = length-append earlier (s.name ∷ []) in
    let rest : length (earlier ++ (s.name ∷ [])) + length l ≤ 64 =
    steps-short (line + 1) places (earlier ++ (s.name ∷ [])) l (omega arith) now.1 in
    omega arith

done-short : (line above : ℕ) (l : List ℕ) → above ≤ 64 → eqb (first (done_rows present line above l)).number 0 ≡ true
    → above + length l ≤ 64
unfolding done_rows done_row
done-short line above [] h e = omega arith
done-short line above (n ∷ l) h e =
    let now = head_passed (done_row present line above n) (done_rows present (line + 1) (above + 1) l) e in
    let room : above < 64 = ltb-true above 64 (row-passed (ltb above 64) 4 line _ refl now.0).0 in
    let rest : above + 1 + length l ≤ 64 = done-short (line + 1) (above + 1) l (omega arith) now.1 in
    omega arith

pub record RouteFits (places : Places) (l : List Step) : Type 0 where
  pub places-fit : places.count ≤ 64
  pub steps-fit : length l ≤ 64
  pub some-step : 0 < length l
  pub names-unique : Unique (names l)

pub route-fits : (line : ℕ) (places : Places) (l : List Step) → eqb (first (route_rows line places l)).number 0 ≡ true
    → RouteFits places l
unfolding route_rows
route-fits line places l e =
    let head = rows-passed (head_rows line places) _ e in
    let lines = rows-passed (step_rows (line + 2) places.count [] l) _ head.1 in
    let bound : 0 + length l ≤ 64 = steps-short (line + 2) places.count [] l (omega arith) lines.0 in
    let some = row-passed (not (eqb (length l) 0)) 4 (after_steps line l) [] refl lines.1 in
    let filled : (length l ≡ 0) → ⊥ = eqb-false (length l) 0 (not-true (eqb (length l) 0) some.0) in
    record {
      places-fit = head-passing line places head.0;
      steps-fit = omega arith;
      some-step = omega arith;
      names-unique = route-unique line places l e;
    }

-- each done name is at least 1
done-named : (line above : ℕ) (l : List ℕ) → eqb (first (done_rows present line above l)).number 0 ≡ true → AllNamed l
unfolding done_rows done_row name_fits
done-named line above [] e i h = absurd (not-suc-le-zero h)
done-named line above (n ∷ l) e i h =
    go i h (head_passed (done_row present line above n) (done_rows present (line + 1) (above + 1) l) e)
    (done-named (line + 1) (above + 1) l)
  where
    go : (i : ℕ) → i < length (n ∷ l)
        → (eqb (done_row present line above n).number 0 ≡ true)
        × (eqb (first (done_rows present (line + 1) (above + 1) l)).number 0 ≡ true)
        → (eqb (first (done_rows present (line + 1) (above + 1) l)).number 0 ≡ true → AllNamed l) → 1 ≤ get_or (n ∷ l) i 0
    go zero h now ih =
        let fits = (row-passed (ltb above 64) 4 line (unless (name_fits present n) 2 line ∷ []) refl now.0).1 in
        leb-true 1 n (both (leb 1 n) _ (row-passed (name_fits present n) 2 line [] refl fits).0).0
    go (suc i) h now ih = ih now.1 i (omega arith)

pub done-fits : (line : ℕ) (l : List ℕ) → eqb (first (done_rows present line 0 l)).number 0 ≡ true → length l ≤ 64
done-fits line l e = omega (arith, done-short line 0 l (omega arith) e)

-- ---- all lines: the old route's, the new route's, the done lines

-- a route's lines pass
module _ (line : ℕ) (places : Places) (l : List Step) (passed : pass ≡ first (route_rows line places l)) where
  asked : RouteFits places l
  asked = route-fits line places l (ap (λ (o : Outcome). eqb o.number 0) (sym passed))

  pub route-few : length l ≤ 64
  route-few = asked.steps-fit

  pub route-places : places.count ≤ 64
  route-places = asked.places-fit

-- where the lines after a route of at most 64 steps begin
pub head-fits : (l : List Step) (head : ℕ) → head ≡ after_steps 1 l → length l ≤ 64 → head < 900
head-fits l head is few = omega arith

module _ (j : Job) where
  abbrev old_rows : List Outcome
  old_rows = route_rows 1 j.old_places j.old

  abbrev new_at : ℕ → List Outcome
  new_at n = route_rows n j.new_places j.new

  abbrev done_at : ℕ → List Outcome
  done_at n = done_rows present (n + 1) 0 j.done

  pub lines-old : (e : Refusal) → refuse (number_of e.row) e.second ≡ first old_rows
      → refuse (number_of e.row) e.second ≡ first (line_rows j)
  unfolding line_rows
  lines-old = sheet-old old_rows new_at done_at (new_line j) (job_line j)

  module _ (passed : pass ≡ first old_rows) (head : ℕ) (head-is : head ≡ new_line j) where
    pub lines_new : (e : Refusal) → refuse (number_of e.row) e.second ≡ first (route_rows head j.new_places j.new)
        → refuse (number_of e.row) e.second ≡ first (line_rows j)
    unfolding line_rows
    lines_new = sheet-new old_rows new_at done_at (new_line j) (job_line j) passed head head-is

    pub lines-done : pass ≡ first (route_rows head j.new_places j.new) → (line : ℕ) → line ≡ job_line j → (o : Outcome)
        → o ≡ first (done_rows present (line + 1) 0 j.done)
        → o ≡ first (line_rows j)
    unfolding line_rows
    lines-done = sheet-done old_rows new_at done_at (new_line j) (job_line j) passed head head-is

-- what a job whose lines pass has
pub record LinesFit (j : Job) : Type 0 where
  pub old-fits : RouteFits j.old_places j.old
  pub new-fits : RouteFits j.new_places j.new
  pub done-fit : length j.done ≤ 64
  pub done-names : AllNamed j.done

pub lines_fit : (j : Job) → eqb (first (line_rows j)).number 0 ≡ true → LinesFit j
unfolding line_rows
lines_fit j e =
    let one = rows-passed (route_rows 1 j.old_places j.old) _ e in
    let two = rows-passed (route_rows (new_line j) j.new_places j.new) _ one.1 in
    record {
      old-fits = route-fits 1 j.old_places j.old one.0;
      new-fits = route-fits (new_line j) j.new_places j.new two.0;
      done-fit = done-fits (job_line j + 1) j.done two.1;
      done-names = done-named (job_line j + 1) 0 j.done two.1;
    }

-- the same by the lines' number
pub pass_fits : (j : Job) → LinesPass j → LinesFit j
pass_fits j e = lines_fit j (eq-eqb (first (line_rows j)).number 0 e)

module _ (places : Places) (old : List ℕ) (places' : Places) (new done : List ℕ)
    (e : LinesPass (flat_job places old places' new done)) where
  abbrev fits : LinesFit (flat_job places old places' new done)
  fits = pass_fits (flat_job places old places' new done) e

  pub old-places-fit : places.count ≤ 64
  old-places-fit = fits.old-fits.places-fit

  pub new-places-fit : places'.count ≤ 64
  new-places-fit = fits.new-fits.places-fit

  pub old-steps-fit : length (steps_in old) ≤ 64
  old-steps-fit = fits.old-fits.steps-fit

  pub new-steps-fit : length (steps_in new) ≤ 64
  new-steps-fit = fits.new-fits.steps-fit

  pub old-names-unique : Unique (names (steps_in old))
  old-names-unique = fits.old-fits.names-unique

  pub new-names-unique : Unique (names (steps_in new))
  new-names-unique = fits.new-fits.names-unique

  pub done-names-fit : length done ≤ 64
  done-names-fit = fits.done-fit

-- what the lines of lists of numbers have where they pass
pub ruleset lists-fit = (
  rules,
  old-places-fit,
  new-places-fit,
  old-steps-fit,
  new-steps-fit,
  old-names-unique,
  new-names-unique,
  done-names-fit,
)
