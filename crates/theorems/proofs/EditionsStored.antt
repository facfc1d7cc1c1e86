-- Routes that put has stored are never refused in a judge: the rows that put looks at are those of an old route, and
-- whether they pass doesn't depend on the line where the route's head stands.
use mathlib.Core.Path.{◌≡◌, refl, sym, ap, subst, ◌∙◌}
use mathlib.Core.Bool.{Bool, true, false, not, cond}
use mathlib.Core.List.{List, [], ◌∷◌, ◌++◌}
use mathlib.Core.Option.{some, some-injective}
use Prim.Native.Nat.{ℕ, ◌+◌}
use lib.Dec.{eqb, ltb}
use lib.ListN.{length}
use borrow.Author.Tests.{eq-eqb}
use Rattle.refusal.specs.Rows.{first, each_line}
use Rattle.refusal.specs.declared.Outcome.{Outcome}
use Rattle.refusal.proofs.Rows.{row-passes, row-passed, rows_pass, rows-refuse, rows-passed, head-passes, head_passed}
use Rattle.refusal.proofs.Rows.{rows_end, first-clean}
use Rattle.version.specs.Limits.{present}
use Rattle.route.specs.Steps.{steps_of}
use Rattle.route.specs.declared.Places.{Places}
use Rattle.route.specs.declared.Step.{Step}
use Rattle.route.specs.declared.Route.{Route}
use Rattle.opening.specs.Net.{net_row, open_row}
use Rattle.opening.specs.Unwritten.{reads_written, unwritten_rows}
use Rattle.opening.proofs.NetRows.{net-anywhere}
use Rattle.job.specs.Job.{job_of, after_steps, new_line, job_line}
use Rattle.name_set.specs.Among.{among}
use Rattle.job.specs.Lines.{places_fit, start_fits, step_fits, lists_fit, step_row, step_rows, head_rows, route_rows}
use Rattle.job.specs.Lines.{done_rows, line_rows, checked}
use Rattle.job.specs.Alone.{alone_rows}
use Rattle.mask.proofs.Truth.{either}
use Rattle.shelf.specs.Shelf.{editions_of, route_of}
use Rattle.shelf.specs.Put.{stored}
use Rattle.shelf.specs.declared.Edition.{Edition}
use Rattle.shelf.specs.declared.Shelf.{Shelf}
use Rattle.theorems.specs.Editions.{Eight, Meets, AllMeet}
use Rattle.theorems.proofs.Editions.{put-adds, put-refuses, put_meets}

abbrev Passes : List Outcome → Type 0
Passes l = eqb (first l).number 0 ≡ true

-- ---- whether a route's rows pass doesn't depend on the line

step-anywhere : (line at places : ℕ) (earlier : List ℕ) (s : Step)
    → eqb (step_row line places earlier s).number 0 ≡ true → eqb (step_row at places earlier s).number 0 ≡ true
unfolding step_row
step-anywhere line at places earlier s e =
    let (a, e₁) = row-passed (ltb (length earlier) 64) 4 line _ refl e in
    let (b, e₂) = row-passed (step_fits places s) 2 line _ refl e₁ in
    let (c, e₃) = row-passed (lists_fit s) 3 line _ refl e₂ in
    let (d, e₄) = row-passed (not (among s.name earlier)) 5 line [] refl e₃ in
    ap (λ (o : Outcome). eqb o.number 0)
    (row-passes _ 4 at _ a ∙ row-passes _ 2 at _ b ∙ row-passes _ 3 at _ c ∙ row-passes _ 5 at [] d ∙ rows_end)

steps-anywhere : (line at places : ℕ) (earlier : List ℕ) (l : List Step)
    → Passes (step_rows line places earlier l) → Passes (step_rows at places earlier l)
unfolding step_rows
steps-anywhere line at places earlier [] e = e
steps-anywhere line at places earlier (s ∷ l) e =
    let (own, rest) = head_passed (step_row line places earlier s) _ e in
    ap (λ (o : Outcome). eqb o.number 0)
    (head-passes (step_row at places earlier s) _ (step-anywhere line at places earlier s own))
    ∙ steps-anywhere (line + 1) (at + 1) places (earlier ++ (s.name ∷ [])) l rest

head-anywhere : (line at : ℕ) (places : Places) → Passes (head_rows line places) → Passes (head_rows at places)
unfolding head_rows
head-anywhere line at places e =
    let (count, rest) = row-passed (places_fit places.count) 2 line _ refl e in
    let (start, _) = row-passed (start_fits places) 2 (line + 1) [] refl rest in
    ap (λ (o : Outcome). eqb o.number 0)
    (row-passes _ 2 at _ count ∙ row-passes _ 2 (at + 1) [] start ∙ rows_end)

route-anywhere : (line at : ℕ) (places : Places) (l : List Step)
    → Passes (route_rows line places l) → Passes (route_rows at places l)
unfolding route_rows
route-anywhere line at places l e =
    let (head, rest) = rows-passed (head_rows line places) _ e in
    let (steps, last) = rows-passed (step_rows (line + 2) places.count [] l) _ rest in
    let (some-step, _) = row-passed (not (eqb (length l) 0)) 4 (after_steps line l) [] refl last in
    ap (λ (o : Outcome). eqb o.number 0)
    (rows_pass (head_rows at places) _ (head-anywhere line at places head)
    ∙ rows_pass (step_rows (at + 2) places.count [] l) _
    (steps-anywhere (line + 2) (at + 2) places.count [] l steps)
    ∙ row-passes _ 4 (after_steps at l) [] some-step
    ∙ rows_end)

each-anywhere : (test : Step → Bool) (n line at : ℕ) (l : List Step) → eqb n 0 ≡ false
    → Passes (each_line test n line l) → Passes (each_line test n at l)
unfolding each_line
each-anywhere test n line at [] z e = e
each-anywhere test n line at (s ∷ l) z e =
    let (own, rest) = row-passed (test s) n line _ z e in
    ap (λ (o : Outcome). eqb o.number 0) (row-passes (test s) n at _ own)
    ∙ each-anywhere test n (line + 1) (at + 1) l z rest

open-anywhere : (line at : ℕ) (places : Places) (l : List Step)
    → eqb (open_row line places l).number 0 ≡ true → eqb (open_row at places l).number 0 ≡ true
unfolding open_row unwritten_rows
open-anywhere line at places l e =
    let (net, reads) = head_passed (net_row line places l) _ e in
    ap (λ (o : Outcome). eqb o.number 0)
    (head-passes (net_row at places l) _ (net-anywhere line (line + 1) at (at + 1) places l net))
    ∙ each-anywhere (reads_written l) 23 (line + 2) (at + 2) l refl reads

-- what the rows of a route by itself say of it in a sheet
meets-anywhere : (r : Route) → Meets r → (at : ℕ)
    → Passes (route_rows at r.places (steps_of r)) × (eqb (open_row at r.places (steps_of r)).number 0 ≡ true)
unfolding alone_rows
meets-anywhere r meets at =
    let (lines, whole) = rows-passed (route_rows 1 r.places (steps_of r)) _ (eq-eqb _ 0 meets) in (
      route-anywhere 1 at r.places (steps_of r) lines,
      open-anywhere 1 at r.places (steps_of r) (head_passed (open_row 1 r.places (steps_of r)) [] whole).0,
    )

-- rows that pass at the end say nothing
pass-last : (a b : List Outcome) → Passes b → first (a ++ b) ≡ first a
pass-last a b e = go (eqb (first a).number 0) refl
  where
    go : (t : Bool) → eqb (first a).number 0 ≡ t → first (a ++ b) ≡ first a
    go true p = rows_pass a b p ∙ first-clean b e ∙ sym (first-clean a p)
    go false p = rows-refuse a b p

-- ---- a job between two routes that meet these rows is refused by none of them

pub routes-pass : (old new : Route) → Meets old → Meets new → (done : List ℕ)
    → checked (job_of old new done) ≡ first (done_rows present (job_line (job_of old new done) + 1) 0 done)
unfolding checked line_rows
routes-pass old new a b done =
    let j = job_of old new done in
    let (old-lines, old-whole) = meets-anywhere old a 1 in
    let (new-lines, new-whole) = meets-anywhere new b (new_line j) in
    let wholes : Passes (open_row 1 old.places (steps_of old) ∷ open_row (new_line j) new.places (steps_of new) ∷ []) =
    ap (λ (o : Outcome). eqb o.number 0)
    (head-passes (open_row 1 old.places (steps_of old)) _ old-whole
    ∙ head-passes (open_row (new_line j) new.places (steps_of new)) [] new-whole ∙ rows_end) in
    pass-last (line_rows j) _ wholes
    ∙ rows_pass (route_rows 1 old.places (steps_of old)) _ old-lines
    ∙ rows_pass (route_rows (new_line j) new.places (steps_of new)) _ new-lines

-- ---- the shelf: every route on it meets them

pub meets-found : (l : List Edition) → AllMeet l → (n : ℕ) (r : Route) → route_of n l ≡ some r → Meets r
unfolding route_of
meets-found [] all n r e = cc
meets-found (x ∷ l) all n r e = go (eqb x.number n) e (meets-found l all.1 n r)
  where
    go : (t : Bool) → cond t (some x.route) (route_of n l) ≡ some r → (route_of n l ≡ some r → Meets r) → Meets r
    go true p ih = subst Meets (some-injective x.route r p) all.0
    go false p ih = ih p

meets-more : (l : List Edition) (e : Edition) → AllMeet l → Meets e.route → AllMeet (l ++ (e ∷ []))
meets-more [] e all own = (own, tt)
meets-more (x ∷ l) e all own = (all.0, meets-more l e all.1 own)

pub stored-meets : (s : Shelf) (n : ℕ) (r : Route) → Eight s → AllMeet (editions_of s)
    → AllMeet (editions_of (stored s n r).shelf)
stored-meets s n r eight all =
    either (stored s n r).number 0
    (λ e. subst AllMeet (sym (put-adds s n r e eight))
    (meets-more (editions_of s) (record { number = n; route = r }) all (put_meets s n r e)))
    (λ f. subst (λ (x : Shelf). AllMeet (editions_of x)) (sym (put-refuses s n r f)) all)
