-- Row 22 refuses no line exactly where both starts are the implied ones, and no name and no mark is beyond 01's.
-- Assumes nothing.
use mathlib.Core.Path.{◌≡◌, refl, ap, ap₂, ◌∙◌}
use mathlib.Core.Bool.{Bool, true, false, not, ◌&&◌}
use mathlib.Core.List.{List, [], ◌∷◌, map}
use Prim.Native.Nat.{ℕ, ◌+◌}
use lib.Dec.{eqb}
use borrow.Author.Tests.{eq-eqb, eqb-true, leb-true, le-leb}
use Rattle.mask.proofs.Truth.{both}
use Rattle.refusal.specs.Rows.{each_line}
use Rattle.refusal.specs.declared.Outcome.{Outcome}
use Rattle.refusal.proofs.Rows.{row-passes, row-passed, rows_pass, rows-passed, rows_end}
use Rattle.version.specs.Limits.{scope}
use Rattle.route.specs.Firing.{implied_start}
use Rattle.route.specs.declared.Places.{Places}
use Rattle.route.specs.declared.Step.{Step}
use Rattle.job.specs.Job.{Job, new_line}
use Rattle.facts.specs.LinesOf.{form_of, lines_of}
use Rattle.facts.specs.Names.{Within, form_names, NamesTo}
use Rattle.facts.specs.Marks.{Marks, MarksTo}
use Rattle.facts.proofs.PassingLines.{Passes}
use Rattle.converting.specs.Beyond.{says_name, says_step, says_start, beyond_route, beyond_rows}

abbrev pub Implied : Places → List Step → Type 0
Implied places l = places.start ≡ implied_start places.count l

pub record Said (j : Job) : Type 0 where
  pub old_start : Implied j.old_places j.old
  pub new_start : Implied j.new_places j.new
  pub names : NamesTo scope.greatest (lines_of j)
  pub marks : MarksTo scope.cloth (lines_of j)

-- ---- lines that pass are said; a name that passed row 2 is at least 1

unmarked : (m : Bool) → not m ≡ true → m ≡ true → scope.cloth ≡ true
unmarked true off on = off
unmarked false off on = on

steps-said : (g line : ℕ) (l : List Step) → Within g (form_names (map form_of l))
    → Passes (each_line says_step 22 line l)
    → Within scope.greatest (form_names (map form_of l)) × Marks scope.cloth (map form_of l)
unfolding each_line says_step form_of
steps-said g line [] names e = (tt, tt)
steps-said g line (s ∷ l) names e =
    let (here, below) = row-passed (says_step s) 22 line _ refl e in
    let (name, mark) = both (says_name s.name) (not s.cloth) here in
    let (rest, marks) = steps-said g (line + 1) l names.1 below in
    (((names.0.0, leb-true s.name scope.greatest name), rest), (unmarked s.cloth mark, marks))

dones-said : (g line : ℕ) (l : List ℕ) → Within g l → Passes (each_line says_name 22 line l) → Within scope.greatest l
unfolding each_line
dones-said g line [] names e = tt
dones-said g line (n ∷ l) names e =
    let (here, below) = row-passed (says_name n) 22 line _ refl e in
    ((names.0.0, leb-true n scope.greatest here), dones-said g (line + 1) l names.1 below)

route-said : (line : ℕ) (places : Places) (l : List Step) → Passes (beyond_route line places l)
    → Implied places l × Passes (each_line says_step 22 (line + 2) l)
unfolding beyond_route says_start
route-said line places l e =
    let (start, below) = row-passed (eqb places.start (implied_start places.count l)) 22 (line + 1) _ refl e in
    (eqb-true _ _ start, below)

pub all-said : (g : ℕ) (j : Job) → NamesTo g (lines_of j) → Passes (beyond_rows j) → Said j
unfolding beyond_rows lines_of
all-said g j names e =
    let (a, e₁) = rows-passed (beyond_route 1 j.old_places j.old) _ e in
    let (b, c) = rows-passed (beyond_route (new_line j) j.new_places j.new) _ e₁ in
    let (old, olds) = route-said 1 j.old_places j.old a in
    let (new, news) = route-said (new_line j) j.new_places j.new b in
    let (old-names, old-marks) = steps-said g _ j.old names.old olds in
    let (new-names, new-marks) = steps-said g _ j.new names.new news in
    record {
      old_start = old;
      new_start = new;
      names = record { old = old-names; new = new-names; done = dones-said g _ j.done names.done c };
      marks = record { old = old-marks; new = new-marks };
    }

-- ---- and what is said passes

steps-pass : (line : ℕ) (l : List Step) → Within scope.greatest (form_names (map form_of l))
    → Marks scope.cloth (map form_of l) → Passes (each_line says_step 22 line l)
unfolding each_line says_step form_of
steps-pass line [] names marks = ap (λ (o : Outcome). eqb o.number 0) rows_end
steps-pass line (s ∷ l) names marks =
    ap (λ (o : Outcome). eqb o.number 0) (row-passes (says_step s) 22 line _
    (ap₂ (λ (a b : Bool). a && b) (le-leb s.name scope.greatest names.0.1) (off s.cloth marks.0)))
    ∙ steps-pass (line + 1) l names.1 marks.1
  where
    off : (m : Bool) → (m ≡ true → scope.cloth ≡ true) → not m ≡ true
    off true h = h refl
    off false h = refl

dones-pass : (line : ℕ) (l : List ℕ) → Within scope.greatest l → Passes (each_line says_name 22 line l)
unfolding each_line
dones-pass line [] names = ap (λ (o : Outcome). eqb o.number 0) rows_end
dones-pass line (n ∷ l) names =
    ap (λ (o : Outcome). eqb o.number 0) (row-passes (says_name n) 22 line _ (le-leb n scope.greatest names.0.1))
    ∙ dones-pass (line + 1) l names.1

route-pass : (line : ℕ) (places : Places) (l : List Step) → Implied places l
    → Within scope.greatest (form_names (map form_of l)) → Marks scope.cloth (map form_of l)
    → Passes (beyond_route line places l)
unfolding beyond_route says_start
route-pass line places l start names marks =
    ap (λ (o : Outcome). eqb o.number 0) (row-passes (eqb places.start (implied_start places.count l)) 22 (line + 1) _
    (eq-eqb _ _ start))
    ∙ steps-pass (line + 2) l names marks

pub said-passes : (j : Job) → Said j → Passes (beyond_rows j)
unfolding beyond_rows lines_of
said-passes j said =
    ap (λ (o : Outcome). eqb o.number 0)
    (rows_pass (beyond_route 1 j.old_places j.old) _
    (route-pass 1 j.old_places j.old said.old_start said.names.old said.marks.old)
    ∙ rows_pass (beyond_route (new_line j) j.new_places j.new) _
    (route-pass (new_line j) j.new_places j.new said.new_start said.names.new said.marks.new))
    ∙ dones-pass _ j.done said.names.done
