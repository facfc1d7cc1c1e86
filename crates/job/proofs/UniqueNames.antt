-- Row 5: in a route whose rows pass no name stands twice.
use mathlib.Core.Path.{◌≡◌, refl, sym, ap, ◌∙◌}
use mathlib.Core.Bool.{Bool, true, false, not, false≢true}
use mathlib.Core.List.{List, [], ◌∷◌, ◌++◌, append-nil}
use Prim.Native.Nat.{ℕ, zero, suc, ◌+◌, ◌<◌}
use native.Mathlib.Omega.{arith}
use native.Mathlib.Nat.{le_of_suc-le-suc, not-suc-le-zero}
use lib.Dec.{eqb, ltb}
use lib.ListN.{length, take, get_or}
use lib.Seq.{append_snoc, get_or-take, length-take-le}
use borrow.Author.Tests.{ltb-true, ltb-false, not-true}
use Rattle.refusal.specs.Rows.{first}
use Rattle.refusal.proofs.Rows.{head_passed, row-passed, rows-passed}
use Rattle.route.specs.Steps.{blank, names}
use Rattle.route.specs.declared.Places.{Places}
use Rattle.route.specs.declared.Step.{Step}
use Rattle.route.proofs.StepList.{length-names, get_or-names, names-take}
use Rattle.lookup.specs.Around.{Unique}
use Rattle.name_set.specs.Among.{among}
use Rattle.name_set.proofs.Among.{among-at}
use Rattle.job.specs.Lines.{step_fits, lists_fit, step_row, step_rows, head_rows, route_rows}

-- a step that passes has no earlier step's name
row_new : (line places : ℕ) (earlier : List ℕ) (s : Step) → eqb (step_row line places earlier s).number 0 ≡ true
    → among s.name earlier ≡ false
unfolding step_row
row_new line places earlier s e =
    let four = (row-passed (ltb (length earlier) 64) 4 line _ refl e).1 in
    let two = (row-passed (step_fits places s) 2 line _ refl four).1 in
    let three = (row-passed (lists_fit s) 3 line _ refl two).1 in
    not-true (among s.name earlier) (row-passed (not (among s.name earlier)) 5 line [] refl three).0

steps-new : (line places : ℕ) (earlier : List ℕ) (l : List Step)
    → eqb (first (step_rows line places earlier l)).number 0 ≡ true → (k : ℕ) → k < length l
    → among (get_or l k blank).name (earlier ++ names (take k l)) ≡ false
unfolding step_rows names
steps-new line places earlier [] e k h = absurd (not-suc-le-zero h)
steps-new line places earlier (s ∷ l) e k h =
    go k h (head_passed (step_row line places earlier s) (step_rows (line + 1) places (earlier ++ (s.name ∷ [])) l) e)
    (steps-new (line + 1) places (earlier ++ (s.name ∷ [])) l)
  where
    go : (k : ℕ) → k < length (s ∷ l)
        → (eqb (step_row line places earlier s).number 0 ≡ true)
        × (eqb (first (step_rows (line + 1) places (earlier ++ (s.name ∷ [])) l)).number 0 ≡ true)
        → (eqb (first (step_rows (line + 1) places (earlier ++ (s.name ∷ [])) l)).number 0 ≡ true → (k : ℕ)
        → k < length l → among (get_or l k blank).name ((earlier ++ (s.name ∷ [])) ++ names (take k l)) ≡ false)
        → among (get_or (s ∷ l) k blank).name (earlier ++ names (take k (s ∷ l))) ≡ false
    go zero h now ih =
        ap (λ (x : List ℕ). among s.name x) (append-nil earlier) ∙ row_new line places earlier s now.0
    go (suc k) h now ih =
        ap (λ (x : List ℕ). among (get_or l k blank).name x) (sym (append_snoc earlier s.name (names (take k l))))
        ∙ ih now.1 k (le_of_suc-le-suc h)

-- of two positions the later one has another name
module _ (line : ℕ) (places : Places) (l : List Step)
    (e : eqb (first (route_rows line places l)).number 0 ≡ true) where
  earlier-differs : (i k : ℕ) → i < k → k < length (names l) → get_or (names l) i 0 ≡ get_or (names l) k 0 → ⊥
  unfolding route_rows
  earlier-differs i k h b same =
      let head = (rows-passed (head_rows line places) _ e).1 in
      let lines = (rows-passed (step_rows (line + 2) places.count [] l) _ head).0 in
      let new : among (get_or l k blank).name (take k (names l)) ≡ false =
      ap (λ (x : List ℕ). among (get_or l k blank).name x) (sym (names-take k l))
      ∙ steps-new (line + 2) places.count [] l lines k (omega (arith, length-names l)) in
      let long : length (take k (names l)) ≡ k = length-take-le k (names l) (omega arith) in
      let old : among (get_or l k blank).name (take k (names l)) ≡ true =
      among-at (get_or l k blank).name (take k (names l)) i (omega arith)
      (get_or-take k (names l) i 0 h ∙ same ∙ get_or-names l k) in
      false≢true (sym new ∙ old)

  pub route-unique : Unique (names l)
  route-unique i k b c same = go (ltb i k) refl (ltb k i) refl
    where
      go : (t : Bool) → ltb i k ≡ t → (u : Bool) → ltb k i ≡ u → i ≡ k
      go true p u q = absurd (earlier-differs i k (ltb-true i k p) c same)
      go false p true q = absurd (earlier-differs k i (ltb-true k i q) b (sym same))
      go false p false q = omega (arith, ltb-false i k p, ltb-false k i q)
