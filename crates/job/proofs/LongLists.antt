-- A list of over 64 steps is refused by row 4 at its 65th, unless an earlier line's fault goes first; its steps past
-- the 65th change nothing. So an answer that depends, where the lines are refused, on nothing but that refusal, is the
-- answer to the job with both lists cut to 65.
use mathlib.Core.Path.{◌≡◌, refl, sym, ap, ◌∙◌}
use mathlib.Core.Bool.{Bool, true, false, cond}
use mathlib.Core.List.{List, [], ◌∷◌, ◌++◌}
use Prim.Native.Nat.{ℕ, ◌+◌, ◌≤◌, ◌<◌}
use native.Mathlib.Omega.{arith}
use lib.Dec.{eqb, ltb}
use lib.ListN.{length, take, drop, get_or, length-append, length-take}
use lib.Seq.{take_all, take-take, split_at, length-take-le}
use borrow.Author.Tests.{ltb-true, ltb-false}
use Rattle.refusal.specs.Rows.{refuse, first}
use Rattle.refusal.specs.declared.Outcome.{Outcome}
use Rattle.refusal.proofs.Rows.{rows_pass, rows-refuse, row-refuses, ends-refused}
use Rattle.route.specs.Steps.{blank}
use Rattle.flat.specs.Flat.{steps_in, Laid}
use Rattle.opening.specs.Net.{open_row}
use Rattle.route.specs.declared.Places.{Places}
use Rattle.route.specs.declared.Step.{Step}
use Rattle.job.specs.Job.{Job, cut, new_line}
use Rattle.job.specs.Alone.{alone_rows}
use Rattle.job.specs.Lines.{step_row, step_rows, head_rows, route_rows, line_rows, checked}

-- the job with other lists of steps
abbrev with_steps : Job → List Step → List Step → Job
with_steps j old new =
    record { old_places = j.old_places; old = old; new_places = j.new_places; new = new; done = j.done }

-- rows that are the same, and then others with the same outcome
then-first : (a b c : List Outcome) → first b ≡ first c → first (a ++ b) ≡ first (a ++ c)
then-first a b c e = go (eqb (first a).number 0) refl
  where
    go : (t : Bool) → eqb (first a).number 0 ≡ t → first (a ++ b) ≡ first (a ++ c)
    go true p = rows_pass a b p ∙ e ∙ sym (rows_pass a c p)
    go false p = rows-refuse a b p ∙ sym (rows-refuse a c p)

-- ---- a list over 64: the rows of its first 64 lines, and row 4 at the next

too_many : ℕ → ℕ → List ℕ → List Step → Outcome
too_many line places earlier a = first (step_rows line places earlier a ++ (refuse 4 (line + length a) ∷ []))

-- the 65th step is refused, whatever it is
full-row : (line places : ℕ) (earlier : List ℕ) (s : Step) → length earlier ≡ 64
    → step_row line places earlier s ≡ refuse 4 line
unfolding step_row
full-row line places earlier s e = row-refuses (ltb (length earlier) 64) 4 line _ (ap (λ (n : ℕ). ltb n 64) e) refl

over-rows : (line places : ℕ) (earlier : List ℕ) (a : List Step) (s : Step) (r : List Step)
    → length earlier + length a ≡ 64 → first (step_rows line places earlier (a ++ s ∷ r)) ≡ too_many line places earlier a
unfolding step_rows first too_many
over-rows line places earlier [] s r e =
    ap (λ (o : Outcome). first (o ∷ step_rows (line + 1) places (earlier ++ (s.name ∷ [])) r))
    (full-row line places earlier s (omega (arith, e)))
    ∙ ap (λ (n : ℕ). refuse 4 n) (omega arith)
over-rows line places earlier (x ∷ a) s r e =
    ap (λ (o : Outcome). cond (eqb (step_row line places earlier x).number 0) o (step_row line places earlier x))
    (over-rows (line + 1) places (earlier ++ (x.name ∷ [])) a s r
    (omega (arith, e, length-append earlier (x.name ∷ [])))
    ∙ ap (λ (n : ℕ). first (step_rows (line + 1) places (earlier ++ (x.name ∷ [])) a ++ (refuse 4 n ∷ [])))
    (omega arith))

over_rows : ℕ → Places → List Step → Outcome
over_rows line places a = first
    (head_rows line places ++ (step_rows (line + 2) places.count [] a ++ (refuse 4 (line + 2 + length a) ∷ [])))

over-refused : (line : ℕ) (places : Places) (a : List Step) → eqb (over_rows line places a).number 0 ≡ false
unfolding over_rows head_rows
over-refused line places a =
    ends-refused (head_rows line places ++ step_rows (line + 2) places.count [] a) (line + 2 + length a)

route-front : (line : ℕ) (places : Places) (a : List Step) (s : Step) (r : List Step) → length a ≡ 64
    → first (route_rows line places (a ++ s ∷ r)) ≡ over_rows line places a
unfolding route_rows over_rows too_many
route-front line places a s r e =
    then-first (head_rows line places) _ _
    (rows-refuse (step_rows (line + 2) places.count [] (a ++ s ∷ r)) _
    (ap (λ (o : Outcome). eqb o.number 0) over ∙ ends-refused (step_rows (line + 2) places.count [] a)
    (line + 2 + length a)) ∙ over)
  where
    over : first (step_rows (line + 2) places.count [] (a ++ s ∷ r)) ≡ too_many (line + 2) places.count [] a
    over = over-rows (line + 2) places.count [] a s r (omega (arith, e))

route-over : (line : ℕ) (places : Places) (l : List Step) → 64 < length l
    → first (route_rows line places l) ≡ over_rows line places (take 64 l)
route-over line places l h =
    ap (λ (x : List Step). first (route_rows line places x)) (split_at l 64 blank h)
    ∙ route-front line places (take 64 l) (get_or l 64 blank) (drop 65 l) (length-take-le 64 l (omega arith))

cut-over : (line : ℕ) (places : Places) (l : List Step) → 64 < length l
    → first (route_rows line places (take 65 l)) ≡ over_rows line places (take 64 l)
cut-over line places l h =
    route-over line places (take 65 l) (omega (arith, length-take 65 l))
    ∙ ap (λ (x : List Step). over_rows line places x) (take-take 64 65 l (omega arith))

-- ---- two jobs whose lines are refused alike

pub record Refused (j k : Job) : Type 0 where
  pub alike : first (line_rows j) ≡ first (line_rows k)
  pub refused : eqb (first (line_rows k)).number 0 ≡ false

abbrev Alike : List Outcome → List Outcome → Type 0
Alike a b = (first a ≡ first b) × (eqb (first b).number 0 ≡ false)

-- a refusal in front of any rows
front-alike : (o : Outcome) (a b c d : List Outcome) → first a ≡ o → first b ≡ o → eqb o.number 0 ≡ false
    → Alike (a ++ c) (b ++ d)
front-alike o a b c d ea eb z = (
  rows-refuse a c (off a ea) ∙ ea ∙ sym eb
      ∙ sym (rows-refuse b d (off b eb)),
  ap (λ (x : Outcome). eqb x.number 0) (rows-refuse b d (off b eb)) ∙ off b eb,
)
  where
    off : (x : List Outcome) → first x ≡ o → eqb (first x).number 0 ≡ false
    off x e = ap (λ (y : Outcome). eqb y.number 0) e ∙ z

-- rows that are the same, and then a refusal
then-alike : (a b c : List Outcome) → Alike b c → Alike (a ++ b) (a ++ c)
then-alike a b c h = (then-first a b c h.0, go (eqb (first a).number 0) refl)
  where
    go : (t : Bool) → eqb (first a).number 0 ≡ t → eqb (first (a ++ c)).number 0 ≡ false
    go true e = ap (λ (x : Outcome). eqb x.number 0) (rows_pass a c e) ∙ h.1
    go false e = ap (λ (x : Outcome). eqb x.number 0) (rows-refuse a c e) ∙ e

module _ (j : Job) where
  old-over : 64 < length j.old → Refused j (cut j)
  unfolding line_rows
  old-over h =
      let both = front-alike (over_rows 1 j.old_places (take 64 j.old)) (route_rows 1 j.old_places j.old)
      (route_rows 1 j.old_places (take 65 j.old)) _ _
      (route-over 1 j.old_places j.old h) (cut-over 1 j.old_places j.old h) (over-refused 1 j.old_places _)
      in
      record { alike = both.0; refused = both.1 }

  -- the new list alone cut
  abbrev short_new : Job
  short_new = with_steps j j.old (take 65 j.new)

  new-over : 64 < length j.new → Refused j short_new
  unfolding line_rows
  new-over h =
      let line = new_line j in
      let both = then-alike (route_rows 1 j.old_places j.old) _ _
      (front-alike (over_rows line j.new_places (take 64 j.new)) (route_rows line j.new_places j.new)
      (route_rows line j.new_places (take 65 j.new)) _ _
      (route-over line j.new_places j.new h) (cut-over line j.new_places j.new h)
      (over-refused line j.new_places _))
      in
      record { alike = both.0; refused = both.1 }

  -- a list up to 64 is not cut
  old-whole : length j.old ≤ 64 → short_new ≡ cut j
  old-whole h = ap (λ (l : List Step). with_steps j l (take 65 j.new)) (sym (take_all 65 j.old (omega arith)))

  new-whole : length j.new ≤ 64 → j ≡ short_new
  new-whole h = ap (λ (l : List Step). with_steps j j.old l) (sym (take_all 65 j.new (omega arith)))

  short-whole : length j.old ≤ 64 → length j.new ≤ 64 → j ≡ cut j
  short-whole h k = new-whole k ∙ old-whole h

  -- f of the job is f of the cut job
  same-cut : {X : Type 0} (f : Job → X) → ((j k : Job) → Refused j k → f j ≡ f k) → f j ≡ f (cut j)
  same-cut f by = go (ltb 64 (length j.old)) refl (ltb 64 (length j.new)) refl
    where
      go : (s : Bool) → ltb 64 (length j.old) ≡ s → (t : Bool) → ltb 64 (length j.new) ≡ t → f j ≡ f (cut j)
      go true e t e' = by j (cut j) (old-over (ltb-true 64 (length j.old) e))
      go false e true e' =
          by j short_new (new-over (ltb-true 64 (length j.new) e'))
          ∙ ap f (old-whole (ltb-false 64 (length j.old) e))
      go false e false e' = ap f (short-whole (ltb-false 64 (length j.old) e) (ltb-false 64 (length j.new) e'))

-- ---- rows that follow the lines

module _ (j k : Job) (r : Refused j k) where
  pub checked-alike : checked j ≡ checked k
  unfolding checked
  checked-alike =
      rows-refuse (line_rows j) _ (ap (λ (o : Outcome). eqb o.number 0) r.alike ∙ r.refused)
      ∙ r.alike
      ∙ sym (rows-refuse (line_rows k) _ r.refused)

  pub checked-off : eqb (checked k).number 0 ≡ false
  unfolding checked
  checked-off = ap (λ (o : Outcome). eqb o.number 0) (rows-refuse (line_rows k) _ r.refused) ∙ r.refused

-- ---- both lists laid as numbers

-- the law: what answers as f of the cut job answers as f of the job
pub laid-alike : {X : Type 0} (f : Job → X) → ((j k : Job) → Refused j k → f j ≡ f k) → (j k : Job) → k ≡ cut j → (x : X)
    → x ≡ f k → x ≡ f j
laid-alike f by j k is x e = e ∙ ap f is ∙ sym (same-cut j f by)

-- ---- one route by itself, laid as numbers

alone-cut : (places : Places) (l : List Step) → first (alone_rows places (take 65 l)) ≡ first (alone_rows places l)
unfolding alone_rows
alone-cut places l = go (ltb 64 (length l)) refl
  where
    go : (t : Bool) → ltb 64 (length l) ≡ t
        → first (route_rows 1 places (take 65 l) ++ (open_row 1 places (take 65 l) ∷ []))
        ≡ first (route_rows 1 places l ++ (open_row 1 places l ∷ []))
    go true e =
        let over = ltb-true 64 (length l) e in
        (front-alike (over_rows 1 places (take 64 l)) (route_rows 1 places (take 65 l)) (route_rows 1 places l) _ _
        (cut-over 1 places l over) (route-over 1 places l over) (over-refused 1 places _)).0
    go false e =
        let few : length l ≤ 64 = ltb-false 64 (length l) e in
        ap (λ (x : List Step). first (route_rows 1 places x ++ (open_row 1 places x ∷ [])))
        (take_all 65 l (omega arith))

pub alone-laid : (places : Places) (l : List Step) (n : ℕ) (w : List ℕ) → Laid l n w
    → first (alone_rows places (steps_in (take n w))) ≡ first (alone_rows places l)
alone-laid places l n w laid = ap (λ (x : List Step). first (alone_rows places x)) laid.steps-are ∙ alone-cut places l
