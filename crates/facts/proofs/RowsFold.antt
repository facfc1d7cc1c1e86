-- Where the lines stand so far: either no row has refused, and what is kept are the facts, or the first refusal is what
-- is kept. Assumes nothing.
use mathlib.Core.Path.{◌≡◌, refl, sym, ap, ap₂, ◌∙◌, subst, subst₃}
use mathlib.Core.Bool.{Bool, true, false, not, cond, false≢true}
use mathlib.Core.List.{List, [], ◌∷◌, ◌++◌, map, append-nil, append_assoc}
use Prim.Native.Nat.{ℕ, suc, ◌+◌, ◌-◌, ◌≤◌, ◌<◌}
use native.Mathlib.Omega.{arith}
use lib.Dec.{eqb, ltb}
use lib.ListN.{length, take, set, replicate, length-append, length-map}
use lib.Seq.{set-append_seam, take-append_seam}
use borrow.Author.Tests.{eqb-false, ltb-true, lt-ltb}
use Rattle.route.specs.Steps.{blank, steps_of, names}
use Rattle.refusal.specs.Rows.{unless, first}
use Rattle.route.specs.declared.Places.{Places}
use Rattle.route.specs.declared.Step.{Step}
use Rattle.route.specs.declared.Route.{Route}
use Rattle.refusal.specs.declared.Outcome.{Outcome}
use Rattle.refusal.proofs.Rows.{rows_pass, rows-refuse, head_passed, unless-elim, first-clean, first_alone}
use Rattle.refusal.proofs.Rows.{first-unless}
use Rattle.job.specs.Lines.{places_fit, done_row, done_rows}
use Rattle.version.specs.declared.Version.{Version}
use Rattle.layout.specs.Text.{Form, Lines}
use Rattle.layout.specs.declared.Part.{Part}
use Rattle.layout.specs.declared.Part.TheVariants.{OldRoute, NewRoute, JobPart}
use Rattle.facts.specs.Forms.{form_row, start_row, masked, record_of}
use Rattle.facts.specs.Facts.{State, failed, settled, headed, started, stepped, with_old, with_new, with_done}
use Rattle.facts.specs.Facts.{old_head, new_head, start_in, job_head, done_in, step_in, more, more_start, more_steps}
use Rattle.facts.specs.Facts.{more_dones, nothing, facts_of}
use Rattle.facts.specs.SheetRows.{form_rows, start_line_count, start_rows, after_forms, head_form_rows, route_form_rows}
use Rattle.facts.specs.SheetRows.{sheet_rows, filled, places_read, facts_record}
use Rattle.facts.specs.declared.Sheet.{Sheet}

pub data Stand (k : Sheet) (rows : List Outcome) (s : Sheet) (v : Type 0) : Type 0 where
  stands : eqb (first rows).number 0 ≡ true → k ≡ s → v → Stand k rows s v
  fails : eqb (first rows).number 0 ≡ false → k ≡ failed (first rows).number (first rows).second → Stand k rows s v

-- a line that is settled by its own rows
settle : (rows : List Outcome) (s s' : Sheet) (v : Type 0) → (eqb (first rows).number 0 ≡ true → (s ≡ s') × v)
    → Stand (settled (first rows) s) rows s' v
unfolding settled
settle rows s s' v h = go (eqb (first rows).number 0) refl
  where
    go : (t : Bool) → eqb (first rows).number 0 ≡ t
        → Stand (cond t s (failed (first rows).number (first rows).second)) rows s' v
    go true e = stands e (h e).0 (h e).1
    go false e = fails e refl

-- one more line
next-line : (line : ℕ → Sheet → Sheet) (k : State) (rows new : List Outcome) (s s' : Sheet) (v v' : Type 0)
    → s.number ≡ 0 → Stand k.sheet rows s v → (v → Stand (line (k.lines + 1) s) new s' v')
    → Stand (more line k).sheet (rows ++ new) s' v'
unfolding more failed
next-line line k rows new s s' v v' zero_is (stands e q h) on = go (on h)
  where
    same : cond (eqb k.sheet.number 0) (line (k.lines + 1) k.sheet) k.sheet ≡ line (k.lines + 1) s
    same = ap (λ (x : Sheet). cond (eqb x.number 0) (line (k.lines + 1) x) x) q
        ∙ ap (λ (n : ℕ). cond (eqb n 0) (line (k.lines + 1) s) s) zero_is

    go : Stand (line (k.lines + 1) s) new s' v' → Stand
        (cond (eqb k.sheet.number 0) (line (k.lines + 1) k.sheet) k.sheet) (rows ++ new) s' v'
    go (stands d r w) = stands (ap (λ (o : Outcome). eqb o.number 0) (rows_pass rows new e) ∙ d) (same ∙ r) w
    go (fails d r) = fails (ap (λ (o : Outcome). eqb o.number 0) (rows_pass rows new e) ∙ d)
        (same ∙ r ∙ ap (λ (o : Outcome). failed o.number o.second) (sym (rows_pass rows new e)))
next-line line k rows new s s' v v' zero_is (fails e q) on =
    fails (ap (λ (o : Outcome). eqb o.number 0) (rows-refuse rows new e) ∙ e)
    (ap (λ (t : Bool). cond t (line (k.lines + 1) k.sheet) k.sheet) (ap (λ (x : Sheet). eqb x.number 0) q ∙ e)
    ∙ q
    ∙ ap (λ (o : Outcome). failed o.number o.second) (sym (rows-refuse rows new e)))

-- ---- a route that is filled step by step

fill : (A : Type 0) (l : List A) (a b : A) → length l < 64
    → set (l ++ replicate (64 - length l) b) (length l) a ≡ (l ++ (a ∷ [])) ++ replicate (64 - length (l ++ (a ∷ []))) b
fill A l a b h =
    ap (λ (n : ℕ). set (l ++ replicate n b) (length l) a) left
    ∙ set-append_seam l b (replicate (63 - length l) b) a
    ∙ sym (append_assoc l (a ∷ []) (replicate (63 - length l) b))
    ∙ ap (λ (n : ℕ). (l ++ (a ∷ [])) ++ replicate n b) (sym less)
  where
    left : 64 - length l ≡ suc (63 - length l)
    left = omega arith

    less : 64 - length (l ++ (a ∷ [])) ≡ 63 - length l
    less = omega (arith, length-append l (a ∷ []))

filled_more : (n : Places) (l : List Step) (a : Step) → length l < 64
    → stepped (filled n l) a ≡ filled n (l ++ (a ∷ []))
unfolding stepped filled
filled_more n l a h =
    ap (λ (t : Bool). cond t (record {
      places = n;
      len = length l + 1;
      steps = set (l ++ replicate (64 - length l) blank) (length l) a;
    }) (filled n l)) (lt-ltb (length l) 64 h)
    ∙ (λ i. record { places = n; len = sym (length-append l (a ∷ [])) i; steps = fill Step l a blank h i })

pub filled-steps : (n : Places) (l : List Step) → length l ≤ 64 → steps_of (filled n l) ≡ l
unfolding steps_of filled
filled-steps n l h =
    let none_over : length l - 64 ≡ 0 = omega arith in
    ap (λ (m : ℕ). take (length l) (l ++ replicate (64 - length l) blank) ++ replicate m blank) none_over
    ∙ append-nil (take (length l) (l ++ replicate (64 - length l) blank))
    ∙ take-append_seam l (replicate (64 - length l) blank)

form_names : List Form → List ℕ
form_names l = map (λ (f : Form). f.name) l

map_more : (A B : Type 0) (g : A → B) (l : List A) (a : A) → map g (l ++ (a ∷ [])) ≡ map g l ++ (g a ∷ [])
map_more A B g [] a = refl
map_more A B g (x ∷ l) a = ap (λ (k : List B). g x ∷ k) (map_more A B g l a)

map-map : (l : List Form) → names (map record_of l) ≡ form_names l
unfolding names form_names record_of
map-map [] = refl
map-map (f ∷ l) = ap (λ (k : List ℕ). f.name ∷ k) (map-map l)

-- the facts with one route set
in_route : Part → Route → Sheet → Sheet
in_route OldRoute r s = with_old r s
in_route NewRoute r s = with_new r s
in_route JobPart r s = s

is_route : Part → Bool
is_route OldRoute = true
is_route NewRoute = true
is_route JobPart = false

step_in_lem : (v : Version) (p : Part) (line : ℕ) (f : Form) (r : Route) (s : Sheet) → is_route p ≡ true
    → step_in v p line f (in_route p r s) ≡ settled (form_row v line r.places.count r.len (names (steps_of r)) f)
    (in_route p (stepped r (record_of f)) s)
unfolding step_in in_route is_route
step_in_lem v OldRoute line f r s e = refl
step_in_lem v NewRoute line f r s e = refl
step_in_lem v JobPart line f r s e = absurd (false≢true e)

number_in : (p : Part) (r : Route) (s : Sheet) → (in_route p r s).number ≡ s.number
unfolding in_route
number_in OldRoute r s = refl
number_in NewRoute r s = refl
number_in JobPart r s = refl

-- a step whose rows pass had room
room : (v : Version) (line places above : ℕ) (earlier : List ℕ) (f : Form)
    → eqb (first (form_row v line places above earlier f ∷ [])).number 0 ≡ true → above < 64
unfolding form_row
room v line places above earlier f e = ltb-true above 64
    (unless-elim (ltb above 64) 4 line refl (head_passed _ _ (head_passed _ [] e).0).0)

-- one step's line, after the steps j
step-stand : (v : Version) (p : Part) (n : ℕ) (places : Places) (j : List Form) (f : Form) (s : Sheet)
    → is_route p ≡ true → length j ≤ 64 → Stand (step_in v p n f (in_route p (filled places (map record_of j)) s))
    (form_row v n places.count (length (form_names j)) (form_names j) f ∷ [])
    (in_route p (filled places (map record_of (j ++ (f ∷ [])))) s) (length (j ++ (f ∷ [])) ≤ 64)
unfolding filled
step-stand v p n places j f s e few =
    subst (λ (k : Sheet). Stand k (form_row v n places.count (length (form_names j)) (form_names j) f ∷ [])
    (in_route p (filled places (map record_of (j ++ (f ∷ [])))) s) (length (j ++ (f ∷ [])) ≤ 64))
    (sym
    (step_in_lem v p n f (filled places (map record_of j)) s e
    ∙ ap (λ (o : Outcome). settled o (in_route p (stepped (filled places (map record_of j)) (record_of f)) s))
    (row ∙ sym (outer f))))
    (settle (form_row v n places.count (length (form_names j)) (form_names j) f ∷ []) _ _ _
    (λ passes. let below : length (form_names j) < 64 =
    room v n places.count (length (form_names j)) (form_names j) f passes in (
      ap (λ (r : Route). in_route p r s) (filled_more places (map record_of j) (record_of f)
          (omega (arith, length-map j record_of, names-long))
          ∙ ap (filled places) (sym (map_more Form Step record_of j f))),
      omega (arith, length-append j (f ∷ []), names-long),
    )))
  where
    names-long : length (form_names j) ≡ length j
    names-long = unfold form_names in length-map j (λ (g : Form). g.name)

    row : form_row v n (filled places (map record_of j)).places.count (filled places (map record_of j)).len
        (names (steps_of (filled places (map record_of j)))) f
        ≡ form_row v n places.count (length (form_names j)) (form_names j) f
    row = ap₂ (λ (m : ℕ) (k : List ℕ). form_row v n places.count m k f) (length-map j record_of ∙ sym names-long)
        (ap names (filled-steps places (map record_of j) (omega (arith, length-map j record_of))) ∙ map-map j)

    outer : (f : Form) → first (form_row v n places.count (length (form_names j)) (form_names j) f ∷ [])
        ≡ form_row v n places.count (length (form_names j)) (form_names j) f
    outer f = unfold form_row in first_alone _

-- ---- the steps of a route, and the done lines

-- what holds after some lines: how many they were, and where they stand
pub record Stood (k : State) (n : ℕ) (rows : List Outcome) (s : Sheet) (v : Type 0) : Type 0 where
  pub lines : k.lines ≡ n
  pub stand : Stand k.sheet rows s v

one_line : (line : ℕ → Sheet → Sheet) (k : State) (n : ℕ) (rows new : List Outcome) (s s' : Sheet) (v v' : Type 0)
    → s.number ≡ 0 → Stood k n rows s v → (v → Stand (line (n + 1) s) new s' v')
    → Stood (more line k) (n + 1) (rows ++ new) s' v'
unfolding more
one_line line k n rows new s s' v v' z stood on =
    record {
      lines = ap (λ (m : ℕ). m + 1) stood.lines;
      stand = next-line line k rows new s s' v v' z stood.stand
          (λ h. subst (λ (m : ℕ). Stand (line (m + 1) s) new s' v') (sym stood.lines) (on h));
    }

steps-stood : (v : Version) (p : Part) (l : List Form) (k : State) (n : ℕ) (places : Places) (rows : List Outcome)
    (j : List Form) (s : Sheet) → is_route p ≡ true → s.number ≡ 0
    → Stood k n rows (in_route p (filled places (map record_of j)) s) (length j ≤ 64)
    → Stood (more_steps v p l k) (n + length l) (rows ++ form_rows v (n + 1) places.count (form_names j) l)
    (in_route p (filled places (map record_of (j ++ l))) s) (length (j ++ l) ≤ 64)
unfolding more_steps form_rows
steps-stood v p [] k n places rows j s e z stood =
    subst₃ (λ (m : ℕ) (r : List Outcome) (i : List Form).
    Stood k m r (in_route p (filled places (map record_of i)) s) (length i ≤ 64)) (omega arith)
    (sym (append-nil rows)) (sym (append-nil j)) stood
steps-stood v p (f ∷ l) k n places rows j s e z stood =
    again
    (steps-stood v p l (more (λ i x. step_in v p i f x) k) (n + 1) places
    (rows ++ (form_row v (n + 1) places.count (length (form_names j)) (form_names j) f ∷ [])) (j ++ (f ∷ [])) s e z
    (one_line (λ i x. step_in v p i f x) k n rows _ _ _ _ _ (number_in p _ s ∙ z) stood
    (λ few. step-stand v p (n + 1) places j f s e few)))
  where
    again : Stood (more_steps v p l (more (λ i x. step_in v p i f x) k)) (n + 1 + length l)
        ((rows ++ (form_row v (n + 1) places.count (length (form_names j)) (form_names j) f ∷ []))
        ++ form_rows v (n + 1 + 1) places.count (form_names (j ++ (f ∷ []))) l)
        (in_route p (filled places (map record_of ((j ++ (f ∷ [])) ++ l))) s) (length ((j ++ (f ∷ [])) ++ l) ≤ 64)
        → Stood (more_steps v p l (more (λ i x. step_in v p i f x) k)) (n + suc (length l))
        (rows ++ (form_row v (n + 1) places.count (length (form_names j)) (form_names j) f
        ∷ form_rows v (n + 1 + 1) places.count (form_names j ++ (f.name ∷ [])) l))
        (in_route p (filled places (map record_of (j ++ (f ∷ l)))) s) (length (j ++ (f ∷ l)) ≤ 64)
    again = subst₃ (λ (m : ℕ) (r : List Outcome) (i : List Form).
        Stood (more_steps v p l (more (λ i x. step_in v p i f x) k)) m r (in_route p (filled places (map record_of i)) s)
        (length i ≤ 64))
        (omega arith)
        (append_assoc rows _ _ ∙ ap (λ (m : List ℕ). rows
        ++ (form_row v (n + 1) places.count (length (form_names j)) (form_names j) f
        ∷ form_rows v (n + 1 + 1) places.count m l))
        (unfold form_names in map_more Form ℕ (λ (g : Form). g.name) j f))
        (append_assoc j (f ∷ []) l)

with_dones : List ℕ → Sheet → Sheet
with_dones l s = record {
  number = s.number;
  second = s.second;
  old = s.old;
  new = s.new;
  done_len = length l;
  done = l ++ replicate (64 - length l) 0;
}

done-stand : (v : Version) (n : ℕ) (j : List ℕ) (m : ℕ) (s : Sheet) → length j ≤ 64
    → Stand (done_in v n m (with_dones j s)) (done_row v n (length j) m ∷ []) (with_dones (j ++ (m ∷ [])) s)
    (length (j ++ (m ∷ [])) ≤ 64)
unfolding done_in with_dones done_row
done-stand v n j m s few =
    subst (λ (k : Sheet). Stand k (done_row v n (length j) m ∷ []) (with_dones (j ++ (m ∷ [])) s)
    (length (j ++ (m ∷ [])) ≤ 64))
    (ap (λ (o : Outcome). settled o (with_done m (with_dones j s))) (first_alone _))
    (settle (done_row v n (length j) m ∷ []) _ _ _
    (λ passes. let below : length j < 64 = has_room passes in (
      (λ i. record {
        number = s.number;
        second = s.second;
        old = s.old;
        new = s.new;
        done_len = sym (length-append j (m ∷ [])) i;
        done = fill ℕ j m 0 below i;
      }),
      omega (arith, length-append j (m ∷ [])),
    )))
  where
    has_room : eqb (first (done_row v n (length j) m ∷ [])).number 0 ≡ true → length j < 64
    has_room e = ltb-true (length j) 64 (unless-elim (ltb (length j) 64) 4 n refl
        (head_passed _ _ (head_passed _ [] e).0).0)

dones-stood : (v : Version) (l : List ℕ) (k : State) (n : ℕ) (rows : List Outcome) (j : List ℕ) (s : Sheet)
    → s.number ≡ 0 → Stood k n rows (with_dones j s) (length j ≤ 64)
    → Stood (more_dones v l k) (n + length l) (rows ++ done_rows v (n + 1) (length j) l) (with_dones (j ++ l) s)
    (length (j ++ l) ≤ 64)
unfolding more_dones done_rows with_dones
dones-stood v [] k n rows j s z stood =
    subst₃ (λ (m : ℕ) (r : List Outcome) (i : List ℕ). Stood k m r (with_dones i s) (length i ≤ 64)) (omega arith)
    (sym (append-nil rows)) (sym (append-nil j)) stood
dones-stood v (m ∷ l) k n rows j s z stood =
    again
    (dones-stood v l (more (λ i x. done_in v i m x) k) (n + 1) (rows ++ (done_row v (n + 1) (length j) m ∷ []))
    (j ++ (m ∷ [])) s z
    (one_line (λ i x. done_in v i m x) k n rows _ _ _ _ _ z stood (λ few. done-stand v (n + 1) j m s few)))
  where
    again : Stood (more_dones v l (more (λ i x. done_in v i m x) k)) (n + 1 + length l)
        ((rows ++ (done_row v (n + 1) (length j) m ∷ [])) ++ done_rows v (n + 1 + 1) (length (j ++ (m ∷ []))) l)
        (with_dones ((j ++ (m ∷ [])) ++ l) s) (length ((j ++ (m ∷ [])) ++ l) ≤ 64)
        → Stood (more_dones v l (more (λ i x. done_in v i m x) k)) (n + suc (length l))
        (rows ++ (done_row v (n + 1) (length j) m ∷ done_rows v (n + 1 + 1) (length j + 1) l))
        (with_dones (j ++ (m ∷ l)) s) (length (j ++ (m ∷ l)) ≤ 64)
    again = subst₃ (λ (q : ℕ) (r : List Outcome) (i : List ℕ).
        Stood (more_dones v l (more (λ i x. done_in v i m x) k)) q r (with_dones i s) (length i ≤ 64))
        (omega arith)
        (append_assoc rows _ _ ∙ ap (λ (q : ℕ). rows ++ (done_row v (n + 1) (length j) m ∷ done_rows v (n + 1 + 1) q l))
        (length-append j (m ∷ [])))
        (append_assoc j (m ∷ []) l)

-- ---- the heads with their start lines, and the whole

-- a head gives the count, and says nothing of a start
counted : ℕ → Places
counted n = record { count = n; start = 0 }

old-stand : (n : ℕ) → Stand (old_head 1 n (failed 0 0)) (unless (places_fit n) 2 1 ∷ [])
    (in_route OldRoute (filled (counted n) []) (failed 0 0)) (0 ≤ 64)
unfolding old_head in_route filled headed failed counted
old-stand n =
    subst (λ (o : Outcome). Stand (settled o (with_old (headed n (failed 0 0).old) (failed 0 0)))
    (unless (places_fit n) 2 1 ∷ []) (with_old (filled (counted n) []) (failed 0 0)) (0 ≤ 64))
    (first-unless (places_fit n) 2 1 refl)
    (settle (unless (places_fit n) 2 1 ∷ []) _ _ _ (λ passes. (refl, omega arith)))

new-stand : (line n : ℕ) (places : Places) (l : List Form) → length l ≤ 64
    → Stand (new_head line n (in_route OldRoute (filled places (map record_of l)) (failed 0 0)))
    (unless (not (eqb (length l) 0)) 4 line ∷ unless (places_fit n) 2 line ∷ [])
    (in_route NewRoute (filled (counted n) []) (in_route OldRoute (filled places (map record_of l)) (failed 0 0)))
    (0 ≤ 64)
unfolding new_head in_route filled headed failed counted
new-stand line n places l few =
    subst (λ (m : ℕ). Stand (settled (first (unless (not (eqb m 0)) 4 line ∷ unless (places_fit n) 2 line ∷ []))
    (with_new (headed n (failed 0 0).new) (with_old (filled places (map record_of l)) (failed 0 0))))
    (unless (not (eqb (length l) 0)) 4 line ∷ unless (places_fit n) 2 line ∷ [])
    (with_new (filled (counted n) []) (with_old (filled places (map record_of l)) (failed 0 0))) (0 ≤ 64))
    (sym (length-map l record_of))
    (settle (unless (not (eqb (length l) 0)) 4 line ∷ unless (places_fit n) 2 line ∷ []) _ _ _
    (λ passes. (refl, omega arith)))

job-stand : (line : ℕ) (places : Places) (l : List Form) (s : Sheet) → length l ≤ 64
    → Stand (job_head line (in_route NewRoute (filled places (map record_of l)) s))
    (unless (not (eqb (length l) 0)) 4 line ∷ []) (in_route NewRoute (filled places (map record_of l)) s) (0 ≤ 64)
unfolding job_head in_route filled
job-stand line places l s few =
    subst (λ (o : Outcome). Stand (settled o (with_new (filled places (map record_of l)) s))
    (unless (not (eqb (length l) 0)) 4 line ∷ []) (with_new (filled places (map record_of l)) s) (0 ≤ 64))
    (first-unless (not (eqb (length l) 0)) 4 line refl ∙ ap (λ (m : ℕ). unless (not (eqb m 0)) 4 line)
    (sym (length-map l record_of)))
    (settle (unless (not (eqb (length l) 0)) 4 line ∷ []) _ _ _ (λ passes. (refl, omega arith)))

start-in : (p : Part) (line : ℕ) (l : List ℕ) (r : Route) (s : Sheet) → is_route p ≡ true
    → start_in p line l (in_route p r s) ≡ settled (start_row line r.places.count l) (in_route p (started l r) s)
unfolding start_in in_route is_route
start-in OldRoute line l r s e = refl
start-in NewRoute line l r s e = refl
start-in JobPart line l r s e = absurd (false≢true e)

start-stand : (p : Part) (line n : ℕ) (l : List ℕ) (s : Sheet) → is_route p ≡ true
    → Stand (start_in p line l (in_route p (filled (counted n) []) s)) (start_row line n l ∷ [])
    (in_route p (filled (record { count = n; start = masked 64 0 l }) []) s) (0 ≤ 64)
unfolding start_row started filled counted
start-stand p line n l s e =
    subst (λ (k : Sheet). Stand k (start_row line n l ∷ [])
    (in_route p (filled (record { count = n; start = masked 64 0 l }) []) s) (0 ≤ 64))
    (ap (λ (o : Outcome). settled o (in_route p (started l (filled (counted n) [])) s)) (first_alone _)
    ∙ sym (start-in p line l (filled (counted n) []) s e))
    (settle (start_row line n l ∷ []) _ _ _ (λ passes. (refl, omega arith)))

-- a head's start line, where the version has it
start-stood : (v : Version) (p : Part) (l : List ℕ) (k : State) (line n : ℕ) (rows : List Outcome) (s : Sheet)
    → is_route p ≡ true → s.number ≡ 0 → Stood k line rows (in_route p (filled (counted n) []) s) (0 ≤ 64)
    → Stood (more_start v p l k) (line + start_line_count v) (rows ++ start_rows v (line + 1) n l)
    (in_route p (filled (places_read v n l) []) s) (0 ≤ 64)
unfolding more_start start_line_count start_rows places_read counted
start-stood v p l k line n rows s e z stood = go v.starts
  where
    go : (t : Bool) → Stood (cond t (more (λ i x. start_in p i l x) k) k) (line + cond t 1 0)
        (rows ++ cond t (start_row (line + 1) n l ∷ []) [])
        (in_route p (filled (record { count = n; start = cond t (masked 64 0 l) 0 }) []) s) (0 ≤ 64)
    go true = one_line (λ i x. start_in p i l x) k line rows _ _ _ _ _ (number_in p _ s ∙ z) stood
        (λ few. start-stand p (line + 1) n l s e)
    go false = subst₃ (λ (m : ℕ) (r : List Outcome) (x : Sheet). Stood k m r x (0 ≤ 64)) (omega arith)
        (sym (append-nil rows)) refl stood

-- a head's start line and its steps
route-stood : (v : Version) (p : Part) (start : List ℕ) (l : List Form) (k : State) (line n : ℕ) (rows : List Outcome)
    (s : Sheet) → is_route p ≡ true → s.number ≡ 0
    → Stood k line rows (in_route p (filled (counted n) []) s) (0 ≤ 64)
    → Stood (more_steps v p l (more_start v p start k)) (line + start_line_count v + length l)
    ((rows ++ start_rows v (line + 1) n start) ++ form_rows v (line + 1 + start_line_count v) n [] l)
    (in_route p (filled (places_read v n start) (map record_of l)) s) (length l ≤ 64)
unfolding places_read form_names
route-stood v p start l k line n rows s e z stood =
    subst (λ (m : ℕ). Stood (more_steps v p l (more_start v p start k)) (line + start_line_count v + length l)
    ((rows ++ start_rows v (line + 1) n start) ++ form_rows v m n [] l)
    (in_route p (filled (places_read v n start) (map record_of l)) s) (length l ≤ 64)) first_step
    (steps-stood v p l (more_start v p start k) (line + start_line_count v) (places_read v n start) _ [] s e z
    (start-stood v p start k line n rows s e z stood))
  where
    first_step : line + start_line_count v + 1 ≡ line + 1 + start_line_count v
    first_step = omega arith

regroup : (r₀ a b c : Outcome) (h x k y z : List Outcome)
    → (((((((r₀ ∷ []) ++ h) ++ x) ++ (a ∷ b ∷ [])) ++ k) ++ y) ++ (c ∷ [])) ++ z
    ≡ ((r₀ ∷ h) ++ (x ++ (a ∷ []))) ++ (((b ∷ k) ++ (y ++ (c ∷ []))) ++ z)
regroup r₀ a b c h x k y z = flat (r₀ ∷ []) (a ∷ []) (b ∷ []) (c ∷ [])
  where
    flat : (r a b c : List Outcome) → ((((((r ++ h) ++ x) ++ (a ++ b)) ++ k) ++ y) ++ c) ++ z
        ≡ ((r ++ h) ++ (x ++ a)) ++ (((b ++ k) ++ (y ++ c)) ++ z)
    flat r a b c = simp append_assoc

module _ (v : Version) (x : Lines) where
  old-state : State
  old-state = more_steps v OldRoute x.old (more_start v OldRoute x.old_start
      (more (λ i s. old_head i x.old_places s) nothing))

  old-rows : List Outcome
  old-rows = ((unless (places_fit x.old_places) 2 1 ∷ []) ++ start_rows v (1 + 1) x.old_places x.old_start)
      ++ form_rows v (1 + 1 + start_line_count v) x.old_places [] x.old

  old-facts : Sheet
  old-facts =
      in_route OldRoute (filled (places_read v x.old_places x.old_start) (map record_of x.old)) (failed 0 0)

  old-part : Stood old-state (1 + start_line_count v + length x.old) old-rows old-facts (length x.old ≤ 64)
  unfolding old-state old-rows old-facts first failed is_route
  old-part =
      route-stood v OldRoute x.old_start x.old _ 1 x.old_places _ (failed 0 0) refl refl
      (one_line (λ i s. old_head i x.old_places s) nothing 0 [] _ (failed 0 0) _ (Unit {0}) _ refl
      (record { lines = refl; stand = stands refl refl tt }) (λ h. old-stand x.old_places))

  new-at : ℕ
  new-at = 1 + start_line_count v + length x.old + 1

  new-state : State
  new-state = more_steps v NewRoute x.new (more_start v NewRoute x.new_start
      (more (λ i s. new_head i x.new_places s) old-state))

  new-rows : List Outcome
  new-rows = ((old-rows ++ (unless (not (eqb (length x.old) 0)) 4 new-at ∷ unless (places_fit x.new_places) 2 new-at
      ∷ [])) ++ start_rows v (new-at + 1) x.new_places x.new_start)
      ++ form_rows v (new-at + 1 + start_line_count v) x.new_places [] x.new

  new-facts : Sheet
  new-facts = in_route NewRoute (filled (places_read v x.new_places x.new_start) (map record_of x.new)) old-facts

  new-part : Stood new-state (new-at + start_line_count v + length x.new) new-rows new-facts (length x.new ≤ 64)
  unfolding new-state new-rows new-facts new-at old-facts in_route failed is_route
  new-part =
      route-stood v NewRoute x.new_start x.new _ new-at x.new_places _ old-facts refl refl
      (one_line (λ i s. new_head i x.new_places s) old-state (1 + start_line_count v + length x.old) old-rows _
      old-facts
      _ _ _ refl old-part (λ few. new-stand new-at x.new_places _ x.old few))

  job-at : ℕ
  job-at = new-at + start_line_count v + length x.new + 1

  whole_part : Stood (more_dones v x.done (more job_head new-state)) (job-at + length x.done)
      ((new-rows ++ (unless (not (eqb (length x.new) 0)) 4 job-at ∷ [])) ++ done_rows v (job-at + 1) 0 x.done)
      (facts_record v x) (length x.done ≤ 64)
  unfolding job-at new-facts old-facts in_route failed with_dones facts_record
  whole_part =
      dones-stood v x.done _ job-at _ [] new-facts refl
      (one_line job_head new-state (new-at + start_line_count v + length x.new) new-rows _ new-facts new-facts _ _ refl
      new-part (λ few. job-stand job-at _ x.new old-facts few))

  -- by the lines of the heads
  all-rows : ℕ → ℕ → List Outcome
  all-rows a b =
      (head_form_rows v 1 x.old_places x.old_start
      ++ (form_rows v (1 + 1 + start_line_count v) x.old_places [] x.old
      ++ (unless (not (eqb (length x.old) 0)) 4 a ∷ [])))
      ++ ((head_form_rows v a x.new_places x.new_start
      ++ (form_rows v (a + 1 + start_line_count v) x.new_places [] x.new
      ++ (unless (not (eqb (length x.new) 0)) 4 b ∷ [])))
      ++ done_rows v (b + 1) 0 x.done)

  rows_are : (new-rows ++ (unless (not (eqb (length x.new) 0)) 4 job-at ∷ [])) ++ done_rows v (job-at + 1) 0 x.done
      ≡ sheet_rows v x
  unfolding new-rows old-rows all-rows sheet_rows route_form_rows head_form_rows job-at new-at
  rows_are = regroup _ _ _ _ (start_rows v (1 + 1) x.old_places x.old_start)
      (form_rows v (1 + 1 + start_line_count v) x.old_places [] x.old)
      (start_rows v (new-at + 1) x.new_places x.new_start)
      (form_rows v (new-at + 1 + start_line_count v) x.new_places [] x.new) (done_rows v (job-at + 1) 0 x.done)
      ∙ ap₂ all-rows new_line_lem job-line
    where
      new_line_lem : 1 + start_line_count v + length x.old + 1 ≡ after_forms v 1 x.old
      new_line_lem = omega arith

      job-line : 1 + start_line_count v + length x.old + 1 + start_line_count v + length x.new + 1
          ≡ after_forms v (after_forms v 1 x.old) x.new
      job-line = omega arith

  -- the facts of a sheet are those of its lines where no row refuses, and else the first refusal
  pub facts-stand : Stand (facts_of v x) (sheet_rows v x) (facts_record v x) (length x.done ≤ 64)
  unfolding facts_of new-state old-state
  facts-stand = subst (λ (rows : List Outcome). Stand (facts_of v x) rows (facts_record v x) (length x.done ≤ 64))
      rows_are whole_part.stand

  -- a sheet reads exactly where its rows pass, and then gives the facts of its lines
  pub reads-facts : (facts_of v x).number ≡ 0 → (eqb (first (sheet_rows v x)).number 0 ≡ true)
      × (facts_of v x ≡ facts_record v x)
  unfolding failed
  reads-facts z = go facts-stand
    where
      go : Stand (facts_of v x) (sheet_rows v x) (facts_record v x) (length x.done ≤ 64)
          → (eqb (first (sheet_rows v x)).number 0 ≡ true) × (facts_of v x ≡ facts_record v x)
      go (stands e q h) = (e, q)
      go (fails e q) = absurd (eqb-false (first (sheet_rows v x)).number 0 e
          (sym (ap (λ (s : Sheet). s.number) q) ∙ z))

  -- where its rows pass, it gives them
  pub rows-facts : eqb (first (sheet_rows v x)).number 0 ≡ true → facts_of v x ≡ facts_record v x
  rows-facts h = go facts-stand
    where
      go : Stand (facts_of v x) (sheet_rows v x) (facts_record v x) (length x.done ≤ 64)
          → facts_of v x ≡ facts_record v x
      go (stands e q few) = q
      go (fails e q) = absurd (false≢true (sym e ∙ h))

  -- the rows of a sheet say what reading it answers
  pub rows-answer : ((facts_of v x).number ≡ (first (sheet_rows v x)).number)
      × ((facts_of v x).second ≡ (first (sheet_rows v x)).second)
  unfolding failed facts_record
  rows-answer = go facts-stand
    where
      go : Stand (facts_of v x) (sheet_rows v x) (facts_record v x) (length x.done ≤ 64)
          → ((facts_of v x).number ≡ (first (sheet_rows v x)).number)
          × ((facts_of v x).second ≡ (first (sheet_rows v x)).second)
      go (stands e q h) = let passes = first-clean (sheet_rows v x) e in (
        ap (λ (s : Sheet). s.number) q ∙ ap (λ (o : Outcome). o.number) (sym passes),
        ap (λ (s : Sheet). s.second) q ∙ ap (λ (o : Outcome). o.second) (sym passes),
      )
      go (fails e q) = (ap (λ (s : Sheet). s.number) q, ap (λ (s : Sheet). s.second) q)
