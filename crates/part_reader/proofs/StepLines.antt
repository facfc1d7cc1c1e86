-- The steps of a route, line by line.
-- Assumes nothing.
use mathlib.Core.Path.{◌≡◌, refl, sym, ap, ap₂, ◌∙◌, subst}
use mathlib.Core.Bool.{Bool, true, false, cond, false≢true}
use mathlib.Core.List.{List, [], ◌∷◌, ◌++◌, append-nil}
use Prim.Native.Nat.{ℕ, zero, suc, ◌+◌, ◌-◌, ◌*◌, ◌^◌, ◌≤◌, ◌<◌}
use native.Mathlib.Omega.{arith}
use native.Mathlib.Numerals.{add-one}
use mir.Syntax.{w64}
use mir.Val.{Fits}
use lib.Dec.{eqb, ltb}
use lib.ListN.{length, get_or, take, set, replicate, length-replicate}
use lib.Seq.{length-take-le}
use borrow.Author.Tests.{eq-eqb, eqb-true, eqb-false, ltb-true, lt-ltb}
use Rattle.refusal.specs.Rows.{unless}
use Rattle.refusal.specs.Refusal.{outcome_of}
use Rattle.refusal.specs.declared.Outcome.{Outcome}
use Rattle.route.specs.Steps.{blank, steps_of, names}
use Rattle.name_set.specs.inner.Hints.{Hinted}
use Rattle.flat.specs.Flat.{steps_in}
use Rattle.route.specs.declared.Step.{Step}
use Rattle.route.specs.declared.Places.{Places}
use Rattle.route.specs.declared.Route.{Route}
use Rattle.flat.proofs.FlatSteps.{length-flat, flat-take, flat-zeros}
use Rattle.route.proofs.StepList.{length-names}
use Rattle.name_set.proofs.DigitHints.{hinted-none}
use Rattle.version.specs.Limits.{Limits}
use Rattle.version.specs.declared.Version.{Version}
use Rattle.layout.specs.Text.{Form, Lines}
use Rattle.layout.specs.Parse.{put_step}
use Rattle.layout.specs.declared.Part.{Part}
use Rattle.layout.specs.declared.Part.TheVariants.{OldRoute, NewRoute, JobPart}
use Rattle.facts.specs.Forms.{form_fits, form_row, record_of}
use Rattle.facts.specs.Facts.{State, settled, stepped, step_in, more}
use Rattle.facts.specs.declared.Sheet.{Sheet}
use Rattle.refusal.proofs.Rows.{head_passed, unless-elim}
use Rattle.line_reader.specs.inner.Lines.{has_steps, IsForm, StepTo, StepBreaks}
use Rattle.part_reader.specs.inner.Prefix.{back_steps, old_state, new_state, state_of, Prefix, passed}
use Rattle.part_reader.specs.inner.Prefix.{Rows, Placed, bare, with_route, StepsTo, StepsBreak}
use Rattle.line_reader.specs.declared.StepLine.{StepLine}
use Rattle.part_reader.specs.declared.Pass.{Pass}
use Rattle.part_reader.proofs.PrefixStep.{settled-no, more-on, more-refused, route-number, prefix-of}

-- ---- a step's line in the facts

step-state : (v : Version) (q : Part) (t : Lines) (f : Form) → has_steps q ≡ true
    → state_of v q (put_step q f t) ≡ more (λ n s. step_in v q n f s) (state_of v q t)
unfolding has_steps state_of old_state new_state back_steps put_step
step-state v OldRoute t f h = refl
step-state v NewRoute t f h = refl
step-state v JobPart t f h = absurd (false≢true h)

step-settled : (v : Version) (q : Part) (line : ℕ) (f : Form) (r : Route) (z : Sheet) → has_steps q ≡ true
    → step_in v q line f (with_route q r z) ≡ settled (form_row v line r.places.count r.len (names (steps_of r)) f)
    (with_route q (stepped r (record_of f)) z)
unfolding has_steps step_in with_route
step-settled v OldRoute line f r z h = refl
step-settled v NewRoute line f r z h = refl
step-settled v JobPart line f r z h = absurd (false≢true h)

few-steps : (r : Route) → r.len ≤ 64 → steps_of r ≡ take r.len r.steps
unfolding steps_of
few-steps r h =
    let over : r.len - 64 ≡ 0 = omega (arith, h) in
    ap (λ (n : ℕ). take r.len r.steps ++ replicate n blank) over ∙ none (take r.len r.steps)
  where
    none : (l : List Step) → l ++ [] ≡ l
    none l = append-nil l

-- ---- the steps that a list of numbers holds

module _ (list : List ℕ) (len : ℕ) (long : length list ≡ 256) (few : len ≤ 64) where
  pub room : length (steps_in list) ≡ 64
  room = length-flat list ∙ omega (arith, long)

  pub above-is : length (steps_in (take (4 * len) list)) ≡ len
  above-is = ap length (flat-take list len) ∙ length-take-le len (steps_in list) (omega (arith, room, few))

  pub names-above : names (steps_in (take (4 * len) list)) ≡ names (take len (steps_in list))
  names-above = ap names (flat-take list len)

take-suc : (l : List Step) (k : ℕ) (s : Step) → k < length l
    → names (take (suc k) (set l k s)) ≡ names (take k l) ++ (s.name ∷ [])
unfolding names
take-suc [] k s h = absurd (omega (arith, h))
take-suc (x ∷ l) zero s h = refl
take-suc (x ∷ l) (suc k) s h = ap (λ (r : List ℕ). x.name ∷ r) (take-suc l k s (omega (arith, h)))

take_more : (l : List Step) (k : ℕ) (s : Step) → k < length l
    → names (take (k + 1) (set l k s)) ≡ names (take k l) ++ (s.name ∷ [])
take_more l k s h = ap (λ (n : ℕ). names (take n (set l k s))) (add-one k) ∙ take-suc l k s h

-- ---- the loop

pub record Stepped (v : Version) (s : List ℕ) (places : Places) (list hint : List ℕ) (from lines₀ : ℕ)
    (outcome₀ outcome : Outcome) (lines at len : ℕ) : Type 0 where
  pub limits : Limits v
  pub within : at ≤ length s
  pub counted : lines ≤ at
  pub few : len ≤ 64
  pub long : length list ≡ 256
  pub fits : outcome.number ≡ 0 → places.count ≤ 64
  pub hinted : Hinted (names (take len (steps_in list))) hint
  pub goes : (q : Part) (z : Sheet) → has_steps q ≡ true → z.number ≡ 0
      → Prefix v s from q (passed lines₀ outcome₀ (with_route q (bare places) z))
      → Prefix v s at q (passed lines outcome (with_route q
      (record { places = places; len = len; steps = steps_in list })
      z))

pub stepped-init : (v : Version) (limits : Limits v) (s : List ℕ) (places : Places) (list hint : List ℕ) (p : Pass)
    → Placed s p → ((outcome_of p.rows).number ≡ 0 → places.count ≤ 64) → list ≡ replicate 256 0
    → hint ≡ replicate 256 0 → Stepped v s places list hint p.at p.lines (outcome_of p.rows) (outcome_of p.rows) p.lines
    p.at 0
unfolding names
stepped-init v limits s places list hint p hp fits is hs =
    record {
      limits = limits;
      within = hp.within;
      counted = hp.few;
      few = omega arith;
      long = ap length is ∙ length-replicate {A = ℕ} 256 0;
      fits = fits;
      hinted = subst (Hinted []) (sym hs) hinted-none;
      goes = λ q z r nil pre. subst (λ (l : List Step).
          Prefix v s p.at q (passed p.lines (outcome_of p.rows)
          (with_route q (record { places = places; len = 0; steps = l }) z))) (sym (ap steps_in is
          ∙ flat-zeros 64)) pre;
    }

module _ (v : Version) (s : List ℕ) (places : Places) (list hint : List ℕ) (from lines₀ : ℕ)
    (outcome₀ outcome : Outcome) (lines at len : ℕ)
    (h : Stepped v s places list hint from lines₀ outcome₀ outcome lines at len) (l : StepLine)
    (hl : StepTo v s at l) where
  abbrev route : Route
  route = record { places = places; len = len; steps = steps_in list }

  later : lines + 1 ≤ l.at
  later = omega (arith, hl.past, h.counted)

  pub line-fits : length s < 2 ^ 64 → Fits w64 (lines + 1)
  line-fits wide = omega (arith, hl.past, hl.within, h.counted)

  pub line-later : length s - l.at < length s - at
  line-later = omega (arith, hl.past, hl.within)

  abbrev RowIs : Outcome → Type 0
  RowIs o = (f : Form) → IsForm l f → o ≡ form_row v (lines + 1) places.count (length (steps_in (take (4 * len) list)))
      (names (steps_in (take (4 * len) list))) f

  module _ (o : Outcome) (row : RowIs o) where
    the_row : o ≡ form_row v (lines + 1) places.count len (names (steps_of route)) hl.form
    the_row =
        row hl.form hl.is
        ∙ ap₂ (λ (n : ℕ) (x : List ℕ). form_row v (lines + 1) places.count n x hl.form)
        (above-is list len h.long h.few)
        (names-above list len h.long h.few ∙ ap names (sym (few-steps route h.few)))

    module _ (z₁ : o.number ≡ 0) where
      passing : eqb (form_row v (lines + 1) places.count len (names (steps_of route)) hl.form).number 0 ≡ true
      passing = ap (λ (x : Outcome). eqb x.number 0) (sym the_row) ∙ eq-eqb o.number 0 z₁

      row-four : eqb (unless (ltb len 64) 4 (lines + 1)).number 0 ≡ true
      unfolding form_row
      row-four = (head_passed (unless (ltb len 64) 4 (lines + 1)) _ passing).0

      row-two : eqb (unless (form_fits v places.count hl.form) 2 (lines + 1)).number 0 ≡ true
      unfolding form_row
      row-two = (head_passed (unless (form_fits v places.count hl.form) 2 (lines + 1)) _
          (head_passed (unless (ltb len 64) 4 (lines + 1)) _ passing).1).0

      pub step_room : len < 64
      step_room = ltb-true len 64 (unless-elim (ltb len 64) 4 (lines + 1) refl row-four)

      pub put-room : len < length (steps_in list)
      put-room = omega (arith, step_room, room list len h.long h.few)

  module _ (x : Bool) (test : x ≡ eqb (get_or s (at + 1) 0) 115) (so : x ≡ true) where
    reads-step : (q : Part) (z : Sheet) → has_steps q ≡ true → z.number ≡ 0
        → Prefix v s from q (passed lines₀ outcome₀ (with_route q (bare places) z)) → (k : State)
        → more (λ n y. step_in v q n hl.form y) (passed lines outcome (with_route q route z)) ≡ k
        → Prefix v s l.at q k
    reads-step q z r nil pre k e =
        let now = h.goes q z r nil pre in
        prefix-of v s l.at q _ k
        (hl.goes q now.lines r (eqb-true (get_or s (at + 1) 0) 115 (sym test ∙ so)) now.reading)
        (step-state v q now.lines hl.form r ∙ ap (more (λ n y. step_in v q n hl.form y)) now.state ∙ e)

    pub stepped-past : (outcome.number ≡ 0 → ⊥)
        → Stepped v s places list hint from lines₀ outcome₀ outcome (lines + 1) l.at len
    stepped-past z₀ =
        record {
          limits = h.limits;
          within = hl.within;
          counted = later;
          few = h.few;
          long = h.long;
          fits = h.fits;
          hinted = h.hinted;
          goes = λ q z r nil pre. reads-step q z r nil pre _
              (more-refused _ lines outcome (with_route q route z) (with_route q route z) z₀);
        }

    module _ (z₀ : outcome.number ≡ 0) (o : Outcome) (row : RowIs o) where
      settles : (q : Part) (z : Sheet) → has_steps q ≡ true
          → step_in v q (lines + 1) hl.form (with_route q route z)
          ≡ settled o (with_route q (stepped route (record_of hl.form)) z)
      settles q z r = step-settled v q (lines + 1) hl.form route z r
          ∙ ap (λ (x : Outcome). settled x (with_route q (stepped route (record_of hl.form)) z))
          (sym (the_row o row))

      step-more : (q : Part) (z : Sheet) → has_steps q ≡ true → z.number ≡ 0
          → more (λ n y. step_in v q n hl.form y) (passed lines outcome (with_route q route z))
          ≡ passed (lines + 1) o (with_route q (stepped route (record_of hl.form)) z)
      step-more q z r nil = more-on _ lines outcome (with_route q route z) _ o z₀ (route-number q route z ∙ nil)
          (settles q z r)

      pub stepped-row : (o.number ≡ 0 → ⊥) → Stepped v s places list hint from lines₀ outcome₀ o (lines + 1) l.at
          len
      stepped-row bad =
          record {
            limits = h.limits;
            within = hl.within;
            counted = later;
            few = h.few;
            long = h.long;
            fits = λ z. absurd (bad z);
            hinted = h.hinted;
            goes = λ q z r nil pre. reads-step q z r nil pre _
                (step-more q z r nil ∙ ap (λ (x : Sheet). record { lines = lines + 1; sheet = x })
                (settled-no o _ bad ∙ sym (settled-no o (with_route q route z) bad)));
          }

      module _ (z₁ : o.number ≡ 0) (one : Step) (list' hint' : List ℕ)
          (of : (v : Version) (f : Form) (n : ℕ) → Limits v → IsForm l f → n ≤ 64 → form_fits v n f ≡ true
          → one ≡ record_of f) (put : steps_in list' ≡ set (steps_in list) len one) where
        one-is : one ≡ record_of hl.form
        one-is = of v hl.form places.count h.limits hl.is (h.fits z₀)
            (unless-elim (form_fits v places.count hl.form) 2 (lines + 1) refl (row-two o row z₁))

        put_is : stepped route (record_of hl.form)
            ≡ record { places = places; len = len + 1; steps = steps_in list' }
        unfolding stepped
        put_is =
            ap (λ (x : Bool). cond x (record {
              places = places;
              len = len + 1;
              steps = set (steps_in list) len (record_of hl.form);
            }) route) (lt-ltb len 64 (step_room o row z₁))
            ∙ ap (λ (x : Step). record { places = places; len = len + 1; steps = set (steps_in list) len x })
            (sym one-is)
            ∙ ap (λ (x : List Step). record { places = places; len = len + 1; steps = x }) (sym put)

        names-on : names (take (len + 1) (steps_in list')) ≡ names (take len (steps_in list)) ++ (one.name ∷ [])
        names-on = ap (λ (x : List Step). names (take (len + 1) x)) put
            ∙ take_more (steps_in list) len one (put-room o row z₁)

        pub stepped-step : length list' ≡ length list
            → ((c : List ℕ) → length c ≡ len → Hinted c hint → Hinted (c ++ (one.name ∷ [])) hint')
            → Stepped v s places list' hint' from lines₀ outcome₀ o (lines + 1) l.at (len + 1)
        stepped-step same more-hints =
            record {
              limits = h.limits;
              within = hl.within;
              counted = later;
              few = omega (arith, step_room o row z₁);
              long = same ∙ h.long;
              fits = λ _. h.fits z₀;
              hinted = subst (λ (x : List ℕ). Hinted x hint') (sym names-on)
                  (more-hints (names (take len (steps_in list)))
                  (length-names (take len (steps_in list))
                  ∙ length-take-le len (steps_in list) (omega (arith, room list len h.long h.few, h.few)))
                  h.hinted);
              goes = λ q z r nil pre. reads-step q z r nil pre _
                  (step-more q z r nil ∙ ap (λ (x : Route). passed (lines + 1) o (with_route q x z)) put_is);
            }

-- ---- what the loop needs on its way

module _ (v : Version) (s : List ℕ) (places : Places) (list hint : List ℕ) (from lines₀ : ℕ)
    (outcome₀ outcome : Outcome) (lines at len : ℕ)
    (h : Stepped v s places list hint from lines₀ outcome₀ outcome lines at len) where
  pub hinted-above : Hinted (names (steps_in (take (4 * len) list))) hint
  hinted-above = subst (λ (l : List ℕ). Hinted l hint) (sym (names-above list len h.long h.few)) h.hinted

  pub part_room : length (take (4 * len) list) ≡ 4 * len
  part_room = length-take-le (4 * len) list (omega (arith, h.long, h.few))

-- ---- its ends

module _ (v : Version) (s : List ℕ) (p : Pass) (places : Places) (list hint : List ℕ) (rows : Rows) (lines at len : ℕ)
    (h : Stepped v s places list hint p.at p.lines (outcome_of p.rows) (outcome_of rows) lines at len) (x : Bool)
    (test : x ≡ eqb (get_or s (at + 1) 0) 115) where
  pub steps-break : (i : ℕ) → x ≡ true → StepBreaks v s at i → StepsBreak v s p places i
  steps-break i so no-step =
      record {
        within = no-step.within;
        goes = λ q z r nil pre.
            let now = h.goes q z r nil pre in
            no-step.goes q now.lines r (eqb-true (get_or s (at + 1) 0) 115 (sym test ∙ so)) now.reading;
      }

  pub steps-done : x ≡ false → StepsTo v s p places (record {
    pass = record { at = at; lines = lines; rows = rows };
    len = len;
  }) (steps_in list)
  steps-done other =
      record {
        placed = record { within = h.within; few = h.counted };
        few = h.few;
        over = eqb-false (get_or s (at + 1) 0) 115 (sym test ∙ other);
        goes = h.goes;
      }
