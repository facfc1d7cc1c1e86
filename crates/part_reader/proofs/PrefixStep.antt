-- One more line over the lines so far, and the lines so far at the end of the bytes.
-- Assumes nothing.
use mathlib.Core.Path.{◌≡◌, refl, sym, ap, ◌∙◌}
use mathlib.Core.Bool.{Bool, true, false, cond, false≢true}
use mathlib.Core.List.{List, [], ◌∷◌, reverse_aux}
use Prim.Native.Nat.{ℕ, ◌+◌}
use lib.Dec.{eqb}
use borrow.Author.Tests.{eq-eqb, ne_eqb, eqb-true, eqb-false}
use Rattle.std.specs.Prelude.{Ok, Err, is_ok}
use Rattle.refusal.specs.Refusal.{outcome_of}
use Rattle.refusal.proofs.Answered.{number-some}
use Rattle.refusal.specs.declared.Outcome.{Outcome}
use Rattle.route.specs.declared.Route.{Route}
use Rattle.version.specs.declared.Version.{Version}
use Rattle.layout.specs.Text.{Form, Lines}
use Rattle.layout.specs.Parse.{no_line, in_order}
use Rattle.layout.specs.declared.Part.{Part}
use Rattle.layout.specs.declared.Part.TheVariants.{OldRoute, NewRoute, JobPart}
use Rattle.layout.specs.declared.Point.TheVariants.{Open}
use Rattle.facts.specs.Facts.{State, failed, settled, new_head, job_head, more, more_start, more_steps, more_dones}
use Rattle.facts.specs.Facts.{facts_of}
use Rattle.facts.specs.declared.Sheet.{Sheet}
use Rattle.tokens.specs.inner.Tokens.{Reading}
use Rattle.part_reader.specs.inner.Prefix.{back_steps, back_dones, old_state, new_state, job_state, state_of, Prefix}
use Rattle.part_reader.specs.inner.Prefix.{Rows, passed, with_route}

-- ---- the rows so far, and an outcome over the facts

pub rows-ok : (r : Rows) → is_ok r ≡ true → (outcome_of r).number ≡ 0
rows-ok (Ok x) is = refl
rows-ok (Err e) is = absurd (false≢true is)

pub rows-err : (r : Rows) → is_ok r ≡ false → (outcome_of r).number ≡ 0 → ⊥
rows-err (Ok x) is = absurd (false≢true (sym is))
rows-err (Err e) is = eqb-false _ 0 (number-some e.row)

pub settled-yes : (o : Outcome) (z : Sheet) → o.number ≡ 0 → settled o z ≡ z
unfolding settled
settled-yes o z h = ap (λ (x : Bool). cond x z (failed o.number o.second)) (eq-eqb o.number 0 h)

pub settled-no : (o : Outcome) (z : Sheet) → (o.number ≡ 0 → ⊥) → settled o z ≡ failed o.number o.second
unfolding settled
settled-no o z h = ap (λ (x : Bool). cond x z (failed o.number o.second)) (ne_eqb o.number 0 h)

-- what is settled doesn't show where it is refused
pub settled_same : (o : Outcome) (a b : Sheet) → (o.number ≡ 0 → a ≡ b) → settled o a ≡ settled o b
unfolding settled
settled_same o a b h = go (eqb o.number 0) refl
  where
    go : (x : Bool) → eqb o.number 0 ≡ x
        → cond x a (failed o.number o.second) ≡ cond x b (failed o.number o.second)
    go true e = h (eqb-true o.number 0 e)
    go false e = refl

module _ (line : ℕ → Sheet → Sheet) (n : ℕ) (o : Outcome) (z z' : Sheet) where
  -- a line after lines that pass is settled by its own rows
  pub more-on : (o' : Outcome) → o.number ≡ 0 → z.number ≡ 0 → line (n + 1) z ≡ settled o' z'
      → more line (passed n o z) ≡ passed (n + 1) o' z'
  unfolding more
  more-on o' h zero e =
      ap (λ (x : Sheet). record { lines = n + 1; sheet = cond (eqb x.number 0) (line (n + 1) x) x })
      (settled-yes o z h)
      ∙ ap (λ (t : Bool). record { lines = n + 1; sheet = cond t (line (n + 1) z) z }) (eq-eqb z.number 0 zero)
      ∙ ap (λ (x : Sheet). record { lines = n + 1; sheet = x }) e

  -- after a refusal a line only counts
  pub more-refused : (o.number ≡ 0 → ⊥) → more line (passed n o z) ≡ passed (n + 1) o z'
  unfolding more failed
  more-refused h =
      ap (λ (x : Sheet). record { lines = n + 1; sheet = cond (eqb x.number 0) (line (n + 1) x) x })
      (settled-no o z h)
      ∙ ap (λ (t : Bool). record {
        lines = n + 1;
        sheet = cond t (line (n + 1) (failed o.number o.second)) (failed o.number o.second);
      })
      (ne_eqb o.number 0 h)
      ∙ ap (λ (x : Sheet). record { lines = n + 1; sheet = x }) (sym (settled-no o z' h))

-- ---- where reading stands

pub route-number : (q : Part) (r : Route) (z : Sheet) → (with_route q r z).number ≡ z.number
unfolding with_route
route-number OldRoute r z = refl
route-number NewRoute r z = refl
route-number JobPart r z = refl

pub prefix-of : (v : Version) (s : List ℕ) (i : ℕ) (q : Part) (t : Lines) (k : State)
    → Reading v s i (Open q) no_line t → state_of v q t ≡ k → Prefix v s i q k
prefix-of v s i q t k h e = record { lines = t; reading = h; state = e }

-- ---- all lines

steps-forth : (v : Version) (p : Part) (l r : List Form) (k : State)
    → more_steps v p (reverse_aux l r) k ≡ more_steps v p r (back_steps v p l k)
unfolding more_steps back_steps
steps-forth v p [] r k = refl
steps-forth v p (f ∷ l) r k = steps-forth v p l (f ∷ r) k

dones-forth : (v : Version) (l r : List ℕ) (k : State)
    → more_dones v (reverse_aux l r) k ≡ more_dones v r (back_dones v l k)
unfolding more_dones back_dones
dones-forth v [] r k = refl
dones-forth v (n ∷ l) r k = dones-forth v l (n ∷ r) k

pub whole-state : (v : Version) (t : Lines) → (job_state v t).sheet ≡ facts_of v (in_order t)
unfolding job_state new_state old_state facts_of more_steps more_dones
whole-state v t =
    sym
    (ap (λ (k : State). k.sheet) (dones-forth v t.done [] _)
    ∙ ap (λ (k : State). (back_dones v t.done (more job_head k)).sheet)
    (steps-forth v NewRoute t.new [] _ ∙ ap (λ (k : State).
    back_steps v NewRoute t.new (more_start v NewRoute t.new_start (more (λ i s. new_head i t.new_places s) k)))
    (steps-forth v OldRoute t.old [] _)))
