-- The done lines, to the end of the bytes.
-- Assumes nothing.
use mathlib.Core.Path.{◌≡◌, refl, sym, ap, ◌∙◌}
use mathlib.Core.Bool.{true}
use mathlib.Core.List.{List, [], ◌∷◌}
use Prim.Native.Nat.{ℕ, ◌+◌, ◌-◌, ◌%◌, ◌^◌, ◌≤◌, ◌<◌}
use native.Mathlib.Omega.{arith}
use mir.Syntax.{w64}
use mir.Val.{Fits}
use lib.Dec.{eqb, ltb}
use lib.ListN.{length, set}
use borrow.Author.Tests.{eq-eqb, ltb-true}
use Rattle.refusal.specs.Rows.{unless}
use Rattle.refusal.specs.Refusal.{outcome_of}
use Rattle.refusal.specs.declared.Outcome.{Outcome}
use Rattle.job.specs.Lines.{done_row}
use Rattle.version.specs.Limits.{name_fits, Limits}
use Rattle.version.specs.declared.Version.{Version}
use Rattle.version.proofs.Limits.{name-stored}
use Rattle.layout.specs.Text.{Lines}
use Rattle.layout.specs.Points.{past_line}
use Rattle.layout.specs.Parse.{no_line, with_num, stored, put_line}
use Rattle.layout.specs.declared.Word.TheVariants.{Done}
use Rattle.layout.specs.declared.Part.TheVariants.{JobPart}
use Rattle.layout.specs.declared.Point.TheVariants.{Open}
use Rattle.facts.specs.Facts.{State, settled, done_in, more}
use Rattle.facts.specs.declared.Sheet.{Sheet}
use Rattle.refusal.proofs.Rows.{head_passed, unless-elim}
use Rattle.tokens.specs.declared.Numeral.{Numeral}
use Rattle.line_reader.specs.inner.Lines.{head_word, NumberedTo, NumberedBreaks}
use Rattle.part_reader.specs.inner.Prefix.{back_dones, old_state, new_state, job_state, state_of, Prefix, passed}
use Rattle.part_reader.specs.inner.Prefix.{Rows, Placed, with_dones, DonesTo, DonesBreak}
use Rattle.part_reader.specs.declared.Pass.{Pass}
use Rattle.line_reader.proofs.LineTexts.{done-spells}
use Rattle.part_reader.proofs.PrefixStep.{settled-no, more-on, more-refused, prefix-of}

done-state : (v : Version) (t : Lines) (value : ℕ)
    → state_of v JobPart (put_line Done JobPart (stored Done (with_num value no_line)) t)
    ≡ more (λ i s. done_in v i value s) (state_of v JobPart t)
unfolding state_of job_state new_state old_state back_dones put_line stored
done-state v t value = refl

done-settled : (v : Version) (line value len : ℕ) (list : List ℕ) (z : Sheet)
    → done_in v line value (with_dones len list z) ≡ settled (done_row v line len value)
    (with_dones (len + 1) (set list len value) z)
unfolding done_in
done-settled v line value len list z = refl

pub done-room : (v : Version) (line len value : ℕ) (o : Outcome) → o ≡ done_row v line len value → o.number ≡ 0
    → len < 64
unfolding done_row
done-room v line len value o row z₁ =
    ltb-true len 64 (unless-elim (ltb len 64) 4 line refl (head_passed (unless (ltb len 64) 4 line) _
    (ap (λ (x : Outcome). eqb x.number 0) (sym row) ∙ eq-eqb o.number 0 z₁)).0)

-- ---- the loop

pub record Named (v : Version) (s : List ℕ) (list₀ list : List ℕ) (from lines₀ : ℕ) (outcome₀ outcome : Outcome)
    (lines at len : ℕ) : Type 0 where
  pub limits : Limits v
  pub within : at ≤ length s
  pub counted : lines ≤ at
  pub few : len ≤ 64
  pub goes : (z : Sheet) → z.number ≡ 0 → Prefix v s from JobPart (passed lines₀ outcome₀ (with_dones 0 list₀ z))
      → Prefix v s at JobPart (passed lines outcome (with_dones len list z))

pub named-init : (v : Version) (limits : Limits v) (s list : List ℕ) (p : Pass) → Placed s p
    → Named v s list list p.at p.lines (outcome_of p.rows) (outcome_of p.rows) p.lines p.at 0
named-init v limits s list p hp = record {
  limits = limits;
  within = hp.within;
  counted = hp.few;
  few = omega arith;
  goes = λ z zero pre. pre;
}

module _ (v : Version) (s list₀ list : List ℕ) (from lines₀ : ℕ) (outcome₀ outcome : Outcome) (lines at len : ℕ)
    (h : Named v s list₀ list from lines₀ outcome₀ outcome lines at len) (inside : at < length s) (n : Numeral)
    (hn : NumberedTo v s at (40 ∷ 100 ∷ 111 ∷ 110 ∷ 101 ∷ 32 ∷ []) n) where
  reads-done : (z : Sheet) → z.number ≡ 0 → Prefix v s from JobPart (passed lines₀ outcome₀ (with_dones 0 list₀ z))
      → (k : State) → more (λ i x. done_in v i n.value x) (passed lines outcome (with_dones len list z)) ≡ k
      → Prefix v s n.at JobPart k
  unfolding head_word past_line
  reads-done z zero pre k e =
      let now = h.goes z zero pre in
      prefix-of v s n.at JobPart _ k (hn.goes (Open JobPart) no_line now.lines Done JobPart refl
      (done-spells v s at no_line now.lines inside) now.reading)
      (done-state v now.lines n.value ∙ ap (more (λ i x. done_in v i n.value x)) now.state ∙ e)

  later : lines + 1 ≤ n.at
  later = omega (arith, hn.past, h.counted)

  pub named_past : (outcome.number ≡ 0 → ⊥) → Named v s list₀ list from lines₀ outcome₀ outcome (lines + 1) n.at
      len
  named_past z₀ =
      record {
        limits = h.limits;
        within = hn.within;
        counted = later;
        few = h.few;
        goes = λ z zero pre. reads-done z zero pre _
            (more-refused _ lines outcome (with_dones len list z) (with_dones len list z) z₀);
      }

  module _ (z₀ : outcome.number ≡ 0) (numbers : Version) (same : numbers ≡ v) (o : Outcome)
      (told : o ≡ done_row numbers (lines + 1) len n.value) where
    row : o ≡ done_row v (lines + 1) len n.value
    row = told ∙ ap (λ (x : Version). done_row x (lines + 1) len n.value) same

    done_more : (z : Sheet) → z.number ≡ 0 → more (λ i x. done_in v i n.value x)
        (passed lines outcome (with_dones len list z))
        ≡ passed (lines + 1) o (with_dones (len + 1) (set list len n.value) z)
    done_more z zero =
        more-on _ lines outcome (with_dones len list z) _ o z₀ zero
        (done-settled v (lines + 1) n.value len list z
        ∙ ap (λ (x : Outcome). settled x (with_dones (len + 1) (set list len n.value) z)) (sym row))

    pub named-row : (o.number ≡ 0 → ⊥) → Named v s list₀ list from lines₀ outcome₀ o (lines + 1) n.at len
    named-row bad =
        record {
          limits = h.limits;
          within = hn.within;
          counted = later;
          few = h.few;
          goes = λ z zero pre. reads-done z zero pre _
              (done_more z zero ∙ ap (λ (x : Sheet). record { lines = lines + 1; sheet = x })
              (settled-no o _ bad ∙ sym (settled-no o (with_dones len list z) bad)));
        }

    done-fits : o.number ≡ 0 → name_fits v n.value ≡ true
    unfolding done_row
    done-fits z₁ =
        unless-elim (name_fits v n.value) 2 (lines + 1) refl
        (head_passed _ [] (head_passed (unless (ltb len 64) 4 (lines + 1)) _
        (ap (λ (x : Outcome). eqb x.number 0) (sym row) ∙ eq-eqb o.number 0 z₁)).1).0

    pub named-name : o.number ≡ 0 → (name : ℕ) → name ≡ n.value % 4294967296
        → Named v s list₀ (set list len name) from lines₀ outcome₀ o (lines + 1) n.at (len + 1)
    named-name z₁ name name-is =
        let same : n.value ≡ name =
        omega (arith, name-is, name-stored v h.limits n.value (done-fits z₁)) in
        record {
          limits = h.limits;
          within = hn.within;
          counted = later;
          few = omega (arith, done-room v (lines + 1) len n.value o row z₁);
          goes = λ z zero pre. reads-done z zero pre _
              (done_more z zero ∙ ap (λ (x : ℕ). passed (lines + 1) o (with_dones (len + 1) (set list len x) z))
              same);
        }

-- ---- what the loop needs on its way

module _ (v : Version) (s w : List ℕ) (at : ℕ) (n : Numeral) (hn : NumberedTo v s at w n) where
  pub done-line-fits : (list₀ list : List ℕ) (from lines₀ : ℕ) (outcome₀ outcome : Outcome) (lines len : ℕ)
      → Named v s list₀ list from lines₀ outcome₀ outcome lines at len → length s < 2 ^ 64 → Fits w64 (lines + 1)
  done-line-fits list₀ list from lines₀ outcome₀ outcome lines len h wide =
      omega (arith, hn.past, hn.within, h.counted)

  pub done-later : length s - n.at < length s - at
  done-later = omega (arith, hn.past, hn.within)

-- ---- its ends

module _ (v : Version) (s : List ℕ) (p : Pass) (list₀ list : List ℕ) (rows : Rows) (lines at len : ℕ)
    (h : Named v s list₀ list p.at p.lines (outcome_of p.rows) (outcome_of rows) lines at len) where
  pub dones-break : (i : ℕ) → at < length s → NumberedBreaks v s at (40 ∷ 100 ∷ 111 ∷ 110 ∷ 101 ∷ 32 ∷ []) i
      → DonesBreak v s p list₀ i
  unfolding head_word
  dones-break i inside no-done =
      record {
        within = no-done.within;
        goes = λ z zero pre.
            let now = h.goes z zero pre in
            no-done.goes (Open JobPart) no_line now.lines Done JobPart refl
            (done-spells v s at no_line now.lines inside) now.reading;
      }

  pub dones-done : length s ≤ at → DonesTo v s p (record
      { pass = record { at = at; lines = lines; rows = rows }; len = len }) list₀ list
  dones-done over = record { within = h.within; few = h.few; all = over; goes = h.goes }
