-- The start line that follows a head: what it does to the lines so far, and that the mask kept of it is its places'.
-- Assumes nothing.
use mathlib.Core.Path.{◌≡◌, refl, sym, ap, ◌∙◌, subst}
use mathlib.Core.Bool.{Bool, true, false, not, cond, false≢true}
use mathlib.Core.List.{List, []}
use Prim.Native.Nat.{ℕ, ◌+◌, ◌^◌, ◌≤◌, ◌<◌}
use native.Mathlib.Omega.{arith}
use mir.Syntax.{w64}
use mir.Val.{Fits}
use lib.ListN.{length}
use borrow.Author.Tests.{eq-eqb, not-true, not-false}
use Rattle.refusal.specs.Rows.{unless}
use Rattle.refusal.specs.Refusal.{outcome_of}
use Rattle.refusal.specs.declared.Outcome.{Outcome}
use Rattle.refusal.proofs.Rows.{head_passed, unless-elim}
use Rattle.version.specs.declared.Version.{Version}
use Rattle.layout.specs.Parse.{no_line, put_start}
use Rattle.layout.specs.Points.{past_head}
use Rattle.layout.specs.declared.Word.TheVariants.{Start}
use Rattle.layout.specs.declared.Part.{Part}
use Rattle.layout.specs.declared.Part.TheVariants.{OldRoute, NewRoute, JobPart}
use Rattle.layout.specs.declared.Point.TheVariants.{Open, Gap}
use Rattle.facts.specs.Forms.{all_below, start_row, masked}
use Rattle.facts.specs.Facts.{State, settled, started, start_in, more, more_start}
use Rattle.facts.specs.declared.Sheet.{Sheet}
use Rattle.tokens.specs.inner.Tokens.{Reading, no_entries, along}
use Rattle.tokens.specs.declared.Listed.{Listed}
use Rattle.line_reader.specs.inner.Lines.{has_steps, StartTo, StartBreaks}
use Rattle.line_reader.proofs.LineForm.{start-mask}
use Rattle.part_reader.specs.inner.Prefix.{Prefix, Headed, Rows, passed, Placed, with_route, bare, unstarted}
use Rattle.part_reader.specs.inner.Prefix.{StartLineTo, StartLineBreaks}
use Rattle.part_reader.specs.declared.Pass.{Pass}
use Rattle.part_reader.specs.declared.Head.{Head}
use Rattle.part_reader.proofs.PrefixStep.{settled_same, more-on, more-refused, prefix-of, route-number}

-- ---- a version with start lines, and one without

-- without, the head is all
head-through : (v : Version) (s : List ℕ) (i : ℕ) (q : Part) (k : State) → v.starts ≡ false → Headed v s i q k
    → Prefix v s i q k
unfolding past_head more_start
head-through v s i q k lacks h =
    prefix-of v s i q h.lines k
    (subst (λ (x : Bool). Reading v s i (cond x (Gap Start q) (Open q)) no_line h.lines) lacks h.reading)
    (h.none ∙ ap (λ (x : Bool). cond x (more (λ n z. start_in q n [] z) k) k) lacks)

module _ (v : Version) (s : List ℕ) (i : ℕ) (q : Part) (k : State) (has : v.starts ≡ true) (h : Headed v s i q k) where
  at-bracket : Reading v s i (Gap Start q) no_line h.lines
  unfolding past_head
  at-bracket = subst (λ (x : Bool). Reading v s i (cond x (Gap Start q) (Open q)) no_line h.lines) has h.reading

  past-start : (l : Listed) (hl : StartTo v s i l) (k' : State) → more (λ n z. start_in q n hl.places z) k ≡ k'
      → Prefix v s l.at q k'
  unfolding more_start
  past-start l hl k' e = prefix-of v s l.at q (put_start q hl.places h.lines) k' (hl.goes q h.lines at-bracket)
      (h.starts hl.places ∙ ap (λ (x : Bool). cond x (more (λ n z. start_in q n hl.places z) k) k) has ∙ e)

-- ---- the start line in the facts

start-settled : (q : Part) (line count : ℕ) (l : List ℕ) (z : Sheet) → has_steps q ≡ true
    → start_in q line l (with_route q (bare (unstarted count)) z) ≡ settled (start_row line count l)
    (with_route q (bare (record { count = count; start = masked 64 0 l })) z)
unfolding has_steps start_in started with_route
start-settled OldRoute line count l z h = refl
start-settled NewRoute line count l z h = refl
start-settled JobPart line count l z h = absurd (false≢true h)

-- where row 2 passes, each place is below the count
below-count : (line count : ℕ) (l : List ℕ) → (start_row line count l).number ≡ 0 → all_below count l ≡ true
unfolding start_row
below-count line count l z = unless-elim (all_below count l) 2 line refl
    (head_passed (unless (all_below count l) 2 line) _ (eq-eqb _ 0 z)).0

-- ---- as the code meets them

pub start_none : (v : Version) (s : List ℕ) (p : Pass) (count : ℕ) → Placed s p
    → ((outcome_of p.rows).number ≡ 0 → count ≤ 64) → (numbers : Version) → numbers ≡ v → not numbers.starts ≡ true
    → StartLineTo v s p count (record { pass = p; places = unstarted count })
start_none v s p count h few numbers same lacks =
    record {
      placed = h;
      fits = few;
      goes = λ q z has nil head. head-through v s p.at q _
          (sym (ap (λ (x : Version). x.starts) same) ∙ not-true numbers.starts lacks) head;
    }

module _ (v : Version) (s : List ℕ) (p : Pass) (numbers : Version) (same : numbers ≡ v)
    (starts : not numbers.starts ≡ false) where
  has : v.starts ≡ true
  has = sym (ap (λ (x : Version). x.starts) same) ∙ not-false numbers.starts starts

  pub start-breaks : (at : ℕ) → StartBreaks v s p.at at → StartLineBreaks v s p at
  start-breaks at stop = record {
    within = stop.within;
    goes = λ q k head. stop.goes q head.lines (at-bracket v s p.at q k has head);
  }

  module _ (count : ℕ) (hp : Placed s p) (few : (outcome_of p.rows).number ≡ 0 → count ≤ 64) (l : Listed)
      (hl : StartTo v s p.at l) where
    later : p.lines + 1 ≤ l.at
    later = omega (arith, hl.past, hp.few)

    pub start_fits : length s < 2 ^ 64 → Fits w64 (p.lines + 1)
    start_fits wide = omega (arith, later, hl.within)

    module _ (r : Rows) where
      abbrev head : Head
      head = record {
        pass = record { at = l.at; lines = p.lines + 1; rows = r };
        places = record { count = count; start = l.entries.mask };
      }

      abbrev told : Part → ℕ → Sheet → Sheet
      told q m z = with_route q (bare (record { count = count; start = m })) z

      pub start-on : (outcome_of p.rows).number ≡ 0
          → ((k : List ℕ) → l.entries ≡ along no_entries k → outcome_of r ≡ start_row (p.lines + 1) count k)
          → StartLineTo v s p count head
      start-on z₀ row =
          record {
            placed = record { within = hl.within; few = later };
            fits = λ _. few z₀;
            goes = λ q z route nil first.
                past-start v s p.at q _ has first l hl _
                (more-on (λ n y. start_in q n hl.places y) p.lines (outcome_of p.rows) (told q 0 z)
                (told q (masked 64 0 hl.places) z) (outcome_of r) z₀ (route-number q (bare (unstarted count)) z ∙ nil)
                (start-settled q (p.lines + 1) count hl.places z route
                ∙ ap (λ (x : Outcome). settled x (told q (masked 64 0 hl.places) z)) (sym e))
                ∙ ap (λ (x : Sheet). record { lines = p.lines + 1; sheet = x }) (settled_same (outcome_of r) _ _
                (λ zero. ap (λ (m : ℕ). told q m z) (sym (start-mask l.entries hl.places hl.kept count (few z₀)
                (below-count (p.lines + 1) count hl.places
                (ap (λ (x : Outcome). x.number) (sym e) ∙ zero)))))));
          }
        where
          e : outcome_of r ≡ start_row (p.lines + 1) count hl.places
          e = row hl.places hl.kept

      pub start-past : ((outcome_of p.rows).number ≡ 0 → ⊥) → r ≡ p.rows → StartLineTo v s p count head
      start-past z₀ e =
          record {
            placed = record { within = hl.within; few = later };
            fits = λ z. absurd (z₀ (ap (λ (x : Rows). (outcome_of x).number) (sym e) ∙ z));
            goes = λ q z route nil first.
                past-start v s p.at q _ has first l hl _
                (more-refused (λ n y. start_in q n hl.places y) p.lines (outcome_of p.rows) (told q 0 z)
                (told q l.entries.mask z) z₀
                ∙ ap (λ (x : Rows). passed (p.lines + 1) (outcome_of x) (told q l.entries.mask z)) (sym e));
          }
