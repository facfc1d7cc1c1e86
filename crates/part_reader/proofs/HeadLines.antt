-- The heads: what their lines do to the lines so far.
-- Assumes nothing.
use mathlib.Core.Path.{◌≡◌, refl, sym, ap, ◌∙◌}
use mathlib.Core.Bool.{true, not}
use mathlib.Core.List.{List, [], ◌∷◌}
use Prim.Native.Nat.{ℕ, ◌+◌, ◌^◌, ◌≤◌, ◌<◌}
use native.Mathlib.Omega.{arith}
use mir.Syntax.{w64}
use mir.Val.{Fits}
use lib.Dec.{eqb, leb}
use lib.ListN.{length}
use borrow.Author.Tests.{eq-eqb, leb-true}
use Rattle.std.specs.Prelude.{Result, Ok, Err}
use Rattle.mask.proofs.Truth.{both}
use Rattle.refusal.specs.Rows.{unless}
use Rattle.refusal.specs.Refusal.{outcome_of}
use Rattle.refusal.specs.declared.Outcome.{Outcome}
use Rattle.route.specs.Steps.{no_places}
use Rattle.job.specs.Lines.{places_fit}
use Rattle.version.specs.declared.Version.{Version}
use Rattle.layout.specs.Text.{Lines}
use Rattle.layout.specs.Points.{past_line}
use Rattle.layout.specs.Parse.{no_line, no_lines, with_num, stored, put_start, put_line, parse}
use Rattle.layout.specs.declared.Word.TheVariants.{Old, New, Job}
use Rattle.layout.specs.declared.Part.TheVariants.{OldRoute, NewRoute, JobPart}
use Rattle.layout.specs.declared.Point.TheVariants.{Top, Open}
use Rattle.facts.specs.Facts.{State, failed, settled, headed, with_old, with_new, old_head, new_head, job_head, more}
use Rattle.facts.specs.Facts.{more_start, nothing}
use Rattle.facts.specs.declared.Sheet.{Sheet}
use Rattle.refusal.proofs.Rows.{head_passed, unless-elim}
use Rattle.tokens.specs.inner.Tokens.{Reading, Breaks, TextTo, TextBreaks}
use Rattle.tokens.specs.declared.Broken.{Broken}
use Rattle.tokens.specs.declared.Numeral.{Numeral}
use Rattle.line_reader.specs.inner.Rows.{head_row, new_row, job_row}
use Rattle.line_reader.specs.inner.Lines.{head_word, has_steps, NumberedTo, NumberedBreaks}
use Rattle.part_reader.specs.inner.Prefix.{back_steps, back_dones, old_state, new_state, job_state, state_of, Prefix}
use Rattle.part_reader.specs.inner.Prefix.{Headed, Rows, passed, Placed, NoStep, with_route, bare, unstarted}
use Rattle.part_reader.specs.inner.Prefix.{StartLineOn}
use Rattle.part_reader.specs.inner.Prefix.{OldOn, NewLineTo, NewOn, NewBreaks, HeadBreaks, JobTo}
use Rattle.part_reader.specs.declared.Pass.{Pass}
use Rattle.part_reader.specs.declared.Head.{Head}
use Rattle.line_reader.proofs.LineTexts.{old-spells, new-spells, job-spells}
use Rattle.part_reader.proofs.PrefixStep.{more-on, more-refused, prefix-of}

fits-places : (n : ℕ) → places_fit n ≡ true → n ≤ 64
unfolding places_fit
fits-places n h = leb-true n 64 (both (leb 1 n) (leb n 64) h).1

-- ---- the old route's head

start-reading : (v : Version) (s : List ℕ) → Reading v s 0 Top no_line no_lines
unfolding parse
start-reading v s = record { within = omega arith; same = refl }

old-more : (value : ℕ) (o : Outcome) → o ≡ head_row 1 value
    → more (λ i z. old_head i value z) nothing ≡ passed 1 o (with_old (bare (unstarted value)) (failed 0 0))
unfolding more old_head headed failed head_row
old-more value o e = ap (λ (x : Outcome). passed 1 x (with_old (bare (unstarted value)) (failed 0 0))) (sym e)

pub old-breaks : (v : Version) (s : List ℕ) (at : ℕ) → NumberedBreaks v s 0 (40 ∷ 111 ∷ 108 ∷ 100 ∷ 32 ∷ []) at
    → Breaks v s at
unfolding head_word
old-breaks v s at h = h.goes Top no_line no_lines Old OldRoute refl (old-spells v s 0 no_line no_lines)
    (start-reading v s)

module _ (v : Version) (s : List ℕ) (n : Numeral) (h : NumberedTo v s 0 (40 ∷ 111 ∷ 108 ∷ 100 ∷ 32 ∷ []) n) (r : Rows)
    (e : outcome_of r ≡ head_row 1 n.value) where
  abbrev past : Pass
  past = record { at = n.at; lines = 1; rows = r }

  pub old-placed : Placed s past
  old-placed = record { within = h.within; few = h.past }

  pub old-few : (outcome_of r).number ≡ 0 → n.value ≤ 64
  unfolding head_row
  old-few z = fits-places n.value (unless-elim (places_fit n.value) 2 1 refl
      (ap (λ (x : Outcome). eqb x.number 0) (sym e) ∙ eq-eqb (outcome_of r).number 0 z))

  reads_old : Headed v s n.at OldRoute (passed 1 (outcome_of r) (with_old (bare (unstarted n.value)) (failed 0 0)))
  unfolding head_word past_line state_of old_state back_steps put_line put_start stored
  reads_old = record {
    lines = put_line Old OldRoute (stored Old (with_num n.value no_line)) no_lines;
    reading = h.goes Top no_line no_lines Old OldRoute refl (old-spells v s 0 no_line no_lines) (start-reading v s);
    starts = λ l. ap (more_start v OldRoute l) (old-more n.value (outcome_of r) e);
    none = ap (more_start v OldRoute []) (old-more n.value (outcome_of r) e);
  }

  -- and then its start line
  pub old-on : (x : Result Head Broken) → StartLineOn v s past n.value x → OldOn v s x
  unfolding has_steps with_route failed
  old-on (Ok a) line = record {
    placed = line.placed;
    fits = line.fits;
    goes = line.goes OldRoute (failed 0 0) refl refl reads_old;
  }
  old-on (Err a) line = line.goes OldRoute _ reads_old

-- ---- the new route's head

-- what the line does to the facts: its rows, or nothing where a line above was refused
module _ (n : ℕ) (o : Outcome) (above value : ℕ) (z : Sheet) (zero : z.number ≡ 0) (len : z.old.len ≡ above) where
  new-passing : (o' : Outcome) → o.number ≡ 0 → o' ≡ new_row (n + 1) above value
      → more (λ i y. new_head i value y) (passed n o (with_new (bare no_places) z))
      ≡ passed (n + 1) o' (with_new (bare (unstarted value)) z)
  unfolding new_head new_row headed
  new-passing o' z₀ e = more-on (λ i y. new_head i value y) n o (with_new (bare no_places) z)
      (with_new (bare (unstarted value)) z) o' z₀ zero
      (ap (λ (x : ℕ). settled (new_row (n + 1) x value) (with_new (bare (unstarted value)) z)) len
      ∙ ap (λ (x : Outcome). settled x (with_new (bare (unstarted value)) z)) (sym e))

  new-refused : (o.number ≡ 0 → ⊥) → more (λ i y. new_head i value y) (passed n o (with_new (bare no_places) z))
      ≡ passed (n + 1) o (with_new (bare (unstarted value)) z)
  new-refused z₀ = more-refused (λ i y. new_head i value y) n o (with_new (bare no_places) z)
      (with_new (bare (unstarted value)) z) z₀

pub new-breaks : (v : Version) (s : List ℕ) (p : Pass) (at : ℕ)
    → NumberedBreaks v s p.at (40 ∷ 110 ∷ 101 ∷ 119 ∷ 32 ∷ []) at → HeadBreaks v s p OldRoute at
unfolding head_word
new-breaks v s p at h = record {
  within = h.within;
  goes = λ k far pre. h.goes (Open OldRoute) no_line pre.lines New NewRoute refl
      (new-spells v s p.at no_line pre.lines far) pre.reading;
}

module _ (v : Version) (s : List ℕ) (p : Pass) (above : ℕ) (n : Numeral) (hp : Placed s p)
    (hn : NumberedTo v s p.at (40 ∷ 110 ∷ 101 ∷ 119 ∷ 32 ∷ []) n) where
  reads-new : (z : Sheet) → NoStep s p.at → Prefix v s p.at OldRoute (passed p.lines (outcome_of p.rows) z)
      → (k : State) → more (λ i y. new_head i n.value y) (passed p.lines (outcome_of p.rows) z) ≡ k
      → Headed v s n.at NewRoute k
  unfolding head_word past_line state_of new_state old_state back_steps put_line put_start stored
  reads-new z far pre k e =
      let is = ap (more (λ i y. new_head i n.value y)) pre.state ∙ e in
      record {
        lines = put_line New NewRoute (stored New (with_num n.value no_line)) pre.lines;
        reading = hn.goes (Open OldRoute) no_line pre.lines New NewRoute refl
            (new-spells v s p.at no_line pre.lines far) pre.reading;
        starts = λ l. ap (more_start v NewRoute l) is;
        none = ap (more_start v NewRoute []) is;
      }

  later : p.lines + 1 ≤ n.at
  later = omega (arith, hn.past, hp.few)

  pub new-fits : length s < 2 ^ 64 → Fits w64 (p.lines + 1)
  new-fits wide = omega (arith, later, hn.within)

  module _ (r : Rows) where
    abbrev head : Head
    head = record { pass = record { at = n.at; lines = p.lines + 1; rows = r }; places = unstarted n.value }

    pub new-on : (outcome_of p.rows).number ≡ 0 → outcome_of r ≡ new_row (p.lines + 1) above n.value
        → NewLineTo v s p above head
    unfolding new_row
    new-on z₀ e =
        record {
          placed = record { within = hn.within; few = later };
          fits = λ z. fits-places n.value
              (unless-elim (places_fit n.value) 2 (p.lines + 1) refl
              (head_passed _ [] (head_passed (unless (not (eqb above 0)) 4 (p.lines + 1)) _
              (ap (λ (x : Outcome). eqb x.number 0) (sym e) ∙ eq-eqb (outcome_of r).number 0 z)).1).0);
          goes = λ z zero a far pre. reads-new _ far pre _
              (new-passing p.lines (outcome_of p.rows) above n.value z zero a (outcome_of r) z₀ e);
        }

    pub new-past : ((outcome_of p.rows).number ≡ 0 → ⊥) → r ≡ p.rows → NewLineTo v s p above head
    new-past z₀ e =
        record {
          placed = record { within = hn.within; few = later };
          fits = λ z. absurd (z₀ (ap (λ (x : Rows). (outcome_of x).number) (sym e) ∙ z));
          goes = λ z zero a far pre. reads-new _ far pre _
              (new-refused p.lines (outcome_of p.rows) above n.value z zero a z₀
              ∙ ap (λ (x : Rows). passed (p.lines + 1) (outcome_of x) (with_new (bare (unstarted n.value)) z)) (sym e));
        }

-- its line breaks
pub head-breaks : (v : Version) (s : List ℕ) (p : Pass) (above at : ℕ) → HeadBreaks v s p OldRoute at
    → NewBreaks v s p above at
head-breaks v s p above at h = record { within = h.within; goes = λ z zero a far pre. h.goes _ far pre }

-- past its line: its start line
pub new-whole : (v : Version) (s : List ℕ) (p : Pass) (above : ℕ) (h : Head) → NewLineTo v s p above h
    → (x : Result Head Broken) → StartLineOn v s h.pass h.places.count x → NewOn v s p above x
unfolding has_steps with_route
new-whole v s p above h first (Ok r) line = record {
  placed = line.placed;
  fits = line.fits;
  goes = λ z zero a far pre. line.goes NewRoute z refl zero (first.goes z zero a far pre);
}
new-whole v s p above h first (Err e) line = record {
  within = line.within;
  goes = λ z zero a far pre. line.goes NewRoute _ (first.goes z zero a far pre);
}

-- ---- the job line

module _ (v : Version) (t : Lines) (n : ℕ) (o : Outcome) (z : Sheet) (zero : z.number ≡ 0)
    (k : new_state v t ≡ passed n o z) where
  job-first : state_of v JobPart (put_line Job JobPart no_line t) ≡ more job_head (passed n o z)
  unfolding state_of job_state new_state old_state back_dones back_steps put_line
  job-first = ap (more job_head) k

  job-passing : (above : ℕ) (o' : Outcome) → o.number ≡ 0 → z.new.len ≡ above → o' ≡ job_row (n + 1) above
      → state_of v JobPart (put_line Job JobPart no_line t) ≡ passed (n + 1) o' z
  unfolding job_head job_row
  job-passing above o' h a e =
      job-first
      ∙ more-on job_head n o z z o' h zero (ap (λ (x : ℕ). settled (job_row (n + 1) x) z) a
      ∙ ap (λ (x : Outcome). settled x z) (sym e))

  job-refused : (o.number ≡ 0 → ⊥) → state_of v JobPart (put_line Job JobPart no_line t) ≡ passed (n + 1) o z
  job-refused h = job-first ∙ more-refused job_head n o z z h

pub job-breaks : (s : List ℕ) (p : Pass) (at : ℕ) → TextBreaks s p.at (40 ∷ 106 ∷ 111 ∷ 98 ∷ 41 ∷ 10 ∷ []) at
    → (v : Version) → HeadBreaks v s p NewRoute at
job-breaks s p at h v = record {
  within = h.within;
  goes = λ k far pre. h.goes v _ _ _ _ _ _ (job-spells v s p.at no_line pre.lines far) pre.reading;
}

module _ (s : List ℕ) (p : Pass) (above at : ℕ) (hp : Placed s p)
    (h : TextTo s p.at (40 ∷ 106 ∷ 111 ∷ 98 ∷ 41 ∷ 10 ∷ []) at) where
  reads-job : (v : Version) (z : Sheet) → NoStep s p.at → Prefix v s p.at NewRoute (passed p.lines
      (outcome_of p.rows) z)
      → (k : State) → ((t : Lines) → new_state v t ≡ passed p.lines (outcome_of p.rows) z
      → state_of v JobPart (put_line Job JobPart no_line t) ≡ k) → Prefix v s at JobPart k
  unfolding state_of
  reads-job v z far pre k e = prefix-of v s at JobPart _ k
      (h.goes v _ _ _ _ _ _ (job-spells v s p.at no_line pre.lines far) pre.reading) (e pre.lines pre.state)

  job-later : p.lines + 1 ≤ at
  job-later = omega (arith, h.past, hp.few)

  pub job-fits : length s < 2 ^ 64 → Fits w64 (p.lines + 1)
  job-fits wide = omega (arith, job-later, h.within)

  module _ (r : Rows) where
    pub job-on : (outcome_of p.rows).number ≡ 0 → outcome_of r ≡ job_row (p.lines + 1) above
        → JobTo s p above (record { at = at; lines = p.lines + 1; rows = r })
    job-on z₀ e =
        record {
          placed = record { within = h.within; few = job-later };
          goes = λ v z zero a far pre. reads-job v z far pre _
              (λ t k. job-passing v t p.lines (outcome_of p.rows) z zero k above (outcome_of r) z₀ a e);
        }

    pub job-past : ((outcome_of p.rows).number ≡ 0 → ⊥) → r ≡ p.rows
        → JobTo s p above (record { at = at; lines = p.lines + 1; rows = r })
    job-past z₀ e =
        record {
          placed = record { within = h.within; few = job-later };
          goes = λ v z zero a far pre. reads-job v z far pre _
              (λ t k. job-refused v t p.lines (outcome_of p.rows) z zero k z₀
              ∙ ap (λ (x : Rows). passed (p.lines + 1) (outcome_of x) z) (sym e));
        }
