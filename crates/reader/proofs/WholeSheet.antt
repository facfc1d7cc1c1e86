-- All parts of a sheet in turn, and what reading gives at their end.
-- Assumes nothing.
use mathlib.Core.Path.{◌≡◌, refl, sym, ap, ◌∙◌, subst}
use mathlib.Core.Bool.{Bool, cond}
use mathlib.Core.List.{List, []}
use Prim.Native.Nat.{ℕ, ◌+◌, ◌-◌, ◌≤◌}
use native.Mathlib.Omega.{arith}
use lib.Dec.{eqb}
use lib.ListN.{length, take, drop, replicate, length-drop, drop_of_length-le}
use lib.Seq.{take_all}
use borrow.Author.Tests.{eqb-false}
use Rattle.std.specs.Prelude.{Result, Ok, Err, IsErrAnd}
use Rattle.refusal.specs.Rows.{pass, refuse}
use Rattle.refusal.specs.Refusal.{number_of, outcome_of}
use Rattle.refusal.specs.declared.Refusal.{Refusal}
use Rattle.refusal.specs.declared.Row.TheVariants.{Layout}
use Rattle.refusal.proofs.Answered.{number-some}
use Rattle.route.specs.Steps.{blank, no_places}
use Rattle.flat.specs.Flat.{steps_in}
use Rattle.route.specs.declared.Step.{Step}
use Rattle.route.specs.declared.Places.{Places}
use Rattle.route.specs.declared.Route.{Route}
use Rattle.version.specs.declared.Version.{Version}
use Rattle.layout.specs.Parse.{no_line, at_end, run}
use Rattle.layout.specs.declared.Part.TheVariants.{OldRoute, NewRoute, JobPart}
use Rattle.layout.specs.declared.Point.TheVariants.{Open}
use Rattle.facts.specs.Facts.{State, failed, settled, headed, answered, read_by, read_of}
use Rattle.facts.specs.JobPart.{after_lines, job_part, PastLines}
use Rattle.facts.specs.declared.Sheet.{Sheet}
use Rattle.tokens.specs.inner.Tokens.{Breaks}
use Rattle.tokens.specs.declared.Broken.{Broken}
use Rattle.tokens.proofs.Bytes.{handed}
use Rattle.line_reader.specs.inner.Lines.{has_steps}
use Rattle.part_reader.specs.inner.Prefix.{Rows, state_of, Prefix, passed, with_route, with_dones, OldTo, NewTo}
use Rattle.part_reader.specs.inner.Prefix.{NewBreaks, HeadBreaks, JobTo, StepsTo, StepsBreak, DonesTo, DonesBreak}
use Rattle.reader.specs.inner.Read.{PartsInto, ReadInto, ReadTo, route_in}
use Rattle.part_reader.specs.declared.Pass.{Pass}
use Rattle.part_reader.specs.declared.Head.{Head}
use Rattle.part_reader.specs.declared.Filled.{Filled}
use Rattle.reader.specs.Lists.{no_lists}
use Rattle.reader.specs.declared.lists.Lists.{Lists}
use Rattle.reader.specs.Refused.{counts_of}
use Rattle.reader.specs.declared.Lengths.{Lengths}
use Rattle.part_reader.proofs.PrefixStep.{settled-yes, settled-no, whole-state}

-- ---- where the bytes end

broken-read : (v : Version) (s : List ℕ) (i : ℕ) → Breaks v s i → read_by v s ≡ failed 1 i
unfolding read_by answered
broken-read v s i h = ap (answered v (length s)) h.same ∙ ap (failed 1) (omega (arith, length-drop i s, h.within))

whole-read : (v : Version) (s : List ℕ) (i : ℕ) (k : State) → Prefix v s i JobPart k → length s ≤ i
    → read_by v s ≡ k.sheet
unfolding read_by answered run at_end state_of
whole-read v s i k h over =
    ap (answered v (length s)) (h.reading.same ∙ ap (run v (Open JobPart) no_line h.lines)
    (drop_of_length-le s over))
    ∙ sym (whole-state v h.lines) ∙ ap (λ (x : State). x.sheet) h.state

-- ---- the parts

abbrev sheet_with : Places → ℕ → Places → ℕ → ℕ → List Step → List Step → List ℕ → Sheet
sheet_with op ol np nl dl old new done =
    record {
      number = 0;
      second = 0;
      old = record { places = op; len = ol; steps = old };
      new = record { places = np; len = nl; steps = new };
      done_len = dl;
      done = done;
    }

pub refused-into : (v : Version) (s old new done : List ℕ) (e : Refusal)
    → read_by v s ≡ failed (number_of e.row) e.second
    → ReadInto v s (counts_of (Err e)) old new done
unfolding failed
refused-into v s old new done e h =
    let far = eqb-false (number_of e.row) 0 (number-some e.row) in
    record {
      number = ap (λ (x : Sheet). x.number) (sym h);
      second = ap (λ (x : Sheet). x.second) (sym h);
      old-places = ap (λ (x : Sheet). x.old.places) (sym h);
      old-len = ap (λ (x : Sheet). x.old.len) (sym h);
      new-places = ap (λ (x : Sheet). x.new.places) (sym h);
      new-len = ap (λ (x : Sheet). x.new.len) (sym h);
      done-len = ap (λ (x : Sheet). x.done_len) (sym h);
      old-few = omega arith;
      new-few = omega arith;
      done-few = omega arith;
      refused = λ _. h;
      old-steps = λ z. absurd (far z);
      new-steps = λ z. absurd (far z);
      done-names = λ z. absurd (far z);
    }

-- row 1
pub read-broken : (v : Version) (s old new done : List ℕ) (at : ℕ) (e : Refusal)
    → e ≡ record { row = Layout; second = at }
    → read_by v s ≡ failed 1 at → ReadInto v s (counts_of (Err e)) old new done
read-broken v s old new done at e is h =
    refused-into v s old new done e (h ∙ ap (λ (x : Refusal). failed (number_of x.row) x.second) (sym is))

pub broken-into : (v : Version) (s : List ℕ) (r : Result (Result Lengths Refusal) Broken) (e : Broken)
    → IsErrAnd r (λ y. y ≡ e)
    → Breaks v s e.at → (old new done : List ℕ) → PartsInto v s r old new done
broken-into v s r e is h old new done =
    handed (λ (x : Result (Result Lengths Refusal) Broken). PartsInto v s x old new done) r e is
    (broken-read v s e.at h)

-- each part after those before it: where it breaks, no sheet goes on so
module _ (v : Version) (s : List ℕ) (a : Head) (ha : OldTo v s a) where
  pub old-steps-break : (at : ℕ) → StepsBreak v s a.pass a.places at → Breaks v s at
  unfolding has_steps with_route
  old-steps-break at h = h.goes OldRoute (failed 0 0) refl (unfold failed in refl) ha.goes

  module _ (old : List ℕ) (b : Filled) (hb : StepsTo v s a.pass a.places b (steps_in old)) where
    abbrev one : Sheet
    one = sheet_with a.places b.len no_places 0 0 (steps_in old) (replicate 64 blank) (replicate 64 0)

    old-steps : Prefix v s b.pass.at OldRoute (passed b.pass.lines (outcome_of b.pass.rows) one)
    unfolding has_steps with_route failed
    old-steps = hb.goes OldRoute (failed 0 0) refl refl ha.goes

    pub new-head-breaks : (at : ℕ) → NewBreaks v s b.pass b.len at → Breaks v s at
    new-head-breaks at h = h.goes one refl refl hb.over old-steps

    module _ (c : Head) (hc : NewTo v s b.pass b.len c) where
      new-head : Prefix v s c.pass.at NewRoute (passed c.pass.lines (outcome_of c.pass.rows)
          (sheet_with a.places b.len c.places 0 0 (steps_in old) (replicate 64 blank) (replicate 64 0)))
      unfolding headed
      new-head = hc.goes one refl refl hb.over old-steps

      pub new-steps-break : (at : ℕ) → StepsBreak v s c.pass c.places at → Breaks v s at
      unfolding has_steps with_route
      new-steps-break at h = h.goes NewRoute one refl refl new-head

      module _ (new : List ℕ) (d : Filled) (hd : StepsTo v s c.pass c.places d (steps_in new)) where
        abbrev two : Sheet
        two = sheet_with a.places b.len c.places d.len 0 (steps_in old) (steps_in new) (replicate 64 0)

        new-steps : Prefix v s d.pass.at NewRoute (passed d.pass.lines (outcome_of d.pass.rows) two)
        unfolding has_steps with_route
        new-steps = hd.goes NewRoute one refl refl new-head

        pub job-head-breaks : (at : ℕ) → ((v : Version) → HeadBreaks v s d.pass NewRoute at) → Breaks v s at
        job-head-breaks at h = (h v).goes _ hd.over new-steps

        module _ (e : Pass) (he : JobTo s d.pass d.len e) (before : Lists) (none : before ≡ no_lists) where
          job : Prefix v s e.at JobPart (passed e.lines (outcome_of e.rows) (with_dones 0 before.done two))
          job = subst (λ (l : List ℕ). Prefix v s e.at JobPart (passed e.lines (outcome_of e.rows)
              (with_dones 0 l two)))
              (ap (λ (l : Lists). l.done) (sym none)) (he.goes v two refl refl hd.over new-steps)

          pub dones-break : (at : ℕ) → DonesBreak v s e before.done at → Breaks v s at
          dones-break at h = h.goes two refl job

          module _ (done : List ℕ) (f : Filled) (hf : DonesTo v s e f before.done done) where
            abbrev sheet : Sheet
            sheet = sheet_with a.places b.len c.places d.len f.len (steps_in old) (steps_in new) done

            reads : read_by v s ≡ settled (outcome_of f.pass.rows) sheet
            reads = whole-read v s f.pass.at _ (hf.goes two refl job) hf.all

            pub read-refused : (e : Refusal) → f.pass.rows ≡ Err e → ReadInto v s (counts_of (Err e)) old new done
            read-refused e is =
                refused-into v s old new done e
                (reads
                ∙ ap (λ (x : Rows). settled (outcome_of x) sheet) is
                ∙ settled-no (refuse (number_of e.row) e.second) sheet (eqb-false _ 0 (number-some e.row)))

            pub read-facts : (u : Unit {0}) → f.pass.rows ≡ Ok u
                → ReadInto v s (counts_of (Ok (record {
                  old_places = a.places;
                  old_len = b.len;
                  new_places = c.places;
                  new_len = d.len;
                  done_len = f.len;
                }))) old new done
            read-facts u is =
                let h = reads ∙ ap (λ (x : Rows). settled (outcome_of x) sheet) is ∙ settled-yes pass sheet refl in
                record {
                  number = ap (λ (x : Sheet). x.number) (sym h);
                  second = ap (λ (x : Sheet). x.second) (sym h);
                  old-places = ap (λ (x : Sheet). x.old.places) (sym h);
                  old-len = ap (λ (x : Sheet). x.old.len) (sym h);
                  new-places = ap (λ (x : Sheet). x.new.places) (sym h);
                  new-len = ap (λ (x : Sheet). x.new.len) (sym h);
                  done-len = ap (λ (x : Sheet). x.done_len) (sym h);
                  old-few = hb.few;
                  new-few = hd.few;
                  done-few = hf.few;
                  refused = λ z. absurd (z refl);
                  old-steps = λ _. ap (λ (x : Sheet). x.old.steps) (sym h);
                  new-steps = λ _. ap (λ (x : Sheet). x.new.steps) (sym h);
                  done-names = λ _. ap (λ (x : Sheet). x.done) (sym h);
                }

-- ---- the sheet by value, and the job part

module _ (v : Version) (s old new done : List ℕ) where
  pub sheet-refused : (e : Refusal) → ReadInto v s (counts_of (Err e)) old new done
      → failed (number_of e.row) e.second ≡ read_by v s
  sheet-refused e h = sym (h.refused (eqb-false _ 0 (number-some e.row)))

  pub sheet-read : (l : Lengths) (h : ReadInto v s (counts_of (Ok l)) old new done) (a b : Route)
      → a ≡ route_in l.old_places l.old_len (steps_in old) → b ≡ route_in l.new_places l.new_len (steps_in new)
      → record { number = 0; second = 0; old = a; new = b; done_len = l.done_len; done = done } ≡ read_by v s
  sheet-read l h a b p q =
      let old-route : a ≡ (read_by v s).old = p ∙ (λ j. route_in (h.old-places j) (h.old-len j) (h.old-steps refl j)) in
      let new-route : b ≡ (read_by v s).new = q ∙ (λ j. route_in (h.new-places j) (h.new-len j) (h.new-steps refl j)) in
      λ j. record {
        number = h.number j;
        second = h.second j;
        old = old-route j;
        new = new-route j;
        done_len = h.done-len j;
        done = h.done-names refl j;
      }

module _ (s old new done : List ℕ) where
  pub part-refused : (e : Refusal) → ReadTo s (counts_of (Err e)) old new done → ◌≡◌ {A = List ℕ} [] (job_part s)
  unfolding job_part
  part-refused e h =
      sym (ap (λ (t : Bool). cond t (after_lines ((read_of s).old.len + (read_of s).new.len + 4) s) [])
      (ap (λ (n : ℕ). eqb n 0) (sym h.number) ∙ number-some e.row))

  pub part-read : (l : Lengths) (h : ReadTo s (counts_of (Ok l)) old new done) (k : ℕ)
      → PastLines (l.old_len + l.new_len + 4) s k → take (length s - k) (drop k s) ≡ job_part s
  unfolding job_part
  part-read l h k past =
      take_all (length s - k) (drop k s) (omega (arith, length-drop k s))
      ∙ past.rest
      ∙ (λ j. after_lines (h.old-len j + h.new-len j + 4) s)
      ∙ sym (ap (λ (t : Bool). cond t (after_lines ((read_of s).old.len + (read_of s).new.len + 4) s) [])
      (ap (λ (n : ℕ). eqb n 0) (sym h.number)))
