-- What is read was written: the lines that reading gives have the bytes for their text.
-- Assumes nothing.
use mathlib.Core.Path.{◌≡◌, refl, sym, ap, ◌∙◌, subst}
use mathlib.Core.Bool.{Bool, true, false, cond}
use mathlib.Core.List.{List, [], ◌∷◌, reverse}
use Prim.Native.Nat.{ℕ}
use native.Mathlib.Omega.{arith}
use Rattle.version.specs.Limits.{Limits}
use Rattle.version.specs.declared.Version.{Version}
use Rattle.version.proofs.Limits.{low-short}
use Rattle.layout.specs.Text.{Lines, word_line, start_line, job_line, step_lines, done_lines, job_text, text}
use Rattle.layout.specs.Text.{ShortLines}
use Rattle.layout.specs.Points.{alive, next}
use Rattle.layout.specs.Parse.{Line, Parsed, no_line, no_lines, took, keep, in_order, at_end, run, parse}
use Rattle.layout.specs.declared.Word.TheVariants.{Old, New}
use Rattle.layout.specs.declared.Part.TheVariants.{OldRoute, NewRoute, JobPart}
use Rattle.layout.specs.declared.Point.{Point}
use Rattle.layout.specs.declared.Point.TheVariants.{Top, Open, Choice, Letters, Past, Digit, Digits, Gap}
use Rattle.layout.specs.declared.Point.TheVariants.{Closed, Lf, Stuck}
use Rattle.layout.proofs.Reversed.{steps_back, steps_back_lem, dones-back, shorts-back, forms-back}
use Rattle.layout.proofs.Prefix.{rest, headed, above, sofar, Shape, ShortLine}
use Rattle.layout.proofs.PrefixStep.{onward, no-start-short}

-- a sheet that has the text s, by lines with short numbers
pub record Written (v : Version) (s : List ℕ) (x : Lines) : Type 0 where
  pub same : s ≡ text v x
  pub short : ShortLines v x

pub not-read : (r : List ℕ) (x : Lines) → Parsed.broken r ≡ Parsed.read x → ⊥
not-read r x e = let z : ◌≡◌ {A = ℕ} 0 1 = cc in omega arith

whole : (v : Version) (t : Lines) → above v JobPart t [] ≡ text v (in_order t)
unfolding above headed text job_text step_lines done_lines
whole v t =
    ap (λ (y : List ℕ). word_line Old t.old_places (start_line v t.old_start (steps_back t.old
    (word_line New t.new_places (start_line v t.new_start (steps_back t.new (job_line y)))))))
    (sym (dones-back t.done [] []))
    ∙ ap (λ (y : List ℕ). word_line Old t.old_places (start_line v t.old_start (steps_back t.old
    (word_line New t.new_places (start_line v t.new_start y)))))
    (sym (steps_back_lem t.new [] (job_line (done_lines (reverse t.done) []))))
    ∙ ap (λ (y : List ℕ). word_line Old t.old_places (start_line v t.old_start y))
    (sym (steps_back_lem t.old [] (word_line New t.new_places (start_line v t.new_start
    (step_lines (reverse t.new) (job_line (done_lines (reverse t.done) [])))))))

module _ (v : Version) (limits : Limits v) where
  short-order : (t : Lines) → ShortLines v t → ShortLines v (in_order t)
  short-order t h = record {
    old_places = h.old_places;
    old_start = h.old_start;
    old = forms-back v t.old [] h.old tt;
    new_places = h.new_places;
    new_start = h.new_start;
    new = forms-back v t.new [] h.new tt;
    done =
        shorts-back v t.done [] h.done tt;
  }

  at-end : (p : Point) (c : Line) (t x : Lines) → ShortLines v t → at_end p t ≡ Parsed.read x
      → Written v (sofar v p c t []) x
  unfolding at_end sofar
  at-end Top c t x h e = absurd (not-read [] x e)
  at-end (Open OldRoute) c t x h e = absurd (not-read [] x e)
  at-end (Open NewRoute) c t x h e = absurd (not-read [] x e)
  at-end (Open JobPart) c t x h e =
      let z : in_order t ≡ x = cc in
      record { same = whole v t ∙ ap (text v) z; short = subst (λ (y : Lines). ShortLines v y) z (short-order t h) }
  at-end (Choice p) c t x h e = absurd (not-read [] x e)
  at-end (Letters w p k) c t x h e = absurd (not-read [] x e)
  at-end (Past w p) c t x h e = absurd (not-read [] x e)
  at-end (Digit w p) c t x h e = absurd (not-read [] x e)
  at-end (Digits w p k) c t x h e = absurd (not-read [] x e)
  at-end (Gap w p) c t x h e = absurd (not-read [] x e)
  at-end (Closed w p) c t x h e = absurd (not-read [] x e)
  at-end (Lf w p) c t x h e = absurd (not-read [] x e)
  at-end Stuck c t x h e = absurd (not-read [] x e)

  from-point : (s : List ℕ) (p : Point) (c : Line) (t x : Lines) → Shape v p c → ShortLine v (rest c) → ShortLines v t
      → run v p c t s ≡ Parsed.read x → Written v (sofar v p c t s) x
  unfolding run
  from-point [] p c t x shape line lines e = at-end p c t x lines e
  from-point (b ∷ s) p c t x shape line lines e =
      go (alive (next v p b)) refl e (from-point s (next v p b) (took p b c) (keep p c t) x)
    where
      go : (y : Bool) → alive (next v p b) ≡ y → cond y (run v (next v p b) (took p b c) (keep p c t) s)
          (Parsed.broken (b ∷ s)) ≡ Parsed.read x
          → (Shape v (next v p b) (took p b c) → ShortLine v (rest (took p b c)) → ShortLines v (keep p c t)
          → run v (next v p b) (took p b c) (keep p c t) s ≡ Parsed.read x
          → Written v (sofar v (next v p b) (took p b c) (keep p c t) s) x) → Written v (sofar v p c t (b ∷ s)) x
      go true l q ih =
          let on = onward v limits c t line lines p b shape l in
          let done = ih on.shape on.line on.lines q in
          record { same = sym (on.same s) ∙ done.same; short = done.short }
      go false l q ih = absurd (not-read (b ∷ s) x q)

  -- what reading accepts is the text of the lines that it gives
  pub sound : (s : List ℕ) (x : Lines) → parse v s ≡ Parsed.read x → Written v s x
  unfolding parse sofar
  sound s x e = from-point s Top no_line no_lines x tt (low-short v limits 0 (omega arith), (tt, (tt, (tt, tt))))
      (record {
        old_places = low-short v limits 0 (omega arith);
        old_start = no-start-short v;
        old = tt;
        new_places = low-short v limits 0 (omega arith);
        new_start = no-start-short v;
        new = tt;
        done = tt;
      }) e
