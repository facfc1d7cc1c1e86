-- Row 1's offset: where reading stops, everything before begins some sheet, and nothing longer does.
-- Assumes nothing.
use mathlib.Core.Path.{◌≡◌, refl, sym, ap, ◌∙◌, subst}
use mathlib.Core.Bool.{Bool, true, false, cond}
use mathlib.Core.List.{List, [], ◌∷◌, ◌++◌, append_assoc}
use Prim.Native.Nat.{ℕ, suc, ◌-◌, ◌<◌}
use native.Mathlib.Omega.{arith}
use lib.ListN.{length, take, length-append}
use lib.Seq.{take_at}
use Rattle.version.specs.Limits.{Limits}
use Rattle.version.specs.declared.Version.{Version}
use Rattle.layout.specs.Text.{Lines, text}
use Rattle.layout.specs.Points.{alive, next}
use Rattle.layout.specs.Parse.{Line, Parsed, no_line, no_lines, took, keep, at_end, run, parse}
use Rattle.layout.specs.Begins.{Begins, FirstBroken}
use Rattle.layout.specs.declared.Part.TheVariants.{OldRoute, NewRoute, JobPart}
use Rattle.layout.specs.declared.Point.{Point}
use Rattle.layout.specs.declared.Point.TheVariants.{Top, Open, Choice, Letters, Past, Digit, Digits, Gap}
use Rattle.layout.specs.declared.Point.TheVariants.{Closed, Lf, Stuck}
use Rattle.layout.proofs.Complete.{complete}
use Rattle.layout.proofs.Sound.{sound, not-read}
use Rattle.layout.proofs.Ends.{good, stays-good, ends}

module _ (v : Version) (limits : Limits v) where
  -- reading stops in front of r: where it stands there, whatever follows
  record Stops (p : Point) (c : Line) (t : Lines) (s r : List ℕ) : Type 0 where
    before : List ℕ
    split : s ≡ before ++ r
    point : Point
    line : Line
    lines : Lines
    on : (q : List ℕ) → run v p c t (before ++ q) ≡ run v point line lines q
    fine : good point ≡ true
    stuck : (b : ℕ) (k : List ℕ) → r ≡ b ∷ k → alive (next v point b) ≡ false

  no_more : (p : Point) (t : Lines) (r : List ℕ) → at_end p t ≡ Parsed.broken r → r ≡ []
  unfolding at_end
  no_more Top t r e = cc
  no_more (Open OldRoute) t r e = cc
  no_more (Open NewRoute) t r e = cc
  no_more (Open JobPart) t r e = cc
  no_more (Choice p) t r e = cc
  no_more (Letters w p k) t r e = cc
  no_more (Past w p) t r e = cc
  no_more (Digit w p) t r e = cc
  no_more (Digits w p k) t r e = cc
  no_more (Gap w p) t r e = cc
  no_more (Closed w p) t r e = cc
  no_more (Lf w p) t r e = cc
  no_more Stuck t r e = cc

  stops : (s : List ℕ) (p : Point) (c : Line) (t : Lines) (r : List ℕ) → good p ≡ true → run v p c t s ≡ Parsed.broken r
      → Stops p c t s r
  unfolding run
  stops [] p c t r g e =
      record {
        before = [];
        split = sym (no_more p t r e);
        point = p;
        line = c;
        lines = t;
        on = λ q. refl;
        fine = g;
        stuck = λ b k z. cc (no_more p t r e);
      }
  stops (b ∷ s) p c t r g e = go (alive (next v p b)) refl e (stops s (next v p b) (took p b c) (keep p c t) r)
    where
      go : (x : Bool) → alive (next v p b) ≡ x → cond x (run v (next v p b) (took p b c) (keep p c t) s)
          (Parsed.broken (b ∷ s)) ≡ Parsed.broken r
          → (good (next v p b) ≡ true → run v (next v p b) (took p b c) (keep p c t) s ≡ Parsed.broken r
          → Stops (next v p b) (took p b c) (keep p c t) s r) → Stops p c t (b ∷ s) r
      go true l q ih =
          let on = ih (stays-good v p b g l) q in
          record {
            before = b ∷ on.before;
            split = ap (λ (k : List ℕ). b ∷ k) on.split;
            point = on.point;
            line = on.line;
            lines = on.lines;
            on = λ k. ap (λ (x : Bool). cond x (run v (next v p b) (took p b c) (keep p c t) (on.before ++ k))
                (Parsed.broken (b ∷ (on.before ++ k)))) l ∙ on.on k;
            fine = on.fine;
            stuck = on.stuck;
          }
      go false l q ih =
          let same : b ∷ s ≡ r = cc in
          record {
            before = [];
            split = same;
            point = p;
            line = c;
            lines = t;
            on = λ k. refl;
            fine = g;
            stuck = λ a k z. let e : b ≡ a = cc in subst (λ (x : ℕ). alive (next v p x) ≡ false) e l;
          }

  -- the bytes before the stop begin a sheet: the point's own ending makes one
  begins-before : (s r : List ℕ) (on : Stops Top no_line no_lines s r) → Begins v on.before
  unfolding parse
  begins-before s r on =
      let end = ends v on.point on.line on.lines on.fine in
      let made = sound v limits (on.before ++ end.ending) end.lines (on.on end.ending ∙ end.reads) in
      record { rest = end.ending; sheet = record { lines = end.lines; short = made.short; same = made.same } }

  -- no sheet goes on with the byte behind the stop: reading its text would stop there too
  no_longer : (s r : List ℕ) (on : Stops Top no_line no_lines s r) (b : ℕ) (k : List ℕ) → r ≡ b ∷ k
      → Begins v (on.before ++ (b ∷ [])) → ⊥
  unfolding parse run
  no_longer s r on b k e begun =
      let sheet = begun.sheet in
      let bytes : on.before ++ (b ∷ begun.rest) ≡ text v sheet.lines =
      sym (append_assoc on.before (b ∷ []) begun.rest) ∙ sheet.same in
      let halt : run v on.point on.line on.lines (b ∷ begun.rest) ≡ Parsed.broken (b ∷ begun.rest) =
      ap (λ (x : Bool). cond x (run v (next v on.point b) (took on.point b on.line)
      (keep on.point on.line on.lines) begun.rest) (Parsed.broken (b ∷ begun.rest))) (on.stuck b k e)
      in
      not-read (b ∷ begun.rest) sheet.lines (sym halt ∙ sym (on.on (b ∷ begun.rest)) ∙ ap (parse v) bytes
      ∙ complete v limits sheet.lines sheet.short)

  -- the offset is the first byte where no sheet begins so, or the length
  pub first-broken : (s r : List ℕ) → parse v s ≡ Parsed.broken r → FirstBroken v s (length s - length r)
  unfolding parse
  first-broken s r e = go (stops s Top no_line no_lines r (unfold good in refl) e)
    where
      go : Stops Top no_line no_lines s r → FirstBroken v s (length s - length r)
      go on =
          record {
            within = omega arith;
            begins = subst (Begins v) (sym (ap (λ (l : List ℕ). take (length s - length r) l) on.split
                ∙ take_at on.before r (length s - length r) size)) (begins-before s r on);
            no_longer = longer r refl;
            no-sheet = λ sheet. not-read r sheet.lines
                (sym e ∙ ap (parse v) sheet.same ∙ complete v limits sheet.lines sheet.short);
          }
        where
          size : length on.before ≡ length s - length r
          size = omega (arith, ap length on.split ∙ length-append on.before r)

          longer : (k : List ℕ) → r ≡ k → length s - length r < length s → Begins v (take (suc (length s - length r)) s)
              → ⊥
          longer [] z room h = absurd (omega (arith, ap length z))
          longer (b ∷ k) z room h = no_longer s r on b k z
              (subst (Begins v) (ap (λ (l : List ℕ). take (suc (length s - length r)) l)
              (on.split ∙ ap (λ (l : List ℕ). on.before ++ l) z ∙ sym (append_assoc on.before (b ∷ []) k))
              ∙ take_at (on.before ++ (b ∷ [])) k (suc (length s - length r))
              (length-append on.before (b ∷ []) ∙ omega (arith, size))) h)
