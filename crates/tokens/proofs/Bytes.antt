-- Reading, one byte on.
-- Assumes nothing.
use mathlib.Core.Path.{◌≡◌, sym, ap, ◌∙◌, subst}
use mathlib.Core.Bool.{Bool, true, cond}
use mathlib.Core.List.{List, [], ◌∷◌}
use Prim.Native.Nat.{ℕ, ◌+◌, ◌≤◌, ◌<◌}
use native.Mathlib.Omega.{arith}
use native.Mathlib.Numerals.{add-one}
use lib.ListN.{length, drop, get_or, drop_of_length-le}
use lib.Seq.{drop-cons}
use Rattle.std.specs.Prelude.{Result, Ok, Err, IsErrAnd}
use Rattle.version.specs.declared.Version.{Version}
use Rattle.layout.specs.Text.{Lines}
use Rattle.layout.specs.Points.{alive, next}
use Rattle.layout.specs.Parse.{Line, Parsed, took, keep, at_end, run, parse}
use Rattle.layout.specs.declared.Point.{Point}
use Rattle.layout.specs.declared.Point.TheVariants.{Stuck}
use Rattle.tokens.specs.inner.Tokens.{Reading, Breaks}
use Rattle.tokens.specs.declared.Broken.{Broken}

module _ (v : Version) (s : List ℕ) (i : ℕ) (p : Point) (c : Line) (t : Lines) (h : Reading v s i p c t) where
  here : i < length s → parse v s ≡ run v p c t (get_or s i 0 ∷ drop (i + 1) s)
  here room = h.same ∙ ap (run v p c t) (drop-cons s i 0 room
      ∙ ap (λ (m : ℕ). get_or s i 0 ∷ drop m s) (sym (add-one i)))

  pub byte-on : i < length s → (q : Point) → next v p (get_or s i 0) ≡ q → alive q ≡ true
      → Reading v s (i + 1) q (took p (get_or s i 0) c) (keep p c t)
  unfolding run
  byte-on room q e live =
      record {
        within = omega (arith, room);
        same = here room
            ∙ ap (λ (x : Bool). cond x (run v (next v p (get_or s i 0)) (took p (get_or s i 0) c) (keep p c t)
            (drop (i + 1) s)) (Parsed.broken (get_or s i 0 ∷ drop (i + 1) s))) (ap alive e ∙ live)
            ∙ ap (λ (x : Point). run v x (took p (get_or s i 0) c) (keep p c t) (drop (i + 1) s)) e;
      }

  pub byte-stuck : i < length s → next v p (get_or s i 0) ≡ Stuck → Breaks v s i
  unfolding run alive
  byte-stuck room e =
      record {
        within = h.within;
        same = here room
            ∙ ap (λ (x : Bool). cond x (run v (next v p (get_or s i 0)) (took p (get_or s i 0) c) (keep p c t)
            (drop (i + 1) s)) (Parsed.broken (get_or s i 0 ∷ drop (i + 1) s))) (ap alive e)
            ∙ ap Parsed.broken (sym (drop-cons s i 0 room ∙ ap (λ (m : ℕ). get_or s i 0 ∷ drop m s) (sym (add-one i))));
      }

  pub bytes-over : length s ≤ i → at_end p t ≡ Parsed.broken [] → Breaks v s i
  unfolding run
  bytes-over over e =
      let none : drop i s ≡ [] = drop_of_length-le s over in
      record { within = h.within; same = h.same ∙ ap (run v p c t) none ∙ e ∙ ap Parsed.broken (sym none) }

-- what a `?` hands on is the break that it met
pub handed : {T : Type 0} (P : Result T Broken → Type 0) (r : Result T Broken) (e : Broken) → IsErrAnd r (λ y. y ≡ e)
    → P (Err e) → P r
handed P (Ok x) e h p = absurd h
handed P (Err y) e h p = subst (λ (z : Broken). P (Err z)) (sym h) p
