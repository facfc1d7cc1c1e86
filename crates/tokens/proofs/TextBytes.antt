-- A fixed text's bytes: reading goes on along its points, and breaks at the first byte that is not its own.
-- Assumes nothing.
use mathlib.Core.Path.{◌≡◌, refl, sym, ap, ◌∙◌, subst}
use mathlib.Core.Bool.{Bool, true, false, false≢true}
use mathlib.Core.List.{List, [], ◌∷◌}
use Prim.Native.Nat.{ℕ, zero, suc, ◌+◌, ◌*◌, ◌-◌, ◌≤◌, ◌<◌}
use native.Mathlib.Omega.{arith}
use native.Mathlib.Numerals.{add-one}
use mir.Syntax.{w8}
use mir.Val.{Fits}
use lib.Dec.{ltb}
use lib.ListN.{length, drop, get_or}
use borrow.Author.Tests.{ltb-true, ltb-false}
use Rattle.version.specs.declared.Version.{Version}
use Rattle.layout.specs.Text.{Lines}
use Rattle.layout.specs.Points.{alive, next}
use Rattle.layout.specs.Parse.{Line, took, keep, run}
use Rattle.layout.specs.declared.Point.{Point}
use Rattle.tokens.specs.inner.Tokens.{Reading, Breaks, Spells, TextTo, TextBreaks, Agrees, Agreeing, four}
use Rattle.tokens.proofs.Bytes.{byte-on, byte-stuck, bytes-over}

shifted : (s : List ℕ) (from b n : ℕ) (w : List ℕ) → Agrees s from (b ∷ w) (n + 1) → Agrees s (from + 1) w n
shifted s from b n w h j r = ap (λ (x : ℕ). get_or s x 0) (omega arith) ∙ h (j + 1) (omega (arith, r))
    ∙ ap (λ (x : ℕ). get_or (b ∷ w) x 0) (add-one j)

first_byte : (s : List ℕ) (from b n : ℕ) (w : List ℕ) → Agrees s from (b ∷ w) (n + 1) → get_or s from 0 ≡ b
first_byte s from b n w h = ap (λ (x : ℕ). get_or s x 0) (omega arith) ∙ h 0 (omega arith)

-- one byte of the text
step : (v : Version) (s : List ℕ) (i : ℕ) (p : Point) (c : Line) (t : Lines) (b : ℕ) → Reading v s i p c t
    → i < length s → get_or s i 0 ≡ b → alive (next v p b) ≡ true
    → Reading v s (i + 1) (next v p b) (took p b c) (keep p c t)
step v s i p c t b h room is live = subst (λ (x : ℕ). Reading v s (i + 1) (next v p b) (took p x c) (keep p c t)) is
    (byte-on v s i p c t h room (next v p b) (ap (next v p) is) live)

spells-on : (v : Version) (s : List ℕ) (w : List ℕ) (i : ℕ) (p : Point) (c : Line) (t : Lines) (q : Point) (d : Line)
    (u : Lines) → Spells v s i p c t w q d u → Agrees s i w (length w) → i + length w ≤ length s → Reading v s i p c t
    → Reading v s (i + length w) q d u
unfolding Spells
spells-on v s [] i p c t q d u e h r at =
    let z : i ≡ i + 0 = omega arith in
    record { within = omega (arith, r); same = at.same ∙ (λ j. run v (e.0 j) (e.1.0 j) (e.1.1 j) (drop (z j) s)) }
spells-on v s (b ∷ w) i p c t q d u way h r at =
    let h' = subst (λ (x : ℕ). Agrees s i (b ∷ w) x) (sym (add-one (length w))) h in
    let is = first_byte s i b (length w) w h' in
    let room : i < length s = omega (arith, r) in
    let e : i + 1 + length w ≡ i + suc (length w) = omega arith in
    subst (λ (x : ℕ). Reading v s x q d u) e
    (spells-on v s w (i + 1) (next v p b) (took p b c) (keep p c t) q d u (way.1.1.1 is)
    (shifted s i b (length w) w h') (omega (arith, r)) (step v s i p c t b at room is way.0))

spells-break : (v : Version) (s : List ℕ) (w : List ℕ) (i n : ℕ) (p : Point) (c : Line) (t : Lines) (q : Point)
    (d : Line) (u : Lines) → Spells v s i p c t w q d u → n < length w → Agrees s i w n → i + n ≤ length s
    → (i + n < length s → get_or s (i + n) 0 ≡ get_or w n 0 → ⊥) → Reading v s i p c t → Breaks v s (i + n)
unfolding Spells
spells-break v s [] i n p c t q d u way r h le far at = absurd (omega (arith, r))
spells-break v s (b ∷ w) i zero p c t q d u way r h le far at =
    let e : i ≡ i + 0 = omega arith in
    subst (λ (x : ℕ). Breaks v s x) e (by-room (ltb i (length s)) refl)
  where
    by-room : (x : Bool) → ltb i (length s) ≡ x → Breaks v s i
    by-room true x =
        let room = ltb-true i (length s) x in
        byte-stuck v s i p c t at room (way.1.0
        (λ is. far (omega (arith, room)) (ap (λ (y : ℕ). get_or s y 0) (omega arith) ∙ is)))
    by-room false x = let over = ltb-false i (length s) x in bytes-over v s i p c t at over (way.1.1.0 over)
spells-break v s (b ∷ w) i (suc n) p c t q d u way r h le far at =
    let h' = subst (λ (x : ℕ). Agrees s i (b ∷ w) x) (sym (add-one n)) h in
    let is = first_byte s i b n w h' in
    let room : i < length s = omega (arith, le) in
    let e : i + 1 + n ≡ i + suc n = omega arith in
    subst (λ (x : ℕ). Breaks v s x) e
    (spells-break v s w (i + 1) n (next v p b) (took p b c) (keep p c t) q d u (way.1.1.1 is) (omega (arith, r))
    (shifted s i b n w h') (omega (arith, le))
    (λ x y. far (omega (arith, x)) (ap (λ (m : ℕ). get_or s m 0) (omega arith) ∙ y))
    (step v s i p c t b at room is way.0))

-- ---- as the code meets them

pub record Agreed (s : List ℕ) (from : ℕ) (w : List ℕ) (i : ℕ) : Type 0 where
  pub short : i ≤ length w
  pub within : from + i ≤ length s
  pub agrees : Agrees s from w i

pub agreed-init : (s : List ℕ) (from : ℕ) (w : List ℕ) → from ≤ length s → Agreed s from w 0
agreed-init s from w h = record {
  short = omega arith;
  within = omega (arith, h);
  agrees = λ j r. absurd (omega (arith, r));
}

pub agreed-step : (s : List ℕ) (from : ℕ) (w : List ℕ) (i : ℕ) → Agreed s from w i → i < length w → i < length s - from
    → get_or s (from + i) 0 ≡ get_or w i 0 → Agreed s from w (i + 1)
agreed-step s from w i h r q e = record { short = omega (arith, r); within = omega (arith, q); agrees = all }
  where
    all : Agrees s from w (i + 1)
    all j x = by (ltb j i) refl
      where
        by : (y : Bool) → ltb j i ≡ y → get_or s (from + j) 0 ≡ get_or w j 0
        by true y = h.agrees j (ltb-true j i y)
        by false y = let z : j ≡ i = omega (arith, x, ltb-false j i y) in ap (λ (u : ℕ). get_or s (from + u) 0) z ∙ e
            ∙ ap (λ (u : ℕ). get_or w u 0) (sym z)

pub agreed-done : (s : List ℕ) (from : ℕ) (w : List ℕ) (i : ℕ) → Agreed s from w i → length w ≤ i
    → TextTo s from w (from + length w)
agreed-done s from w i h r =
    let e : i ≡ length w = omega (arith, r, h.short) in
    let within : from + length w ≤ length s = omega (arith, e, h.within) in
    record {
      past = omega arith;
      within = within;
      goes = λ v p c t q d u way at.
          spells-on v s w from p c t q d u way (subst (λ (x : ℕ). Agrees s from w x) e h.agrees) within at;
    }

text-breaks : (s : List ℕ) (from : ℕ) (w : List ℕ) (i : ℕ) → Agreed s from w i → i < length w
    → (from + i < length s → get_or s (from + i) 0 ≡ get_or w i 0 → ⊥) → TextBreaks s from w (from + i)
text-breaks s from w i h r far =
    record {
      later = omega arith;
      within = h.within;
      goes = λ v p c t q d u way at. spells-break v s w from i p c t q d u way r h.agrees h.within far at;
    }

pub text-over : (s : List ℕ) (from : ℕ) (w : List ℕ) (i : ℕ) → Agreed s from w i → i < length w → length s - from ≤ i
    → TextBreaks s from w (from + i)
text-over s from w i h r over = text-breaks s from w i h r (λ x. absurd (omega (arith, x, over)))

pub text-other : (s : List ℕ) (from : ℕ) (w : List ℕ) (i : ℕ) → Agreed s from w i → i < length w
    → (get_or s (from + i) 0 ≡ get_or w i 0 → ⊥) → TextBreaks s from w (from + i)
text-other s from w i h r far = text-breaks s from w i h r (λ _. far)

-- ---- four bytes at a time

module _ (a b c d a' b' c' d' : ℕ) (ha : Fits w8 a) (hb : Fits w8 b) (hc : Fits w8 c) (hd : Fits w8 d)
    (ha' : Fits w8 a') (hb' : Fits w8 b') (hc' : Fits w8 c') (hd' : Fits w8 d') where
  four_same : a + b * 256 + c * 65536 + d * 16777216 ≡ a' + b' * 256 + c' * 65536 + d' * 16777216
      → (a ≡ a') × (b ≡ b') × (c ≡ c') × (d ≡ d')
  four_same e = (omega arith, omega arith, omega arith, omega arith)

module _ (s : List ℕ) (at : ℕ) (w : List ℕ) (b : ℕ) (hs : (j : ℕ) → Fits w8 (get_or s j 0))
    (hw : (j : ℕ) → Fits w8 (get_or w j 0)) (e : four s at ≡ four w b) where
  pick : (k : ℕ) → k < 4 → get_or s (at + k) 0 ≡ get_or w (b + k) 0
  pick k r =
      let same = four_same _ _ _ _ _ _ _ _ (hs at) (hs (at + 1)) (hs (at + 2)) (hs (at + 3)) (hw b) (hw (b + 1))
      (hw (b + 2)) (hw (b + 3)) e in go k r same
    where
      go : (k : ℕ) → k < 4 → (get_or s at 0 ≡ get_or w b 0) × (get_or s (at + 1) 0 ≡ get_or w (b + 1) 0)
          × (get_or s (at + 2) 0 ≡ get_or w (b + 2) 0) × (get_or s (at + 3) 0 ≡ get_or w (b + 3) 0)
          → get_or s (at + k) 0 ≡ get_or w (b + k) 0
      go zero r h =
          let x : at + 0 ≡ at = omega arith in
          let y : b ≡ b + 0 = omega arith in
          ap (λ (x : ℕ). get_or s x 0) x ∙ h.0 ∙ ap (λ (x : ℕ). get_or w x 0) y
      go (suc zero) r h = h.1
      go (suc (suc zero)) r h = h.2
      go (suc (suc (suc zero))) r h = h.3
      go (suc (suc (suc (suc k)))) r h = absurd (omega (arith, r))

pub agreeing-told : (s : List ℕ) (from : ℕ) (w : List ℕ) (a b c d : ℕ) → ((j : ℕ) → Fits w8 (get_or s j 0))
    → ((j : ℕ) → Fits w8 (get_or w j 0)) → from ≤ length s → 4 ≤ length w → length w ≤ 8 → length w ≤ length s - from
    → a ≡ four s from → b ≡ four w 0 → a ≡ b → c ≡ four s (from + length w - 4) → d ≡ four w (length w - 4) → c ≡ d
    → Agreeing s from w true
agreeing-told s from w a b c d hs hw in-s some few room a-is b-is first c-is d-is last =
    record { agrees = λ _ j r. go j r (ltb j 4) refl; within = λ _. omega (arith, in-s, room) }
  where
    go : (j : ℕ) → j < length w → (x : Bool) → ltb j 4 ≡ x → get_or s (from + j) 0 ≡ get_or w j 0
    go j r true y =
        let u : 0 + j ≡ j = omega arith in
        pick s from w 0 hs hw (sym a-is ∙ first ∙ b-is) j (ltb-true j 4 y) ∙ ap (λ (x : ℕ). get_or w x 0) u
    go j r false y =
        let low = ltb-false j 4 y in
        let u : from + j ≡ from + length w - 4 + (j - (length w - 4)) = omega (arith, some, few, low, r) in
        let v : length w - 4 + (j - (length w - 4)) ≡ j = omega (arith, some, few, low, r) in
        ap (λ (x : ℕ). get_or s x 0) u
        ∙ pick s (from + length w - 4) w (length w - 4) hs hw (sym c-is ∙ last ∙ d-is) (j - (length w - 4))
        (omega (arith, some, few, low, r))
        ∙ ap (λ (x : ℕ). get_or w x 0) v

pub agreeing-not : (s : List ℕ) (from : ℕ) (w : List ℕ) → Agreeing s from w false
agreeing-not s from w = record { agrees = λ e. absurd (false≢true e); within = λ e. absurd (false≢true e) }

pub text-told : (s : List ℕ) (from : ℕ) (w : List ℕ) (x : Bool) → Agreeing s from w x → x ≡ true
    → TextTo s from w (from + length w)
text-told s from w x h e = agreed-done s from w (length w)
    (record { short = omega arith; within = h.within e; agrees = h.agrees e }) (omega arith)
