-- A number's bytes: reading goes on from digit to digit, and stops where the reader does.
-- Assumes nothing.
use mathlib.Core.Path.{◌≡◌, refl, sym, ap, ◌∙◌, subst}
use mathlib.Core.Bool.{Bool, true, false, cond, true≢false}
use mathlib.Core.List.{List, [], ◌∷◌}
use Prim.Native.Nat.{ℕ, suc, ◌+◌, ◌-◌, ◌*◌, ◌^◌, ◌≤◌, ◌<◌}
use native.Mathlib.Omega.{arith}
use native.Mathlib.Nat.{pow-suc}
use lib.Dec.{ltb}
use lib.ListN.{length, take, drop, get_or, drop_of_length-le, length-take, length-drop}
use lib.Seq.{drop-cons}
use borrow.Author.Tests.{eq-eqb, ne_eqb, lt-ltb, ltb-true, ltb-false}
use Rattle.std.specs.Char.{is_ascii_digit}
use Rattle.std.proofs.lemmas.List.{get_or_read, get_or-take, get_or-drop}
use Rattle.version.specs.Limits.{Limits}
use Rattle.version.specs.declared.Version.{Version}
use Rattle.version.proofs.Tens.{tens-mono}
use Rattle.layout.specs.Text.{Lines}
use Rattle.layout.specs.Points.{digit, alive, next, first, more, ended}
use Rattle.layout.specs.Parse.{Line, Parsed, with_num, grown, stored, took, keep, at_end, run}
use Rattle.layout.specs.declared.Word.{Word}
use Rattle.layout.specs.declared.Part.{Part}
use Rattle.layout.specs.declared.Point.{Point}
use Rattle.layout.specs.declared.Point.TheVariants.{Digit, Digits, Stuck}
use Rattle.layout.proofs.PrefixStep.{digit-bounds}
use Rattle.tokens.specs.inner.Tokens.{Reading, Breaks, NumberTo, NumberBreaks}
use Rattle.tokens.proofs.Bytes.{byte-on, byte-stuck, bytes-over}

-- ---- digits

module _ (v : Version) (s : List ℕ) (from : ℕ) (room : from < length s) (w : Word) (q : Part) (c : Line) (t : Lines)
    (h : Reading v s from (Digit w q) c t) where
  first-digit : digit (get_or s from 0) ≡ true → (get_or s from 0 ≡ 48 → ⊥)
      → Reading v s (from + 1) (Digits w q (v.digits - 1)) (with_num (get_or s from 0 - 48) c) t
  unfolding next first took keep alive
  first-digit d far =
      byte-on v s from (Digit w q) c t h room (Digits w q (v.digits - 1))
      (ap (λ (x : Bool). cond x (Digits w q 0) (cond (digit (get_or s from 0)) (Digits w q (v.digits - 1)) Stuck))
      (ne_eqb (get_or s from 0) 48 far)
      ∙ ap (λ (x : Bool). cond x (Digits w q (v.digits - 1)) Stuck) d)
      refl

  zero-digit : get_or s from 0 ≡ 48 → Reading v s (from + 1) (Digits w q 0) (with_num (get_or s from 0 - 48) c) t
  unfolding next first took keep alive
  zero-digit e =
      byte-on v s from (Digit w q) c t h room (Digits w q 0)
      (ap (λ (x : Bool). cond x (Digits w q 0) (cond (digit (get_or s from 0)) (Digits w q (v.digits - 1)) Stuck))
      (eq-eqb (get_or s from 0) 48 e)) refl

  no_digit : digit (get_or s from 0) ≡ false → Breaks v s from
  unfolding next first digit
  no_digit d =
      byte-stuck v s from (Digit w q) c t h room
      (ap (λ (x : Bool). cond x (Digits w q 0) (cond (digit (get_or s from 0)) (Digits w q (v.digits - 1)) Stuck))
      (ne_eqb (get_or s from 0) 48 (λ e. true≢false (sym (ap digit e) ∙ d)))
      ∙ ap (λ (x : Bool). cond x (Digits w q (v.digits - 1)) Stuck) d)

module _ (v : Version) (s : List ℕ) (w : Word) (q : Part) (c : Line) (t : Lines) (k n i : ℕ)
    (h : Reading v s i (Digits w q k) (with_num n c) t) where
  -- one more digit
  grows : i < length s → digit (get_or s i 0) ≡ true → 1 ≤ k
      → Reading v s (i + 1) (Digits w q (k - 1)) (with_num (n * 10 + (get_or s i 0 - 48)) c) t
  unfolding next more took keep alive
  grows room d few =
      subst (λ (x : Line). Reading v s (i + 1) (Digits w q (k - 1)) x t)
      (ap (λ (x : Bool). cond x (with_num (grown n (get_or s i 0)) c) (stored w (with_num n c))) d)
      (byte-on v s i (Digits w q k) (with_num n c) t h room (Digits w q (k - 1))
      (ap (λ (x : Bool). cond x (cond (ltb 0 k) (Digits w q (k - 1)) Stuck) (ended w q (get_or s i 0))) d
      ∙ ap (λ (x : Bool). cond x (Digits w q (k - 1)) Stuck) (lt-ltb 0 k few))
      refl)

  more_same : (b : ℕ) → digit b ≡ false → more w q k b ≡ more w q 0 b
  unfolding more
  more_same b d =
      ap (λ (x : Bool). cond x (cond (ltb 0 k) (Digits w q (k - 1)) Stuck) (ended w q b)) d
      ∙ sym (ap (λ (x : Bool). cond x (cond (ltb 0 0) (Digits w q (0 - 1)) Stuck) (ended w q b)) d)

  run-same : (b : ℕ) (l : List ℕ) → digit b ≡ false
      → run v (Digits w q k) (with_num n c) t (b ∷ l) ≡ run v (Digits w q 0) (with_num n c) t (b ∷ l)
  unfolding run next took keep
  run-same b l d = ap (λ (x : Point). cond (alive x)
      (run v x (cond (digit b) (with_num (grown n b) c) (stored w (with_num n c))) t l) (Parsed.broken (b ∷ l)))
      (more_same b d)

  -- where no digit does follow, it is as where none may
  full : (i < length s → digit (get_or s i 0) ≡ true → k ≡ 0) → Reading v s i (Digits w q 0) (with_num n c) t
  unfolding run at_end
  full stop = record { within = h.within; same = h.same ∙ by-room (ltb i (length s)) refl }
    where
      by-digit : i < length s → (x : Bool) → digit (get_or s i 0) ≡ x
          → run v (Digits w q k) (with_num n c) t (drop i s) ≡ run v (Digits w q 0) (with_num n c) t (drop i s)
      by-digit room true d = ap (λ (m : ℕ). run v (Digits w q m) (with_num n c) t (drop i s)) (stop room d)
      by-digit room false d =
          let here = drop-cons s i 0 room in
          ap (run v (Digits w q k) (with_num n c) t) here ∙ run-same (get_or s i 0) (drop (suc i) s) d
          ∙ sym (ap (run v (Digits w q 0) (with_num n c) t) here)

      by-room : (x : Bool) → ltb i (length s) ≡ x
          → run v (Digits w q k) (with_num n c) t (drop i s) ≡ run v (Digits w q 0) (with_num n c) t (drop i s)
      by-room true e = by-digit (ltb-true i (length s) e) (digit (get_or s i 0)) refl
      by-room false e =
          let none : drop i s ≡ [] = drop_of_length-le s (ltb-false i (length s) e) in
          ap (run v (Digits w q k) (with_num n c) t) none ∙ sym (ap (run v (Digits w q 0) (with_num n c) t) none)

-- the bytes past the first digit, as the loop goes over them
abbrev pub rest : List ℕ → ℕ → List ℕ
rest s from = take (length s - (from + 1)) (drop (from + 1) s)

module _ (s : List ℕ) (from i : ℕ) (turn : i < length (rest s from)) where
  rest-room : from + 1 + i < length s
  rest-room = omega (arith, length-take {A = ℕ}, length-drop {A = ℕ})

  rest-byte : get_or (rest s from) i 0 ≡ get_or s (from + 1 + i) 0
  rest-byte = get_or-take (length s - (from + 1)) (drop (from + 1) s) i 0 (omega (arith, rest-room))
      ∙ get_or-drop (from + 1) s i 0

ascii-digit : (b : ℕ) → is_ascii_digit b ≡ digit b
unfolding digit
ascii-digit b = refl

-- ---- the loop, and its ends: reading stands past the first digit and i more, which make n, and so many may follow

pub record Counts (v : Version) (s : List ℕ) (from n i left : ℕ) : Type 0 where
  pub limits : Limits v
  pub within : from + 1 + i ≤ length s
  pub few : left < v.digits
  pub below : n < 10 ^ (v.digits - left)
  pub goes : (w : Word) (q : Part) (c : Line) (t : Lines) → Reading v s from (Digit w q) c t
      → Reading v s (from + 1 + i) (Digits w q left) (with_num n c) t

module _ (v : Version) (limits : Limits v) (s : List ℕ) (from b n : ℕ) (room : from < length s)
    (here : b ≡ get_or s from b) (val : n ≡ b - 48) where
  byte : b ≡ get_or s from 0
  byte = get_or_read s from b room here 0

  value : n ≡ get_or s from 0 - 48
  value = val ∙ ap (λ (x : ℕ). x - 48) byte

  pub number-zero : b ≡ 48 → NumberTo v s from (record { at = from + 1; value = n })
  number-zero e =
      record {
        later = omega arith;
        within = omega (arith, room);
        small = omega (arith, e, val);
        goes = λ w q c t h. subst (λ (m : ℕ). Reading v s (from + 1) (Digits w q 0) (with_num m c) t) (sym value)
            (zero-digit v s from room w q c t h (sym byte ∙ e));
      }

  pub counts-init : (x : Bool) → x ≡ is_ascii_digit b → x ≡ true → (b ≡ 48 → ⊥) → Counts v s from n 0 (v.digits - 1)
  counts-init x is e far =
      let d : digit (get_or s from 0) ≡ true = ap digit (sym byte) ∙ sym (ascii-digit b) ∙ sym is ∙ e in
      let low = digit-bounds (get_or s from 0) d in
      let one : 1 ≡ v.digits - (v.digits - 1) = omega (arith, limits.two) in
      let same : from + 1 ≡ from + 1 + 0 = omega arith in
      record {
        limits = limits;
        within = omega (arith, room);
        few = omega (arith, limits.two);
        below = subst (λ (k : ℕ). n < 10 ^ k) one (omega (arith, value, low));
        goes = λ w q c t h. subst (λ (i : ℕ). Reading v s i (Digits w q (v.digits - 1)) (with_num n c) t) same
            (subst (λ (m : ℕ). Reading v s (from + 1) (Digits w q (v.digits - 1)) (with_num m c) t) (sym value)
            (first-digit v s from room w q c t h d (λ z. far (byte ∙ z))));
      }

module _ (v : Version) (s : List ℕ) (from n i left : ℕ) (h : Counts v s from n i left) where
  -- a number that may grow has at most nine digits: one more fits 64 bits
  pub counts-low : (left ≡ 0 → ⊥) → n < 10 ^ 9
  counts-low more = omega (arith, h.below, tens-mono (v.digits - left) 9 (omega (arith, h.few, h.limits.ten)))

  pub counts-step : (d : ℕ) (x : Bool) → i < length (rest s from) → x ≡ is_ascii_digit (get_or (rest s from) i 0)
      → x ≡ true → (left ≡ 0 → ⊥) → d ≡ get_or (rest s from) i 0 - 48
      → Counts v s from (n * 10 + d) (i + 1) (left - 1)
  counts-step d x turn is e more val =
      let room = rest-room s from i turn in
      let byte = rest-byte s from i turn in
      let dig : digit (get_or s (from + 1 + i) 0) ≡ true = ap digit (sym byte) ∙ sym (ascii-digit _) ∙ sym is ∙ e in
      let low = digit-bounds (get_or s (from + 1 + i) 0) dig in
      let value : d ≡ get_or s (from + 1 + i) 0 - 48 = val ∙ ap (λ (k : ℕ). k - 48) byte in
      let one : v.digits - (left - 1) ≡ suc (v.digits - left) = omega (arith, h.few) in
      let up : 10 ^ (v.digits - (left - 1)) ≡ 10 ^ (v.digits - left) * 10 =
      ap (λ (k : ℕ). 10 ^ k) one ∙ pow-suc 10 (v.digits - left) in
      let same : from + 1 + i + 1 ≡ from + 1 + (i + 1) = omega arith in
      record {
        limits = h.limits;
        within = omega (arith, room);
        few = omega (arith, h.few);
        below = omega (arith, up, value, h.below, low);
        goes = λ w p c t r. subst (λ (m : ℕ). Reading v s m (Digits w p (left - 1)) (with_num (n * 10 + d) c) t) same
            (subst (λ (m : ℕ). Reading v s (from + 1 + i + 1) (Digits w p (left - 1)) (with_num (n * 10 + m) c) t)
            (sym value)
            (grows v s w p c t left n (from + 1 + i) (h.goes w p c t r) room dig (omega arith)));
      }

  counts-done : (from + 1 + i < length s → digit (get_or s (from + 1 + i) 0) ≡ true → left ≡ 0)
      → NumberTo v s from (record { at = from + 1 + i; value = n })
  counts-done stop =
      record {
        later = omega arith;
        within = h.within;
        small = omega (arith, h.below, tens-mono (v.digits - left) 10 (omega (arith, h.limits.ten)));
        goes = λ w q c t r. full v s w q c t left n (from + 1 + i) (h.goes w q c t r) stop;
      }

  pub counts-other : (x : Bool) → i < length (rest s from) → x ≡ is_ascii_digit (get_or (rest s from) i 0) → x ≡ false
      → NumberTo v s from (record { at = from + 1 + i; value = n })
  counts-other x turn is e = counts-done (λ r d. absurd (true≢false (sym d ∙ ap digit (sym (rest-byte s from i turn))
      ∙ sym (ascii-digit _) ∙ sym is ∙ e)))

  pub counts-full : left ≡ 0 → NumberTo v s from (record { at = from + 1 + i; value = n })
  counts-full none = counts-done (λ r d. none)

  pub counts-over : length (rest s from) ≤ i → NumberTo v s from (record { at = length s; value = n })
  counts-over over =
      let end : from + 1 + i ≡ length s = omega (arith, h.within, length-take {A = ℕ}, length-drop {A = ℕ}) in
      subst (λ (k : ℕ). NumberTo v s from (record { at = k; value = n })) end
      (counts-done (λ r d. absurd (omega (arith, end, r))))

-- ---- none begins there

module _ (v : Version) (s : List ℕ) (from : ℕ) (within : from ≤ length s) where
  pub number-over : length s ≤ from → NumberBreaks v s from from
  unfolding at_end
  number-over over = record {
    later = omega arith;
    within = within;
    goes = λ w q c t h. bytes-over v s from (Digit w q) c t h over refl;
  }

  pub number-other : (b : ℕ) (x : Bool) → from < length s → b ≡ get_or s from b → x ≡ is_ascii_digit b → x ≡ false
      → NumberBreaks v s from from
  number-other b x room here is e =
      let byte = get_or_read s from b room here 0 in
      let d : digit (get_or s from 0) ≡ false = ap digit (sym byte) ∙ sym (ascii-digit b) ∙ sym is ∙ e in
      record {
        later = omega arith;
        within = within;
        goes = λ w q c t h. no_digit v s from room w q c t h d;
      }
