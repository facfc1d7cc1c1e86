-- A loop that emits a text for each entry of a list, or for each member of a mask, as `over` has it.
-- Assumes nothing.
use mathlib.Core.Path.{◌≡◌, refl, sym, ap, ◌∙◌}
use mathlib.Core.List.{List, [], ◌∷◌, ◌++◌}
use Prim.Native.Nat.{ℕ, ◌+◌, ◌≤◌, ◌<◌}
use native.Mathlib.Omega.{arith}
use native.Mathlib.Numerals.{add-one}
use lib.ListN.{length, get_or, drop, length-append, drop_of_length-le}
use lib.Seq.{sets, drop-cons}
use Rattle.mask.specs.Mask.{members}
use Rattle.mask.specs.Members.{Takes}
use Rattle.mask.proofs.FromLowest.{members-none}
use Rattle.emit.specs.Emit.{Room, Emits}
use Rattle.emit.specs.Numbers.{entry, over}
use Rattle.emit.proofs.Chains.{emits-length, sets-append}

-- where `rest` is written next, the whole text is written, and there is room for it
pub record Left (rest out : List ℕ) (at : ℕ) (whole start : List ℕ) (first : ℕ) : Type 0 where
  pub bytes : sets out at rest ≡ sets start first whole
  pub place : at + length rest ≡ first + length whole
  pub same : length out ≡ length start
  pub fits : first + length whole ≤ length start

pub left-start : {t o : List ℕ} {n : ℕ} → Room t o n → Left t o n t o n
left-start r = record { bytes = refl; place = refl; same = refl; fits = r.fits }

pub left_as : {s t o u o₀ : List ℕ} {n n₀ : ℕ} → s ≡ t → Left s o n u o₀ n₀ → Left t o n u o₀ n₀
left_as e l = rw e at l

pub left-room : (s t : List ℕ) {o u o₀ : List ℕ} {n n₀ : ℕ} → Left (s ++ t) o n u o₀ n₀ → Room s o n
left-room s t l = record { fits = omega (arith, l.place, l.same, l.fits, length-append s t) }

pub left-turn : {s t o p u o₀ : List ℕ} {n m n₀ : ℕ} → Left (s ++ t) o n u o₀ n₀ → Emits s o n p m → Left t p m u o₀ n₀
left-turn {s} {t} {o} {n = n} l w =
    record {
      bytes = (λ i. sets (w.bytes i) (w.place i) t) ∙ sym (sets-append s t o n) ∙ l.bytes;
      place = omega (arith, l.place, w.place, length-append s t);
      same = emits-length w ∙ l.same;
      fits = l.fits;
    }

pub left_end : {o u o₀ : List ℕ} {n n₀ : ℕ} → Left [] o n u o₀ n₀ → Emits u o₀ n₀ o n
left_end {n = n} l = record { bytes = l.bytes; place = omega (arith, l.place) }

module _ (f : ℕ → List ℕ) where
  over-cons : (x : ℕ) (l k : List ℕ) → k ≡ x ∷ l → over f k ≡ f x ++ over f l
  unfolding over
  over-cons x l k e = ap (over f) e

  over-nil : (k : List ℕ) → k ≡ [] → over f k ≡ []
  unfolding over
  over-nil k e = ap (over f) e

  -- a list by its index
  module _ (l : List ℕ) (i : ℕ) where
    list-next : i < length l → over f (drop i l) ≡ f (get_or l i 0) ++ over f (drop (i + 1) l)
    list-next h = over-cons (get_or l i 0) (drop (i + 1) l) (drop i l)
        (drop-cons l i 0 h ∙ ap (λ (k : ℕ). get_or l i 0 ∷ drop k l) (sym (add-one i)))

    module _ {o u o₀ : List ℕ} {n n₀ : ℕ} (left : Left (over f (drop i l)) o n u o₀ n₀) where
      pub list-room : i < length l → Room (f (get_or l i 0)) o n
      list-room h = left-room _ _ (left_as (list-next h) left)

      pub list-turn : {p : List ℕ} {m : ℕ} → i < length l → Emits (f (get_or l i 0)) o n p m
          → Left (over f (drop (i + 1) l)) p m u o₀ n₀
      list-turn h w = left-turn (left_as (list-next h) left) w

      pub list-end : length l ≤ i → Emits u o₀ n₀ o n
      list-end h = left_end (left_as (over-nil (drop i l) (drop_of_length-le l {i = i} h)) left)

  -- a mask by what is left of it
  module _ (m : ℕ) {o u o₀ : List ℕ} {n n₀ : ℕ} (left : Left (over f (members 64 m)) o n u o₀ n₀) where
    pub mask-room : {v m' : ℕ} → Takes 64 m v m' → Room (f v) o n
    mask-room {v} {m'} t = left-room _ _ (left_as (over-cons v (members 64 m') (members 64 m) t.first) left)

    pub mask-turn : {v m' k : ℕ} {p : List ℕ} → Takes 64 m v m' → Emits (f v) o n p k → Left (over f (members 64 m')) p k u o₀ n₀
    mask-turn {v} {m'} t w = left-turn (left_as (over-cons v (members 64 m') (members 64 m) t.first) left) w

    pub mask_end : m ≡ 0 → Emits u o₀ n₀ o n
    mask_end none = left_end (left_as (over-nil (members 64 m) (ap (members 64) none ∙ members-none 64)) left)

-- ---- the bytes of a slice

over-bytes : (l : List ℕ) → over (λ (b : ℕ). b ∷ []) l ≡ l
unfolding over
over-bytes [] = refl
over-bytes (b ∷ l) = ap (λ (t : List ℕ). b ∷ t) (over-bytes l)

pub bytes-start : (l : List ℕ) {o : List ℕ} {n : ℕ} → Room l o n → Left (over (λ (b : ℕ). b ∷ []) l) o n l o n
bytes-start l r = left_as (sym (over-bytes l)) (left-start r)

module _ (l : List ℕ) (i : ℕ) {o u o₀ : List ℕ} {n n₀ : ℕ}
    (left : Left (over (λ (b : ℕ). b ∷ []) (drop i l)) o n u o₀ n₀) where
  pub bytes-room : i < length l → Room (get_or l i 0 ∷ []) o n
  bytes-room = list-room (λ (b : ℕ). b ∷ []) l i left

  pub bytes-turn : {p : List ℕ} {m : ℕ} → i < length l → Emits (get_or l i 0 ∷ []) o n p m
      → Left (over (λ (b : ℕ). b ∷ []) (drop (i + 1) l)) p m u o₀ n₀
  bytes-turn = list-turn (λ (b : ℕ). b ∷ []) l i left

  pub bytes-end : length l ≤ i → Emits u o₀ n₀ o n
  bytes-end = list-end (λ (b : ℕ). b ∷ []) l i left

-- ---- entries, the lowest numbered `first`

abbrev pub numbered : ℕ → ℕ → List ℕ
numbered first v = entry (first + v)
