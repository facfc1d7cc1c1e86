-- A text in the out slice: refused, written at once, or written apart and copied.
-- Assumes nothing.
use mathlib.Core.Path.{◌≡◌, refl, sym, ap, ◌∙◌}
use mathlib.Core.Bool.{Bool, true, false, cond}
use mathlib.Core.List.{List, ◌++◌}
use Prim.Native.Nat.{ℕ, ◌≤◌, ◌<◌}
use native.Mathlib.Omega.{arith}
use lib.Dec.{leb}
use lib.ListN.{length, take, drop, replicate, length-replicate}
use lib.Seq.{length-take-le}
use borrow.Author.Tests.{le-leb, lt-leb, leb-true}
use Rattle.emit.specs.Emit.{Room, Emits}
use Rattle.emit.proofs.Chains.{emits-length, emits-end, emits-whole, emits-take}
use Rattle.out_slice.specs.OutSlice.{unwritten, whole, wrote_text, out_with}
use Rattle.out_slice.specs.declared.Wrote.{Wrote}

-- the slice is too short
module _ (t out : List ℕ) (short : length out < length t) where
  pub short-answer : unwritten 15 (length t) ≡ wrote_text t (length out)
  unfolding wrote_text
  short-answer = rw (lt-leb (length t) (length out) short) refl

  pub short-out : out ≡ out_with t out
  unfolding out_with
  short-out = rw (lt-leb (length t) (length out) short)

-- there is room
pub fits-answer : (t : List ℕ) (room : ℕ) → length t ≤ room → wrote_text t room ≡ whole (length t)
unfolding wrote_text
fits-answer t room fits = rw (le-leb (length t) room fits)

pub fits_out : (t o : List ℕ) → length t ≤ length o → out_with t o ≡ t ++ drop (length t) o
unfolding out_with
fits_out t o fits = rw (le-leb (length t) (length o) fits)

pub answer-fits : (t : List ℕ) (room : ℕ) → (wrote_text t room).number ≡ 0 → length t ≤ room
unfolding wrote_text
answer-fits t room = go (leb (length t) room) refl
  where
    go : (b : Bool) → leb (length t) room ≡ b → (cond b (whole (length t)) (unwritten 15 (length t))).number ≡ 0
        → length t ≤ room
    go true e z = leb-true (length t) room e
    go false e z = absurd (omega (arith, z))

pub text-room : (t o : List ℕ) → length t ≤ length o → Room t o 0
text-room t o fits = record { fits = omega (arith, fits) }

-- and the text is written from the slice's start
module _ (t o p : List ℕ) (end : ℕ) (fits : length t ≤ length o) (w : Emits t o 0 p end) where
  pub whole-answer : whole end ≡ wrote_text t (length o)
  whole-answer = ap whole (emits-end w) ∙ sym (fits-answer t (length o) fits)

  pub whole_out : p ≡ out_with t o
  whole_out = emits-whole (text-room t o fits) w ∙ sym (fits_out t o fits)

  -- it stands apart, and what is copied is the part of the bytes there
  pub end-inside : end ≤ length p
  end-inside = omega (arith, fits, emits-end w, emits-length w)

  pub prefix-long : end ≡ length (take end p)
  prefix-long = sym (length-take-le end p end-inside)

  pub copied-answer : (a : Wrote) (room : ℕ) → a ≡ wrote_text (take end p) room → a ≡ wrote_text t room
  copied-answer a room e = e ∙ ap (λ (x : List ℕ). wrote_text x room) (emits-take (text-room t o fits) w)

  pub copied-out : (q out : List ℕ) → q ≡ out_with (take end p) out → q ≡ out_with t out
  copied-out q out e = e ∙ ap (λ (x : List ℕ). out_with x out) (emits-take (text-room t o fits) w)

-- an array to write it to
pub apart-fits : (t : List ℕ) (n : ℕ) → length t ≤ n → length t ≤ length (replicate {A = ℕ} n 0)
apart-fits t n h = omega (arith, length-replicate {A = ℕ} n 0)
