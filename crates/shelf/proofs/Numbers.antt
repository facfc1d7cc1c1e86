-- The numbers on a shelf, as the loops over them leave them.
use mathlib.Core.Path.{◌≡◌, refl, sym, ap, ap₂, ◌∙◌}
use mathlib.Core.Bool.{Bool, true, false, not, ◌&&◌}
use mathlib.Core.List.{List, [], ◌∷◌, map}
use denote.Ref.{Bor}
use Prim.Native.Nat.{ℕ, zero, suc, ◌+◌, ◌-◌, ◌≤◌, ◌<◌}
use native.Mathlib.Omega.{arith}
use native.Mathlib.Numerals.{add-one}
use borrow.Author.Tests.{not-true, not-false, lt-ltb, le-ltb}
use lib.Dec.{ltb, leb}
use lib.ListN.{length, drop, get_or, length-map, drop_of_length-le}
use lib.Seq.{drop-cons}
use Rattle.std.specs.Prelude.{slice_get, unwrap_or}
use Rattle.std.proofs.lemmas.Option.{unwrap_or-slice_get}
use Rattle.mask.proofs.Truth.{and_yes, and_no}
use Rattle.shelf.specs.Shelf.{numbers_in, number_fits, rise, last_of}
use Rattle.shelf.specs.declared.Edition.{Edition}

-- ---- the numbers of the entries

pub number_at : (l : List Edition) (i : ℕ) (d : Edition) → i < length l → get_or (numbers_in l) i 0 ≡ (get_or l i d).number
unfolding numbers_in
number_at [] i d h = absurd (omega (arith, h))
number_at (e ∷ l) zero d h = refl
number_at (e ∷ l) (suc i) d h = number_at l i d (omega (arith, h))

pub length-numbers : (l : List Edition) → length (numbers_in l) ≡ length l
unfolding numbers_in
length-numbers l = length-map l (λ (e : Edition). e.number)

pub numbers-mapped : (n : ℕ) (refs : List (Bor Edition)) (v : List ℕ) → length v ≡ n
    → length (map (λ (r : Bor Edition). r.now) refs) ≡ n
    → ((i : ℕ) (d : Bor Edition) (e : ℕ) → i < n → get_or v i e ≡ (get_or refs i d).now.number)
    → v ≡ numbers_in (map (λ (r : Bor Edition). r.now) refs)
unfolding numbers_in
numbers-mapped n [] [] h k at = refl
numbers-mapped n [] (x ∷ v) h k at = absurd (omega (arith, h, k))
numbers-mapped n (r ∷ refs) [] h k at = absurd (omega (arith, h, k))
numbers-mapped zero (r ∷ refs) (x ∷ v) h k at = absurd (omega (arith, h))
numbers-mapped (suc n) (r ∷ refs) (x ∷ v) h k at =
    ap₂ (λ (y : ℕ) (l : List ℕ). y ∷ l) (at 0 r 0 (omega arith))
    (numbers-mapped n refs v (omega (arith, h)) (omega (arith, k)) (λ i d e m. at (suc i) d e (omega (arith, m))))

-- ---- a number that may follow the last one: the second test counts only where the first holds

pub fits-above : (last n : ℕ) → last < n → leb n 65535 ≡ number_fits last n
unfolding number_fits
fits-above last n h = and_yes refl (lt-ltb last n h) refl

pub fits_below : (last n : ℕ) → n ≤ last → ltb last n ≡ number_fits last n
unfolding number_fits
fits_below last n h = and_no (leb n 65535) refl (le-ltb last n h)

-- ---- numbers that rise: those left rise from the last one passed

module _ (l : List ℕ) (whole : Bool) (i last : ℕ) (inv : rise last (drop i l) ≡ whole) (t : Bool)
    (inside : i < length l) (test : t ≡ number_fits last (get_or l i 0)) where
  turn : (t && rise (get_or l i 0) (drop (suc i) l)) ≡ whole
  unfolding rise
  turn =
      ap (λ (x : Bool). x && rise (get_or l i 0) (drop (suc i) l)) test
      ∙ ap (rise last) (sym (drop-cons l i 0 inside))
      ∙ inv

  pub rise-stops : not t ≡ true → false ≡ whole
  rise-stops off = ap (λ (x : Bool). x && rise (get_or l i 0) (drop (suc i) l)) (sym (not-true t off)) ∙ turn

  pub rise-on : not t ≡ false → rise (get_or l i 0) (drop (i + 1) l) ≡ whole
  rise-on on =
      ap (λ (m : ℕ). rise (get_or l i 0) (drop m l)) (add-one i)
      ∙ ap (λ (x : Bool). x && rise (get_or l i 0) (drop (suc i) l)) (sym (not-false t on))
      ∙ turn

pub rise-end : (l : List ℕ) (whole : Bool) (i last : ℕ) → rise last (drop i l) ≡ whole → length l ≤ i → true ≡ whole
unfolding rise
rise-end l whole i last inv h = ap (rise last) (sym (drop_of_length-le l {i = i} h)) ∙ inv

-- ---- the last number

last-from : (d n : ℕ) (l : List ℕ) → get_or (n ∷ l) (length l) d ≡ last_of n l
unfolding last_of
last-from d n [] = refl
last-from d n (x ∷ l) = last-from d x l

pub last_is : (l : List ℕ) → unwrap_or (slice_get l (length l - 1)) 0 ≡ last_of 0 l
unfolding last_of
last_is [] = refl
last_is (x ∷ l) =
    let last : length (x ∷ l) - 1 ≡ length l = omega arith in
    unwrap_or-slice_get (x ∷ l) (length (x ∷ l) - 1) 0 ∙ ap (λ (k : ℕ). get_or (x ∷ l) k 0) last ∙ last-from 0 x l
