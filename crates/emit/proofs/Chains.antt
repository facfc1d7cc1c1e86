-- One text after another is one text: the room that each of a chain of calls has, and what they write.
-- Assumes nothing.
use mathlib.Core.Path.{◌≡◌, refl, sym, ap, ◌∙◌}
use mathlib.Core.List.{List, [], ◌∷◌, ◌++◌, append-nil}
use Prim.Native.Nat.{ℕ, suc, ◌+◌}
use native.Mathlib.Omega.{arith}
use lib.ListN.{length, set, take, drop, length-append}
use lib.Seq.{sets, sets-eq, length-sets, take-append_seam}
use Rattle.emit.specs.Emit.{Room, Emits}

pub sets-append : (s t o : List ℕ) (n : ℕ) → sets o n (s ++ t) ≡ sets (sets o n s) (n + length s) t
sets-append [] t o n = let here : n ≡ n + 0 = omega arith in ap (λ (k : ℕ). sets o k t) here
sets-append (b ∷ s) t o n =
    let next : suc n + length s ≡ n + suc (length s) = omega arith in
    sets-append s t (set o n b) (suc n) ∙ ap (λ (k : ℕ). sets (sets (set o n b) (suc n) s) k t) next

pub emits-length : {s o p : List ℕ} {n m : ℕ} → Emits s o n p m → length p ≡ length o
emits-length {s} {o} {n = n} w = ap length w.bytes ∙ length-sets o n s

-- ---- chains of calls

pub emits_none : (o : List ℕ) (n : ℕ) → Emits [] o n o n
emits_none o n = record { bytes = refl; place = omega arith }

pub emits_then : {s t o p q : List ℕ} {n m k : ℕ} → Emits s o n p m → Emits t p m q k → Emits (s ++ t) o n q k
emits_then {s} {t} {o} {n = n} w x =
    record {
      bytes = x.bytes ∙ (λ i. sets (w.bytes i) (w.place i) t) ∙ sym (sets-append s t o n);
      place = omega (arith, w.place, x.place, length-append s t);
    }

-- there is room for the first text, and after it for the next
pub room-first : (s t : List ℕ) {o : List ℕ} {n : ℕ} → Room (s ++ t) o n → Room s o n
room-first s t r = record { fits = omega (arith, r.fits, length-append s t) }

pub room_next : {s t o p : List ℕ} {n m : ℕ} → Emits s o n p m → Room (s ++ t) o n → Room t p m
room_next {s} {t} w r = record { fits = omega (arith, r.fits, w.place, emits-length w, length-append s t) }

-- the same text, said otherwise
pub emits-as : {s t o p : List ℕ} {n m : ℕ} → s ≡ t → Emits t o n p m → Emits s o n p m
emits-as e w = rw e w

pub room_as : {s t o : List ℕ} {n : ℕ} → Room s o n → s ≡ t → Room t o n
room_as r e = rw e at r

-- ---- texts in parts, of which each call of a chain writes the next

unfoldable pub parts : List (List ℕ) → List ℕ
parts [] = []
parts (t ∷ l) = t ++ parts l

parts_next : {a : List ℕ} (l : List (List ℕ)) {o p : List ℕ} {n m : ℕ} → Room (parts (a ∷ l)) o n → Emits a o n p m
    → Room (parts l) p m
unfolding parts
parts_next l r w = room_next w r

-- the room for a text t is room for its first part, and after the calls for the parts before it for each other; all
-- together are t
abbrev pub First : List ℕ → List ℕ → Type 0
First t a = (o : List ℕ) (n : ℕ) → Room t o n → Room a o n

abbrev pub Second : List ℕ → List ℕ → List ℕ → Type 0
Second t a b = (o p : List ℕ) (n m : ℕ) → Room t o n → Emits a o n p m → Room b p m

abbrev pub Third : List ℕ → List ℕ → List ℕ → List ℕ → Type 0
Third t a b c = (o p q : List ℕ) (n m k : ℕ) → Room t o n → Emits a o n p m → Emits b p m q k → Room c q k

abbrev pub Fourth : List ℕ → List ℕ → List ℕ → List ℕ → List ℕ → Type 0
Fourth t a b c d = (o p q s : List ℕ) (n m k j : ℕ) → Room t o n → Emits a o n p m → Emits b p m q k → Emits c q k s j
    → Room d s j

pub first-room : (t a : List ℕ) (l : List (List ℕ)) → t ≡ parts (a ∷ l) → First t a
unfolding parts
first-room t a l e o n r = room-first a (parts l) (room_as r e)

pub second-room : (t a b : List ℕ) (l : List (List ℕ)) → t ≡ parts (a ∷ b ∷ l) → Second t a b
second-room t a b l e o p n m r w = first-room (parts (b ∷ l)) b l refl p m (parts_next (b ∷ l) (room_as r e) w)

pub third-room : (t a b c : List ℕ) (l : List (List ℕ)) → t ≡ parts (a ∷ b ∷ c ∷ l) → Third t a b c
third-room t a b c l e o p q n m k r w x = second-room (parts (b ∷ c ∷ l)) b c l refl p q m k
    (parts_next (b ∷ c ∷ l) (room_as r e) w) x

pub fourth-room : (t a b c d : List ℕ) (l : List (List ℕ)) → t ≡ parts (a ∷ b ∷ c ∷ d ∷ l) → Fourth t a b c d
fourth-room t a b c d l e o p q s n m k j r w x y =
    third-room (parts (b ∷ c ∷ d ∷ l)) b c d l refl p q s m k j (parts_next (b ∷ c ∷ d ∷ l) (room_as r e) w) x y

abbrev pub Two : List ℕ → List ℕ → List ℕ → Type 0
Two t a b = (o p q : List ℕ) (n m k : ℕ) → Emits a o n p m → Emits b p m q k → Emits t o n q k

abbrev pub Three : List ℕ → List ℕ → List ℕ → List ℕ → Type 0
Three t a b c = (o p q s : List ℕ) (n m k j : ℕ) → Emits a o n p m → Emits b p m q k → Emits c q k s j → Emits t o n s j

abbrev pub Four : List ℕ → List ℕ → List ℕ → List ℕ → List ℕ → Type 0
Four t a b c d = (o p q s u : List ℕ) (n m k j i : ℕ) → Emits a o n p m → Emits b p m q k → Emits c q k s j
    → Emits d s j u i → Emits t o n u i

pub two-emits : (t a b : List ℕ) → t ≡ parts (a ∷ b ∷ []) → Two t a b
unfolding parts
two-emits t a b e o p q n m k w x = emits-as (e ∙ ap (λ (y : List ℕ). a ++ y) (append-nil b)) (emits_then w x)

pub three-emits : (t a b c : List ℕ) → t ≡ parts (a ∷ b ∷ c ∷ []) → Three t a b c
unfolding parts
three-emits t a b c e o p q s n m k j w x y =
    emits-as e (emits_then w (two-emits (parts (b ∷ c ∷ [])) b c refl p q s m k j x y))

pub four-emits : (t a b c d : List ℕ) → t ≡ parts (a ∷ b ∷ c ∷ d ∷ []) → Four t a b c d
unfolding parts
four-emits t a b c d e o p q s u n m k j i w x y z =
    emits-as e (emits_then w (three-emits (parts (b ∷ c ∷ d ∷ [])) b c d refl p q s u m k j i x y z))

-- texts that are joined already
two-parts : (s t : List ℕ) → s ++ t ≡ parts (s ∷ t ∷ [])
unfolding parts
two-parts s t = ap (λ (x : List ℕ). s ++ x) (sym (append-nil t))

pub two-first : (s t : List ℕ) → First (s ++ t) s
two-first s t = first-room (s ++ t) s (t ∷ []) (two-parts s t)

pub two-second : (s t : List ℕ) → Second (s ++ t) s t
two-second s t = second-room (s ++ t) s t [] (two-parts s t)

pub two-whole : (s t : List ℕ) → Two (s ++ t) s t
two-whole s t = two-emits (s ++ t) s t (two-parts s t)

-- ---- a text from the slice's start

pub emits-end : {t o p : List ℕ} {m : ℕ} → Emits t o 0 p m → m ≡ length t
emits-end w = omega (arith, w.place)

module _ {t o p : List ℕ} {m : ℕ} (r : Room t o 0) (w : Emits t o 0 p m) where
  -- it stands there, and all other bytes are as they were
  pub emits-whole : p ≡ t ++ drop (length t) o
  emits-whole =
      let end : 0 + length t ≡ length t = omega arith in
      w.bytes ∙ sets-eq t o 0 r.fits ∙ ap (λ (k : ℕ). t ++ drop k o) end

  pub emits-take : take m p ≡ t
  emits-take = (λ i. take (emits-end w i) (emits-whole i)) ∙ take-append_seam t (drop (length t) o)
