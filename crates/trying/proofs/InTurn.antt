-- An order against 1, 2, .., entry by entry.
use mathlib.Core.Path.{◌≡◌, refl, sym, ap, ◌∙◌}
use mathlib.Core.Bool.{Bool, false, ◌&&◌, and-false}
use mathlib.Core.List.{List, [], ◌∷◌, map}
use Prim.Native.Nat.{ℕ, zero, suc, ◌+◌}
use native.Mathlib.Numerals.{add-one}
use lib.Dec.{eqb}
use lib.ListN.{length}
use Rattle.std.specs.List.{list_all, enumerate_from}
use Rattle.precedence.specs.Order.{in_turn}
use Rattle.trying.specs.Try.{same_list}

apart : (a b : List ℕ) → (length a ≡ length b → ⊥) → same_list a b ≡ false
unfolding same_list
apart [] [] h = absurd (h refl)
apart [] (y ∷ b) h = refl
apart (x ∷ a) [] h = refl
apart (x ∷ a) (y ∷ b) h = ap (λ (t : Bool). eqb x y && t) (apart a b (λ e. h (ap suc e))) ∙ and-false (eqb x y)

length-numbers : (i n : ℕ) → length (map suc (in_turn i n)) ≡ n
unfolding in_turn
length-numbers i zero = refl
length-numbers i (suc n) = ap suc (length-numbers (suc i) n)

pub turn-length : (o : List ℕ) (len : ℕ) → (length o ≡ len → ⊥) → false ≡ same_list o (map suc (in_turn 0 len))
turn-length o len h = sym (apart o (map suc (in_turn 0 len)) (λ e. h (e ∙ length-numbers 0 len)))

-- an entry is its place, counted from 1
abbrev pub at_place : ℕ × ℕ → Bool
at_place (i, b) = eqb b (i + 1)

each-place : (o : List ℕ) (i : ℕ) → list_all at_place (enumerate_from i o) ≡ same_list o (map suc (in_turn i (length o)))
unfolding same_list in_turn
each-place [] i = refl
each-place (x ∷ o) i = rw add-one (ap (λ (t : Bool). eqb x (suc i) && t) (each-place o (suc i)))

pub turn-places : (o : List ℕ) (len : ℕ) (t : Bool) → length o ≡ len → t ≡ list_all at_place (enumerate_from 0 o)
    → t ≡ same_list o (map suc (in_turn 0 len))
turn-places o len t e is = is ∙ each-place o 0 ∙ ap (λ (n : ℕ). same_list o (map suc (in_turn 0 n))) e
