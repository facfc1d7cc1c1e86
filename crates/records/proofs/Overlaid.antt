-- Entries laid over a list one by one.
use mathlib.Core.Path.{◌≡◌, refl, sym, ap, ap₂, ◌∙◌}
use mathlib.Core.List.{List, ◌++◌}
use Prim.Native.Nat.{ℕ, suc, ◌+◌, ◌<◌}
use native.Mathlib.Omega.{arith}
use native.Mathlib.Numerals.{add-one}
use lib.ListN.{length, take, drop, get_or, set}
use lib.Seq.{take-suc, length-take-le, set_at, append_snoc, drop-cons}
use Rattle.records.specs.Overlaid.{overlaid}

pub overlaid-none : {X : Type 0} (l a : List X) → overlaid 0 l a ≡ a
unfolding overlaid
overlaid-none l a = refl

pub overlaid-more : {X : Type 0} (d : X) (l a : List X) (i : ℕ) → i < length l → i < length a
    → set (overlaid i l a) i (get_or l i d) ≡ overlaid (i + 1) l a
unfolding overlaid
overlaid-more {X} d l a i h k =
    ap (λ (x : List X). set (take i l ++ x) i (get_or l i d)) (drop-cons a i d k)
    ∙ set_at (take i l) (get_or a i d) (drop (suc i) a) (get_or l i d) i (length-take-le i l (omega arith))
    ∙ sym (append_snoc (take i l) (get_or l i d) (drop (suc i) a))
    ∙ ap (λ (x : List X). x ++ drop (suc i) a) (sym (take-suc l i d h))
    ∙ ap (λ (n : ℕ). take n l ++ drop n a) (sym (add-one i))

-- one entry more
pub overlaid-on : {X : Type 0} (d x : X) (l a w : List X) (i : ℕ) → w ≡ overlaid i l a → x ≡ get_or l i d → i < length l
    → i < length a → set w i x ≡ overlaid (i + 1) l a
overlaid-on {X} d x l a w i so_far is h k =
    ap₂ (λ (u : List X) (y : X). set u i y) so_far is ∙ overlaid-more d l a i h k

-- only the entries laid count
pub overlaid-same : {X : Type 0} (l k a : List X) (n : ℕ) → take n l ≡ take n k → overlaid n l a ≡ overlaid n k a
unfolding overlaid
overlaid-same {X} l k a n e = ap (λ (x : List X). x ++ drop n a) e
