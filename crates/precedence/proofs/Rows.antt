-- What "comes after" and a row of the table promise: the rows from the laws on a collected set.
use mathlib.Core.Path.{◌≡◌, refl, ap, ap₂, ◌∙◌}
use mathlib.Core.Logic.{◌⊎◌, inl, inr}
use mathlib.Core.Bool.{Bool, true, false, not, ◌&&◌, ◌||◌, and_self_left, and-false, and_comm, or_comm}
use mathlib.Core.List.{List}
use Prim.Native.Nat.{ℕ, ◌≤◌}
use native.Mathlib.Omega.{arith}
use lib.Dec.{eqb, ltb}
use lib.Bits.{bit_or, and_zero_l, and_zero_r}
use lib.ListN.{length, get_or, get_or-eq_default}
use borrow.Author.Tests.{le-ltb, ltb-false}
use Rattle.mask.specs.Mask.{has, meets}
use Rattle.mask.proofs.Laws.{has-collect, collect-none}
use Rattle.mask.proofs.Truth.{or-fails}
use Rattle.route.specs.Steps.{blank}
use Rattle.route.specs.declared.Step.{Step}
use Rattle.precedence.specs.Precedence.{clash, tied, puts_until, put_for, comes_after, row}

-- a row of the table is exactly "comes after"
pub row-exact : (l : List Step) (i j : ℕ) → has (row l i) j ≡ comes_after l i j
unfolding row comes_after
row-exact l i j = has-collect (comes_after l i) i j
    ∙ and_self_left (ltb j i) (tied (get_or l i blank) (get_or l j blank) || put_for l i j)

-- past the last occurrence there is nothing to come after
pub row-past : (l : List Step) (i : ℕ) → length l ≤ i → row l i ≡ 0
unfolding row comes_after tied clash put_for
row-past l i h = collect-none (comes_after l i) i (λ j b.
    ap (λ (s : Step). ltb j i && (tied s (get_or l j blank) || meets s.ins (puts_until l i j)))
    (get_or-eq_default l blank h)
    ∙ ap (λ (t : Bool). ltb j i && t) (quiet (get_or l j blank) (puts_until l i j)) ∙ and-false (ltb j i))
  where
    quiet : (s : Step) (m : ℕ) → (tied blank s || meets 0 m) ≡ false
    quiet s m = ap₂ (λ (t u : Bool). t || u)
        (ap₂ (λ (a b : ℕ). (not (eqb a 0) || not (eqb b 0)) || false)
        (and_zero_l (bit_or s.reads s.writes)) (and_zero_r s.writes))
        (ap (λ (a : ℕ). not (eqb a 0)) (and_zero_l m))

-- an occurrence comes after none that isn't earlier
pub not_after : (l : List Step) (i j : ℕ) → i ≤ j → comes_after l i j ≡ false
unfolding comes_after
not_after l i j h = rw (le-ltb j i h)

pub clash-comm : (s t : Step) → clash s t ≡ clash t s
unfolding clash
clash-comm s t = or_comm (meets s.writes (bit_or t.reads t.writes))
    (meets t.writes (bit_or s.reads s.writes))

tied-comm : (s t : Step) → tied s t ≡ tied t s
unfolding tied
tied-comm s t = ap₂ (λ (x y : Bool). x || y) (clash-comm s t) (and_comm s.cloth t.cloth)

-- two occurrences neither of which comes after the other are one and the same, or neither clash nor are both marked
pub apart : (l : List Step) (i j : ℕ) → comes_after l i j ≡ false → comes_after l j i ≡ false
    → (i ≡ j) ⊎ ((clash (get_or l i blank) (get_or l j blank) ≡ false)
    × (((get_or l i blank).cloth && (get_or l j blank).cloth) ≡ false))
unfolding comes_after tied
apart l i j p q = go (ltb j i) (ltb i j) refl refl p q
  where
    both-marked : Bool
    both-marked = (get_or l i blank).cloth && (get_or l j blank).cloth

    free : tied (get_or l i blank) (get_or l j blank) ≡ false
        → (clash (get_or l i blank) (get_or l j blank) ≡ false) × (both-marked ≡ false)
    free e = (
      or-fails (clash (get_or l i blank) (get_or l j blank)) both-marked e,
      or-fails both-marked (clash (get_or l i blank) (get_or l j blank)) (or_comm both-marked _ ∙ e),
    )

    go : (a b : Bool) → ltb j i ≡ a → ltb i j ≡ b
        → (a && (tied (get_or l i blank) (get_or l j blank) || put_for l i j)) ≡ false
        → (b && (tied (get_or l j blank) (get_or l i blank) || put_for l j i)) ≡ false
        → (i ≡ j) ⊎ ((clash (get_or l i blank) (get_or l j blank) ≡ false) × (both-marked ≡ false))
    go true b d e p q = inr (free (or-fails (tied (get_or l i blank) (get_or l j blank)) (put_for l i j) p))
    go false true d e p q = inr (free (tied-comm (get_or l i blank) (get_or l j blank)
        ∙ or-fails (tied (get_or l j blank) (get_or l i blank)) (put_for l j i) q))
    go false false d e p q = inl (omega (arith, ltb-false j i d, ltb-false i j e))
