-- A name is among names exactly where one of them is it, which is where look-up finds it.
use mathlib.Core.Path.{◌≡◌, refl, sym}
use mathlib.Core.Bool.{true, false}
use mathlib.Core.List.{List}
use Prim.Native.Nat.{ℕ, ◌<◌}
use lib.Dec.{eqb}
use lib.ListN.{length, get_or}
use borrow.Author.Tests.{eq-eqb, ne_eqb}
use Rattle.std.proofs.lemmas.List.Recursion.{or_at, or_from_places}
use Rattle.std.specs.Prelude.{Option, Some, None, is_some}
use Rattle.lookup.specs.Position.{position}
use Rattle.lookup.proofs.Position.{position-below, position_at, position-lacks}
use Rattle.name_set.specs.Among.{among}

pub among-at : (n : ℕ) (l : List ℕ) (i : ℕ) → i < length l → get_or l i 0 ≡ n → among n l ≡ true
unfolding among
among-at n l i h e =
    or_at (among n) (λ x. eqb x n) refl (λ x k. refl) l i 0 h (eq-eqb (get_or l i 0) n e)

pub among_none : (n : ℕ) (l : List ℕ) → ((i : ℕ) → i < length l → get_or l i 0 ≡ n → ⊥) → among n l ≡ false
unfolding among
among_none n l none =
    or_from_places (among n) (λ x. eqb x n) refl (λ x k. refl) l 0 (λ i h. ne_eqb (get_or l i 0) n (none i h))

-- by what look-up finds
pub among-found : (n : ℕ) (l : List ℕ) → is_some (position n l) ≡ among n l
among-found n l = go (position n l) refl
  where
    go : (f : Option ℕ) → position n l ≡ f → is_some f ≡ among n l
    go (Some k) e = sym (among-at n l k (position-below n l k e) (position_at n l k e))
    go None e = sym (among_none n l (position-lacks n l e))
