-- The numbers of a shelf's entries say whether it is good.
use mathlib.Core.Path.{◌≡◌, refl, sym, ap, ap₂, ◌∙◌}
use mathlib.Core.Bool.{Bool, true, false, not, ◌&&◌}
use mathlib.Core.List.{List, [], ◌∷◌}
use Prim.Native.Nat.{ℕ, zero, suc, ◌≤◌}
use borrow.Author.Tests.{not-true, not-false, leb-true}
use lib.Dec.{leb}
use lib.ListN.{length, take}
use Rattle.mask.proofs.Truth.{both}
use Rattle.shelf.specs.Shelf.{editions_of, numbers_in, rise, good_shelf}
use Rattle.shelf.specs.declared.Edition.{Edition}
use Rattle.shelf.specs.declared.Shelf.{Shelf}
use Rattle.shelf.proofs.Numbers.{length-numbers}

take-numbers : (n : ℕ) (l : List Edition) → take n (numbers_in l) ≡ numbers_in (take n l)
unfolding numbers_in
take-numbers zero l = refl
take-numbers (suc n) [] = refl
take-numbers (suc n) (e ∷ l) = ap (λ (x : List ℕ). e.number ∷ x) (take-numbers n l)

-- a shelf, the numbers in its entries, and what was found of them
module _ (s : Shelf) (v : List ℕ) (are : v ≡ numbers_in s.editions) (full : length s.editions ≡ 8) where
  pub numbers-are : take s.len v ≡ numbers_in (editions_of s)
  numbers-are = ap (take s.len) are ∙ take-numbers s.len s.editions

  module _ (t : Bool) (test : t ≡ (leb s.len (length v) && rise 0 (take s.len v))) where
    good-is : t ≡ good_shelf s
    unfolding good_shelf
    good-is =
        test
        ∙ ap₂ (λ (n : ℕ) (x : List ℕ). leb s.len n && rise 0 x)
        (ap length are ∙ length-numbers s.editions ∙ full) numbers-are

    pub good-few : not t ≡ false → s.len ≤ length v
    good-few on = leb-true _ _ (both _ _ (sym test ∙ not-false t on)).0

    pub good-no : not t ≡ true → good_shelf s ≡ false
    good-no off = sym good-is ∙ not-true t off

    pub good-yes : not t ≡ false → good_shelf s ≡ true
    good-yes on = sym good-is ∙ not-false t on
