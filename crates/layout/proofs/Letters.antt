-- The table of words, entry by entry.
-- Assumes nothing.
use mathlib.Core.Path.{◌≡◌, refl, ap, ap₂, ◌∙◌}
use mathlib.Core.List.{List}
use Prim.Native.Nat.{ℕ, ◌+◌, ◌*◌, ◌≤◌, ◌<◌}
use native.Mathlib.Omega.{arith}
use lib.Dec.{lit<, lit≤}
use lib.ListN.{length, get_or, take, drop}
use Rattle.layout.specs.Words.{word_table, spelling, number_of}
use Rattle.layout.specs.declared.Word.{Word}
use Rattle.layout.specs.declared.Word.TheVariants.{Old, New, Job, Done, Step, In, Out, Read, Write, Cloth, Start}

pub word-short : (w : Word) → length (spelling w) ≤ 5
unfolding spelling
word-short Old = lit≤ tt
word-short New = lit≤ tt
word-short Job = lit≤ tt
word-short Done = lit≤ tt
word-short Step = lit≤ tt
word-short In = lit≤ tt
word-short Out = lit≤ tt
word-short Read = lit≤ tt
word-short Write = lit≤ tt
word-short Cloth = lit≤ tt
word-short Start = lit≤ tt

pub row_below : (w : Word) → number_of w < 11
unfolding number_of
row_below Old = lit< tt
row_below New = lit< tt
row_below Job = lit< tt
row_below Done = lit< tt
row_below Step = lit< tt
row_below In = lit< tt
row_below Out = lit< tt
row_below Read = lit< tt
row_below Write = lit< tt
row_below Cloth = lit< tt
row_below Start = lit< tt

pub length_at : (w : Word) → get_or word_table (number_of w * 6) 0 ≡ length (spelling w)
unfolding spelling number_of
length_at Old = refl
length_at New = refl
length_at Job = refl
length_at Done = refl
length_at Step = refl
length_at In = refl
length_at Out = refl
length_at Read = refl
length_at Write = refl
length_at Cloth = refl
length_at Start = refl

-- a table that was lent, by the row that the code found
module _ (t : List ℕ) (n : ℕ) (w : Word) (is : t ≡ word_table) (row : n ≡ number_of w) where
  pub table-length : get_or t (n * 6) 0 ≡ length (spelling w)
  table-length = ap₂ (λ (l : List ℕ) (m : ℕ). get_or l (m * 6) 0) is row ∙ length_at w

  pub table-room : (k : ℕ) → k < 6 → n * 6 + k < length t
  table-room k h = omega (arith, ap length is, row, row_below w)

-- the letters as a part of the table
pub letters-at : (w : Word) → take (length (spelling w)) (drop (number_of w * 6 + 1) word_table) ≡ spelling w
unfolding spelling number_of
letters-at Old = refl
letters-at New = refl
letters-at Job = refl
letters-at Done = refl
letters-at Step = refl
letters-at In = refl
letters-at Out = refl
letters-at Read = refl
letters-at Write = refl
letters-at Cloth = refl
letters-at Start = refl
