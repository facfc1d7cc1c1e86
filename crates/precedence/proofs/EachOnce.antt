-- A list whose entries go into a set one by one: where each is new, every entry is counted once, and the other way
-- round.
use mathlib.Core.Path.{◌≡◌, refl}
use mathlib.Core.Bool.{Bool, true, false, not, ◌&&◌}
use mathlib.Core.List.{List, [], ◌∷◌}
use Prim.Native.Nat.{ℕ, ◌+◌, ◌<◌}
use native.Mathlib.Omega.{arith}
use lib.ListN.{length}
use lib.Bits.{bit_or}
use borrow.Author.Tests.{not-true}
use Rattle.mask.specs.Mask.{has, bit, count}
use Rattle.mask.proofs.Laws.{has-ext, has-zero}
use Rattle.mask.proofs.Truth.{both}
use Rattle.precedence.specs.Order.{times, EachOnce}
use Rattle.precedence.proofs.Times.{times-head, each_once-has}
use Rattle.mask.proofs.Count.{one, one_same, one-some, one-most, count_none, count-new, one_more}

-- the set after all entries
unfoldable pub marks : ℕ → List ℕ → ℕ
marks seen [] = seen
marks seen (i ∷ o) = marks (bit_or seen (bit i)) o

-- no entry is in the set when its turn comes
unfoldable pub fresh : ℕ → List ℕ → Bool
fresh seen [] = true
fresh seen (i ∷ o) = not (has seen i) && fresh (bit_or seen (bit i)) o

pub fresh-times : (o : List ℕ) (seen : ℕ) → fresh seen o ≡ true → (i : ℕ)
    → one (has seen i) + times i o ≡ one (has (marks seen o) i)
unfolding fresh marks times
fresh-times [] seen h i = omega arith
fresh-times (x ∷ o) seen h i =
    let (a, b) = both (not (has seen x)) (fresh (bit_or seen (bit x)) o) h in
    omega (arith, one_more seen x i (not-true (has seen x) a), fresh-times o (bit_or seen (bit x)) b i)

-- an entry isn't in the set yet
pub fresh-out : (o : List ℕ) (seen : ℕ) → fresh seen o ≡ true → (i : ℕ) → 0 < times i o → has seen i ≡ false
fresh-out o seen h i n = one_same (has seen i) false
    (omega (arith, fresh-times o seen h i, one-most (has (marks seen o) i)))

-- what is in the set stays
pub marks-old : (o : List ℕ) (seen : ℕ) → fresh seen o ≡ true → (i : ℕ) → has seen i ≡ true
    → has (marks seen o) i ≡ true
marks-old o seen h i k =
    let own : one (has seen i) ≡ 1 = rw k in
    one-some (has (marks seen o) i) (omega (arith, fresh-times o seen h i))

pub times-fresh : (o : List ℕ) (seen m : ℕ) → ((i : ℕ) → one (has seen i) + times i o ≡ one (has m i))
    → (fresh seen o ≡ true) × (marks seen o ≡ m)
unfolding fresh marks times
times-fresh [] seen m h = (refl, has-ext seen m (λ i. one_same (has seen i) (has m i) (omega (arith, h i))))
times-fresh (x ∷ o) seen m h =
    let new : has seen x ≡ false = one_same (has seen x) false
    (omega (arith, h x, times-head x (times x o), one-most (has m x))) in
    let (a, b) = times-fresh o (bit_or seen (bit x)) m (λ i. omega (arith, one_more seen x i new, h i)) in
    (rw (new, a), b)

-- a list that goes into the empty set
pub each_once-elim : (o : List ℕ) (m : ℕ) → EachOnce m o → (fresh 0 o ≡ true) × (marks 0 o ≡ m)
each_once-elim o m h = times-fresh o 0 m (λ i. rw (has-zero i) (omega (arith, h i)))

pub each_once-intro : (o : List ℕ) (m : ℕ) → fresh 0 o ≡ true → marks 0 o ≡ m → EachOnce m o
each_once-intro o m a b i = let z : one (has 0 i) ≡ 0 = rw (has-zero i) in rw (← b) (omega (arith, fresh-times o 0 a i))

-- it adds as many members as it has entries
pub fresh-count : (w : ℕ) (o : List ℕ) (seen : ℕ) → fresh seen o ≡ true → ((i : ℕ) → 0 < times i o → i < w)
    → count w (marks seen o) ≡ count w seen + length o
unfolding fresh marks times
fresh-count w [] seen h low = omega arith
fresh-count w (x ∷ o) seen h low =
    let (a, b) = both (not (has seen x)) (fresh (bit_or seen (bit x)) o) h in
    omega (
      arith,
      count-new w seen x (low x (times-head x (times x o))) (not-true (has seen x) a),
      fresh-count w o (bit_or seen (bit x)) b (λ i n. low i (omega arith)),
    )

-- a list that holds each member once has as many entries as there are members
pub length-each_once : (w m : ℕ) (o : List ℕ) → ((i : ℕ) → has m i ≡ true → i < w) → EachOnce m o → length o ≡ count w m
length-each_once w m o low c =
    let (f, is) = each_once-elim o m c in
    omega (arith, count_none w, rw is at (fresh-count w o 0 f (λ i n. low i (each_once-has m o c i n))))
