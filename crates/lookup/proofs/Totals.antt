-- How many names look-ups in turn compare: all at most each time, at least one, and one where the name stands just
-- below.
use mathlib.Core.Path.{◌≡◌, refl, sym, ap, ◌∙◌}
use mathlib.Core.List.{List, [], ◌∷◌, ◌++◌, append-nil}
use Prim.Native.Nat.{ℕ, suc, ◌+◌, ◌*◌, ◌≤◌, ◌<◌}
use native.Mathlib.Omega.{arith}
use native.Mathlib.Nat.{suc-mul, mul-le-mul}
use native.Mathlib.Numerals.{add-one}
use lib.ListN.{length, take, drop, get_or, length-take, length-drop, length-append, drop_of_length-le}
use lib.Seq.{drop-cons, take_all}
use Rattle.std.specs.Prelude.{Option, Some, None, option_map}
use Rattle.std.specs.Option.{option_or}
use Rattle.lookup.specs.Position.{position}
use Rattle.lookup.specs.Around.{around, compared, found_from, next_from, looked, compared_from}
use Rattle.lookup.specs.Follows.{Follows, done, below, round}
use Rattle.lookup.specs.declared.Looked.{Looked}
use Rattle.lookup.proofs.Position.{position_is}
use Rattle.lookup.proofs.Around.{compared-most, looked-below}

length-around : (from : ℕ) (l : List ℕ) → length (around from l) ≡ length l
unfolding around
length-around from l =
    omega (arith, length-append (drop from l) (take from l), length-drop from l, length-take from l)

looked-most : (from n : ℕ) (l : List ℕ) → (looked from n l).compared ≤ length l
unfolding looked
looked-most from n l = omega (arith, compared-most n (around from l), length-around from l)

pub looked-few : (from n : ℕ) (l : List ℕ) (x : Looked) → x ≡ looked from n l → x.compared ≤ length l
looked-few from n l x is = omega (arith, ap (λ (y : Looked). y.compared) is, looked-most from n l)

-- no list of names costs more than all names each
pub total-most : (from : ℕ) (l sought : List ℕ) → compared_from from l sought ≤ length sought * length l
unfolding compared_from
total-most from l [] = omega arith
total-most from l (n ∷ sought) =
    omega (
      arith,
      looked-most from n l,
      total-most (looked from n l).next l sought,
      suc-mul (length sought) (length l),
    )

-- and where there are names, none costs less than one each
compared-least : (n : ℕ) (l : List ℕ) → 1 ≤ length l → 1 ≤ compared n l
unfolding compared
compared-least n [] h = h
compared-least n (x ∷ l) h = omega arith

pub total-least : (from : ℕ) (l sought : List ℕ) → 1 ≤ length l → length sought ≤ compared_from from l sought
unfolding compared_from looked
total-least from l [] some = omega arith
total-least from l (n ∷ sought) some =
    omega (
      arith,
      compared-least n (around from l) (omega (arith, length-around from l)),
      total-least (looked from n l).next l sought some,
    )

-- ---- a list of names that follows the list

-- the name that stands where a look-up begins costs one comparison
pub looked-here : (from n : ℕ) (l : List ℕ) → from < length l → get_or l from 0 ≡ n
    → looked from n l ≡ record { found = Some from; compared = 1; next = suc from }
unfolding position
looked-here from n l h is =
    sym (looked-below from n l 0 first)
    ∙ ap (λ (k : ℕ). record { found = Some k; compared = 1; next = k + 1 }) (omega arith)
    ∙ ap (λ (k : ℕ). record { found = Some from; compared = 1; next = k }) (add-one from)
  where
    first : position n (drop from l) ≡ Some 0
    first =
        ap (position n) (drop-cons l from 0 h)
        ∙ position_is n (get_or l from 0 ∷ drop (suc from) l) 0 (omega arith) (λ k b. absurd (omega arith)) is

-- so does the one just below a step that was found
pub looked-next : (from n : ℕ) (l : List ℕ) (k : ℕ) → (looked from n l).found ≡ Some k → suc k < length l
    → looked (looked from n l).next (get_or l (suc k) 0) l
    ≡ record { found = Some (suc k); compared = 1; next = suc (suc k) }
unfolding looked next_from
looked-next from n l k e h =
    ap (λ (f : Option ℕ). looked (next_from from f) (get_or l (suc k) 0) l) e
    ∙ looked-here (suc k) (get_or l (suc k) 0) l h refl

found-top : (n : ℕ) (l : List ℕ) → found_from 0 n l ≡ position n l
unfolding found_from position
found-top n l = go (position n l) refl
  where
    go : (f : Option ℕ) → position n l ≡ f → option_or (option_map (λ k. 0 + k) f) None ≡ f
    go (Some k) e = ap Some (omega arith)
    go None e = refl

-- past the last a look-up begins at the top
module _ (from : ℕ) (l : List ℕ) (past : length l ≤ from) where
  lower-none : drop from l ≡ []
  lower-none = drop_of_length-le l {i = from} past

  around-top : around from l ≡ around 0 l
  unfolding around
  around-top =
      ap (λ (x : List ℕ). x ++ take from l) lower-none ∙ take_all from l past ∙ sym (append-nil l)

  found-past : (n : ℕ) → found_from from n l ≡ position n l
  unfolding found_from position
  found-past n =
      ap (λ (x : List ℕ). option_or (option_map (λ k. from + k) (position n x)) (position n (take from l))) lower-none
      ∙ ap (position n) (take_all from l past)

  pub total-round : (sought : List ℕ) → compared_from from l sought ≡ compared_from 0 l sought
  unfolding compared_from looked next_from
  total-round [] = refl
  total-round (n ∷ sought) =
      ap (λ (f : Option ℕ). compared n (around from l) + compared_from (next_from from f) l sought) (found-past n)
      ∙ ap (λ (x : List ℕ). compared n x + compared_from (next_from from (position n l)) l sought) around-top
      ∙ ap (λ (m : ℕ). compared n (around 0 l) + m) (go (position n l) (total-round sought))
      ∙ ap (λ (f : Option ℕ). compared n (around 0 l) + compared_from (next_from 0 f) l sought) (sym (found-top n l))
    where
      go : (f : Option ℕ) → compared_from from l sought ≡ compared_from 0 l sought
          → compared_from (next_from from f) l sought ≡ compared_from (next_from 0 f) l sought
      go (Some k) ih = refl
      go None ih = ih

pub total-follows : (from : ℕ) (l sought : List ℕ) → Follows l from sought → compared_from from l sought ≡ length sought
unfolding compared_from
total-follows from l sought f = go l from sought f
  where
    go : (l : List ℕ) (from : ℕ) (sought : List ℕ) → Follows l from sought → compared_from from l sought ≡ length sought
    go l from _ (done _) = refl
    go l from _ (below _ n sought h is f) =
        ap (λ (x : Looked). x.compared + compared_from x.next l sought) (looked-here from n l h is)
        ∙ omega (arith, go l (suc from) sought f)
    go l from _ (round _ sought h f) = total-round from l h sought ∙ go l 0 sought f

-- ---- the turns of look-ups of names in turn

module _ (l sought : List ℕ) (total from i whole : ℕ) (inv : total + compared_from from l (drop i sought) ≡ whole) where
  module _ (more : i < length sought) (n : ℕ) (n-is : n ≡ get_or sought i 0) (x : Looked)
      (x-is : x ≡ looked from n l) where
    pub total-step : total + x.compared + compared_from x.next l (drop (i + 1) sought) ≡ whole
    unfolding compared_from
    total-step =
        let left : compared_from from l (drop i sought)
        ≡ (looked from n l).compared + compared_from (looked from n l).next l (drop (suc i) sought) =
        ap (compared_from from l)
        (drop-cons sought i 0 more ∙ ap (λ (m : ℕ). m ∷ drop (suc i) sought) (sym n-is)) in
        let same : x.compared + compared_from x.next l (drop (i + 1) sought)
        ≡ (looked from n l).compared + compared_from (looked from n l).next l (drop (suc i) sought) =
        ap (λ (y : Looked). y.compared + compared_from y.next l (drop (i + 1) sought)) x-is
        ∙ ap (λ (k : ℕ). (looked from n l).compared + compared_from (looked from n l).next l (drop k sought)) (add-one i)
        in
        omega arith

  -- with few names to compare and few to look up the sum stays small
  pub total-small : length l ≤ 64 → length sought ≤ 64 → whole ≡ compared_from 0 l sought → total ≤ 4096
  total-small few short whole_is =
      let most : length sought * length l ≤ 64 * 64 = mul-le-mul short few in
      omega (arith, total-most 0 l sought)

  pub total-done : length sought ≤ i → total ≡ whole
  unfolding compared_from
  total-done h =
      let none : compared_from from l (drop i sought) ≡ 0 =
      ap (compared_from from l) (drop_of_length-le sought {i = i} h) in
      omega arith
