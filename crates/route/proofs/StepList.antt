-- The list of a route's steps, element by element: what a loop over the array meets. The stored records come first, so
-- below 64 the list and the array agree. Then the steps' names, and the step of a name.
use mathlib.Core.Path.{◌≡◌, refl, sym, ap, ap₂, ◌∙◌}
use mathlib.Core.Bool.{Bool, true, false, cond}
use mathlib.Core.List.{List, [], ◌∷◌}
use mathlib.Core.Option.{some, none-ne-some, some-injective}
use Prim.Native.Nat.{ℕ, zero, suc, ◌+◌, ◌-◌, ◌≤◌, ◌<◌, min}
use native.Mathlib.Omega.{arith}
use native.Mathlib.Numerals.{add-one}
use lib.Dec.{eqb}
use lib.ListN.{length, take, drop, get_or, replicate, length-append, length-take, length-replicate, length-map}
use lib.ListN.{get_or-append, get_or-map}
use lib.Seq.{get_or-append_right, drop-cons, get_or-take}
use lib.Bits.{bit_or, or_zero_l, or_zero_r}
use Rattle.std.specs.List.{fold}
use Rattle.std.proofs.lemmas.List.{take-map, drop-map}
use borrow.Author.Tests.{eqb-true}
use Rattle.mask.proofs.Laws.{or_assoc}
use Rattle.route.specs.Steps.{blank, steps_of, union, names, lookup}
use Rattle.route.specs.declared.Step.{Step}
use Rattle.route.specs.declared.Route.{Route}

blank-at : (n i : ℕ) → get_or (replicate n blank) i blank ≡ blank
blank-at zero i = refl
blank-at (suc n) zero = refl
blank-at (suc n) (suc i) = blank-at n i

module _ (r : Route) (full : length r.steps ≡ 64) where
  pub length-steps : length (steps_of r) ≡ r.len
  unfolding steps_of
  length-steps =
      length-append (take r.len r.steps) (replicate (r.len - 64) blank)
      ∙ ap₂ (λ (a b : ℕ). a + b) (length-take r.len r.steps ∙ ap (λ (n : ℕ). min r.len n) full)
      (length-replicate (r.len - 64) blank)
      ∙ omega arith

  -- below 64 the step at i is the record stored there
  pub steps-at : (i : ℕ) → i < r.len → i < 64 → get_or (steps_of r) i blank ≡ get_or r.steps i blank
  unfolding steps_of
  steps-at i h k =
      get_or-append (take r.len r.steps) (replicate (r.len - 64) blank) blank i short
      ∙ get_or-take r.len r.steps i blank h
    where
      short : i < length (take r.len r.steps)
      short = omega (arith, length-take r.len r.steps, full)

  -- past 64 it is blank
  pub steps-past : (i : ℕ) → 64 ≤ i → get_or (steps_of r) i blank ≡ blank
  unfolding steps_of
  steps-past i h =
      let stored : length (take r.len r.steps) ≤ i = omega (arith, length-take r.len r.steps, full) in
      get_or-append_right (take r.len r.steps) (replicate (r.len - 64) blank) i blank stored ∙ blank-at (r.len - 64) _

-- any list of steps, of which there are `count`; `s` is the one at i, and the others follow
pub list_on : (l : List Step) (i : ℕ) (s : Step) (count : ℕ) → count ≡ length l → i < count → s ≡ get_or l i blank
    → drop i l ≡ s ∷ drop (i + 1) l
list_on l i s count counted h is =
    drop-cons l i blank (omega arith)
    ∙ ap {B = List Step} (λ (x : Step). x ∷ drop (suc i) l) (sym is)
    ∙ ap {B = List Step} (λ (n : ℕ). s ∷ drop n l) (sym (add-one i))

-- a union that is taken along: one more step, and the end
pub union_more : (f : Step → ℕ) (acc whole : ℕ) (s : Step) (l k : List Step) → l ≡ s ∷ k → bit_or acc (union f l) ≡ whole
    → bit_or (bit_or acc (f s)) (union f k) ≡ whole
unfolding union
union_more f acc whole s l k e h =
    or_assoc acc (f s) (union f k) ∙ ap (λ (x : List Step). bit_or acc (union f x)) (sym e) ∙ h

pub union-done : (f : Step → ℕ) (acc whole : ℕ) (l : List Step) → l ≡ [] → bit_or acc (union f l) ≡ whole → acc ≡ whole
unfolding union
union-done f acc whole l e h = sym (or_zero_r acc) ∙ ap (λ (x : List Step). bit_or acc (union f x)) (sym e) ∙ h

-- a fold over the steps
onto : (f : Step → ℕ) (acc : ℕ) (l : List Step) → fold (λ (a : ℕ) (s : Step). bit_or a (f s)) acc l ≡ bit_or acc (union f l)
unfolding union
onto f acc [] = sym (or_zero_r acc)
onto f acc (s ∷ l) = onto f (bit_or acc (f s)) l ∙ or_assoc acc (f s) (union f l)

pub fold-union : (f : Step → ℕ) (l : List Step) → fold (λ (a : ℕ) (s : Step). bit_or a (f s)) 0 l ≡ union f l
fold-union f l = onto f 0 l ∙ or_zero_l (union f l)

pub length-names : (l : List Step) → length (names l) ≡ length l
unfolding names
length-names l = length-map l (λ (s : Step). s.name)

pub get_or-names : (l : List Step) (i : ℕ) → get_or (names l) i 0 ≡ (get_or l i blank).name
unfolding names
get_or-names l i = get_or-map (λ (s : Step). s.name) l i blank

pub names-take : (n : ℕ) (l : List Step) → names (take n l) ≡ take n (names l)
unfolding names
names-take n l = sym (take-map (λ (s : Step). s.name) n l)

pub names-drop : (n : ℕ) (l : List Step) → names (drop n l) ≡ drop n (names l)
unfolding names
names-drop n l = sym (drop-map (λ (s : Step). s.name) n l)

pub lookup-name : (n : ℕ) (l : List Step) (s : Step) → lookup n l ≡ some s → s.name ≡ n
unfolding lookup
lookup-name n [] s e = absurd (none-ne-some s e)
lookup-name n (t ∷ l) s e = go (eqb t.name n) refl e (lookup-name n l s)
  where
    go : (b : Bool) → eqb t.name n ≡ b → cond b (some t) (lookup n l) ≡ some s → (lookup n l ≡ some s → s.name ≡ n)
        → s.name ≡ n
    go true h e ih = ap (λ (x : Step). x.name) (sym (some-injective t s e)) ∙ eqb-true t.name n h
    go false h e ih = ih e
