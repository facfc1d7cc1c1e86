-- Look-up by name: the position is the first place that has the name, and the step of a name stands there.
use mathlib.Core.Path.{◌≡◌, refl, sym, ap, ap₂, ◌∙◌}
use mathlib.Core.Bool.{cond, not}
use mathlib.Core.List.{List, [], ◌∷◌, map}
use mathlib.Core.Option as maybe
use Prim.Native.Nat.{ℕ, ◌+◌, ◌≤◌, ◌<◌}
use native.Mathlib.Omega.{arith}
use lib.Dec.{eqb, ltb}
use lib.ListN.{length, get_or, length-map}
use borrow.Author.Tests.{eqb-true, eqb-false, eq-eqb, ne_eqb}
use Rattle.std.specs.Prelude as std
use Rattle.std.specs.Prelude.{false, Option, Some, None}
use Rattle.std.specs.List.{position_or_len}
use Rattle.std.proofs.lemmas.Grind.{common_steps}
use Rattle.std.proofs.lemmas.List.{get_or-map}
use Rattle.std.proofs.lemmas.List.Sums.{position_or_len_is, fails_before_first}
use Rattle.std.proofs.lemmas.List.Quantifiers.{position-Some}
use Rattle.std.proofs.lemmas.List.Recursion as recursion
use Rattle.route.specs.Steps.{blank, names, lookup}
use Rattle.route.specs.declared.Step.{Step}
use Rattle.lookup.specs.Position.{position}

-- none of the first i names is n
abbrev pub Lacks : ℕ → List ℕ → ℕ → Type 0
Lacks n l i = (k : ℕ) → k < i → get_or l k 0 ≡ n → ⊥

module _ (n : ℕ) (l : List ℕ) where
  unequal : (k : ℕ) → eqb (get_or l k 0) n ≡ false → get_or l k 0 ≡ n → ⊥
  unequal k e = eqb-false (get_or l k 0) n e

  pub position_is : (i : ℕ) → i < length l → Lacks n l i → get_or l i 0 ≡ n → position n l ≡ Some i
  unfolding position
  position_is i h above here =
      let at : position_or_len (λ x. eqb x n) l ≡ i =
      position_or_len_is (λ x. eqb x n) l i 0 (omega arith) (λ k b. ne_eqb (get_or l k 0) n (above k b))
      (λ b. eq-eqb (get_or l i 0) n here) in
      grind (arith, common_steps)

  pub position-nowhere : Lacks n l (length l) → position n l ≡ None
  unfolding position
  position-nowhere lacks =
      let at : position_or_len (λ x. eqb x n) l ≡ length l =
      position_or_len_is (λ x. eqb x n) l (length l) 0 (omega arith) (λ k b. ne_eqb (get_or l k 0) n (lacks k b))
      (λ b. absurd (omega arith)) in
      grind (arith, common_steps)

  module _ (k : ℕ) (e : position n l ≡ Some k) where
    pub position-below : k < length l
    unfolding position
    position-below = (position-Some (λ x. eqb x n) l k 0 e).0

    pub position_at : get_or l k 0 ≡ n
    unfolding position
    position_at = eqb-true (get_or l k 0) n (position-Some (λ x. eqb x n) l k 0 e).1

    pub position-first : Lacks n l k
    unfolding position
    position-first j h = unequal j ((position-Some (λ x. eqb x n) l k 0 e).2 j h)

  pub position-lacks : position n l ≡ None → Lacks n l (length l)
  unfolding position
  position-lacks e k h =
      let none : length l ≤ position_or_len (λ x. eqb x n) l = grind (arith, common_steps) in
      unequal k (fails_before_first (λ x. eqb x n) l k 0 (omega arith))

-- the first place among the names is that of the first step of the name
first-name : (n : ℕ) (l : List Step)
    → position_or_len (λ x. eqb x n) (map (λ (s : Step). s.name) l) ≡ position_or_len (λ (s : Step). eqb s.name n) l
first-name n [] = refl
first-name n (s ∷ l) = ap (λ (k : ℕ). cond (not (eqb s.name n)) (1 + k) 0) (first-name n l)

pub position_names : (n : ℕ) (l : List Step) (r : Option ℕ) → r ≡ std.position (λ (s : Step). eqb s.name n) l
    → r ≡ position n (names l)
unfolding position names
position_names n l r e =
    e ∙ sym (ap₂ (λ (p k : ℕ). cond (ltb p k) (Some p) None) (first-name n l) (length-map l (λ (s : Step). s.name)))

-- what the first entry of that key has is what the entry at the key's position has
module _ {A B : Type 0} (key : A → ℕ) (value : A → B) (find : ℕ → List A → maybe.Option B)
    (nowhere : (n : ℕ) → find n [] ≡ maybe.none)
    (next : (n : ℕ) (x : A) (l : List A) → find n (x ∷ l) ≡ cond (eqb (key x) n) (maybe.some (value x)) (find n l))
    (n : ℕ) (l : List A) (d : A) where
  keyed : (k : ℕ) → k < length l → get_or (map key l) k 0 ≡ key (get_or l k d)
  keyed k h = get_or-map key l k d 0 h

  pub found_at : (k : ℕ) → position n (map key l) ≡ Some k → find n l ≡ maybe.some (value (get_or l k d))
  found_at k e =
      let inside : k < length l = omega (arith, position-below n (map key l) k e, length-map l key) in
      recursion.found_at (find n) (λ x. eqb (key x) n) (λ x. maybe.some (value x)) maybe.none (nowhere n) (next n) l k d
      inside
      (λ j h. ne_eqb (key (get_or l j d)) n
      (λ p. position-first n (map key l) k e j h (keyed j (omega arith) ∙ p)))
      (eq-eqb (key (get_or l k d)) n (sym (keyed k inside) ∙ position_at n (map key l) k e))

  pub found_nowhere : position n (map key l) ≡ None → find n l ≡ maybe.none
  found_nowhere e =
      recursion.found_nowhere (find n) (λ x. eqb (key x) n) (λ x. maybe.some (value x)) maybe.none (nowhere n) (next n)
      l d
      (λ k h. ne_eqb (key (get_or l k d)) n
      (λ p. position-lacks n (map key l) e k (omega (arith, length-map l key)) (keyed k h ∙ p)))

-- so is the step of a name
pub lookup-at : (n : ℕ) (l : List Step) (k : ℕ) → position n (names l) ≡ Some k
    → lookup n l ≡ maybe.some (get_or l k blank)
unfolding lookup names
lookup-at n l = found_at (λ s. s.name) (λ s. s) lookup (λ n. refl) (λ n s l. refl) n l blank

pub lookup-none : (n : ℕ) (l : List Step) → position n (names l) ≡ None → lookup n l ≡ maybe.none
unfolding lookup names
lookup-none n l = found_nowhere (λ s. s.name) (λ s. s) lookup (λ n. refl) (λ n s l. refl) n l blank
