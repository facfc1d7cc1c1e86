-- A marking after any list that fires is the marking before it, toggled by each step of the list. Toggles may come in
-- any order, so two lists that hold the same names equally often end on the same marking.
use mathlib.Core.Path.{◌≡◌, refl, sym, ap, ◌∙◌}
use mathlib.Core.List.{List, [], ◌∷◌}
use mathlib.Core.Option.{Option, none, some, some-injective}
use Prim.Native.Nat.{ℕ}
use native.Mathlib.Omega.{arith}
use lib.Bits.{bit_xor, xor_zero_r}
use Rattle.mask.proofs.Laws.{xor_assoc}
use Rattle.mask.proofs.Sets.{xor-swap-left}
use Rattle.route.specs.Steps.{names, lookup}
use Rattle.route.specs.Firing.{fire}
use Rattle.route.specs.declared.Step.{Step}
use Rattle.route.proofs.Toggle.{fire-toggles}
use Rattle.precedence.specs.Order.{times}
use Rattle.matching.specs.Straight.{fire_all}
use Rattle.precedence.proofs.Times.{times-head}
use Rattle.theorems.proofs.Insertion.{Insertion, here, there, insertion-times, take_out}
use Rattle.theorems.proofs.Fires.{fire_all-cons}

-- the places that a step toggles
unfoldable pub toggle_of : Option Step → ℕ
toggle_of none = 0
toggle_of (some s) = bit_xor s.ins s.outs

module _ (steps : List Step) where
  unfoldable pub toggles : List ℕ → ℕ
  toggles [] = 0
  toggles (n ∷ l) = bit_xor (toggle_of (lookup n steps)) (toggles l)

  pub fires-toggle : (m e : ℕ) (l : List Step) → fire_all steps m l ≡ some e → e ≡ bit_xor m (toggles (names l))
  unfolding fire_all names toggles toggle_of
  fires-toggle m e [] h = sym (some-injective m e h) ∙ sym (xor_zero_r m)
  fires-toggle m e (s ∷ l) h =
      let r = fire_all-cons steps m e s l h in
      fires-toggle (fire m r.step) e l r.onward
      ∙ ap (λ (x : ℕ). bit_xor x (toggles (names l))) (fire-toggles m r.step r.can)
      ∙ xor_assoc m (bit_xor r.step.ins r.step.outs) (toggles (names l))
      ∙ ap (λ (q : Option Step). bit_xor m (bit_xor (toggle_of q) (toggles (names l)))) (sym r.there)

  -- the one put in comes to the front
  put-toggles : {x : ℕ} {r k : List ℕ} → Insertion x r k → toggles k ≡ bit_xor (toggle_of (lookup x steps)) (toggles r)
  unfolding toggles
  put-toggles here = refl
  put-toggles {x = x} (there {y = y} {r = r} p) =
      ap (bit_xor (toggle_of (lookup y steps))) (put-toggles p)
      ∙ xor-swap-left (toggle_of (lookup y steps)) (toggle_of (lookup x steps)) (toggles r)

  same-toggles : (a b : List ℕ) → ((n : ℕ) → times n a ≡ times n b) → toggles a ≡ toggles b
  unfolding toggles times
  same-toggles [] [] c = refl
  same-toggles [] (y ∷ b) c = absurd (omega (arith, c y, times-head y (times y b)))
  same-toggles (x ∷ a) b c =
      let (r, p) = take_out x b (omega (arith, c x, times-head x (times x a))) in
      ap (bit_xor (toggle_of (lookup x steps))) (same-toggles a r (λ i. omega (arith, c i, insertion-times p i)))
      ∙ sym (put-toggles p)

  pub same-marking : (m e e' : ℕ) (a b : List Step) → fire_all steps m a ≡ some e → fire_all steps m b ≡ some e'
      → ((n : ℕ) → times n (names a) ≡ times n (names b)) → e ≡ e'
  same-marking m e e' a b h k c = fires-toggle m e a h ∙ ap (bit_xor m) (same-toggles (names a) (names b) c)
      ∙ sym (fires-toggle m e' b k)
