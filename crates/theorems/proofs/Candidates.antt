-- Candidates are numbered in the rising order of their positions. So a list of candidates and the list of their
-- positions have the same counts and the same dictionary order.
use mathlib.Core.Path.{◌≡◌, refl, sym, ap₂, ◌∙◌}
use mathlib.Core.Bool.{Bool, cond}
use mathlib.Core.List.{List, [], ◌∷◌, map}
use Prim.Native.Nat.{ℕ, zero, suc, ◌+◌, ◌<◌}
use native.Mathlib.Omega.{arith}
use native.Mathlib.Decide.{ℕ_discrete, dec_lt}
use lib.Dec.{eqb}
use lib.ListN.{length, get_or}
use borrow.Author.Tests.{eq-eqb, ne_eqb}
use Rattle.mask.proofs.Members.{Rises}
use Rattle.precedence.specs.Order.{times}
use Rattle.precedence.proofs.Times.{times-head, times-cons-elim}

-- ---- the entries of a list, by their positions in it

pub entry_at : (o : List ℕ) (k : ℕ) → k < length o → 0 < times (get_or o k 0) o
unfolding times
entry_at [] k h = absurd (omega arith)
entry_at (x ∷ o) zero h = times-head x (times x o)
entry_at (x ∷ o) (suc k) h = let n : 0 < times (get_or o k 0) o = entry_at o k (omega arith) in omega arith

pub at_entry : (o : List ℕ) (i : ℕ) → 0 < times i o → (k : ℕ) × (k < length o) × (get_or o k 0 ≡ i)
unfolding times
at_entry [] i n = absurd (omega arith)
at_entry (x ∷ o) i n = times-cons-elim (λ i. (k : ℕ) × (k < suc (length o)) × (get_or (x ∷ o) k 0 ≡ i)) x o
    (0, omega arith, refl) (λ i n. let (k, h, e) = at_entry o i n in (suc k, omega arith, e)) i n

-- every entry is below n
abbrev pub Below : ℕ → List ℕ → Type 0
Below n o = (k : ℕ) → 0 < times k o → k < n

-- an entry of a mapped list comes from an entry
pub map-entry : (f : ℕ → ℕ) (o : List ℕ) (i : ℕ) → 0 < times i (map f o) → (x : ℕ) × (0 < times x o) × (f x ≡ i)
unfolding times
map-entry f [] i n = absurd (omega arith)
map-entry f (x ∷ o) i n = times-cons-elim (λ i. (y : ℕ) × (0 < times y (x ∷ o)) × (f y ≡ i)) (f x) (map f o)
    (x, times-head x (times x o), refl) (λ i n. let (y, h, e) = map-entry f o i n in (y, omega arith, e)) i n

module _ (ks : List ℕ) (up : Rises ks) where
  abbrev at : ℕ → ℕ
  at k = get_or ks k 0

  at_one : (j k : ℕ) → j < length ks → k < length ks → at j ≡ at k → j ≡ k
  at_one j k a b e = go (dec_lt j k) (dec_lt k j)
    where
      go : Dec (j < k) → Dec (k < j) → j ≡ k
      go (yes h) d = absurd (omega (arith, up j k h b))
      go (no h) (yes d) = absurd (omega (arith, up k j d a))
      go (no h) (no d) = omega arith

  pub times-at : (o : List ℕ) → Below (length ks) o → (k : ℕ) → k < length ks → times (at k) (map at o) ≡ times k o
  unfolding times
  times-at [] b k h = refl
  times-at (x ∷ o) b k h = ap₂ (λ (t : Bool) (n : ℕ). cond t 1 0 + n) (go (ℕ_discrete x k))
      (times-at o (λ x n. b x (omega arith)) k h)
    where
      go : Dec (x ≡ k) → eqb (at x) (at k) ≡ eqb x k
      go (yes e) = rw e (eq-eqb (at k) (at k) refl ∙ sym (eq-eqb k k refl))
      go (no n) = ne_eqb (at x) (at k) (λ e. n (at_one x k (b x (times-head x (times x o))) h e)) ∙ sym (ne_eqb x k n)

  -- positions that are all candidates'
  pub find_at : (p : List ℕ) → ((i : ℕ) → 0 < times i p → 0 < times i ks)
      → (q : List ℕ) × (p ≡ map at q) × Below (length ks) q
  unfolding times
  find_at [] h = ([], refl, λ k n. absurd (omega arith))
  find_at (i ∷ p) h =
      let (k, low, e) = at_entry ks i (h i (times-head i (times i p))) in
      let (q, is, b) = find_at p (λ i n. h i (omega arith)) in
      (k ∷ q, ap₂ (λ (x : ℕ) (l : List ℕ). x ∷ l) (sym e) is, times-cons-elim (λ x. x < length ks) k q low b)
