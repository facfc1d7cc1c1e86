-- How long the texts of members and of positions are, against those of all positions in turn.
-- Assumes nothing.
use mathlib.Core.Path.{◌≡◌, refl, ap, ◌∙◌}
use mathlib.Core.Bool.{Bool, true, false, cond}
use mathlib.Core.List.{List, [], ◌∷◌}
use Prim.Native.Nat.{ℕ, zero, suc, ◌+◌, ◌-◌, ◌*◌, ◌≤◌, ◌<◌}
use native.Mathlib.Omega.{arith}
use native.Mathlib.Nat.{suc-mul}
use lib.ListN.{length, length-append}
use borrow.Author.Tests.{lt-ltb, le-ltb}
use Rattle.mask.specs.Mask.{has, below, members_from, members}
use Rattle.mask.proofs.Truth.{split}
use Rattle.mask.proofs.Laws.{has-below}
use Rattle.emit.specs.Numbers.{over}
use Rattle.precedence.specs.Order.{in_turn}

-- the bytes of all texts
abbrev pub size : (ℕ → List ℕ) → List ℕ → ℕ
size f l = length (over f l)

pub size-cons : (f : ℕ → List ℕ) (x : ℕ) (l : List ℕ) → size f (x ∷ l) ≡ length (f x) + size f l
unfolding over
size-cons f x l = length-append (f x) (over f l)

-- texts that are no longer, position by position
pub size-most : (f g : ℕ → List ℕ) (v k : ℕ) → ((x : ℕ) → x < v + k → length (f x) ≤ length (g x))
    → size f (in_turn v k) ≤ size g (in_turn v k)
unfolding in_turn
size-most f g v zero h = unfold over in omega arith
size-most f g v (suc k) h =
    omega (
      arith,
      size-cons f v (in_turn (suc v) k),
      size-cons g v (in_turn (suc v) k),
      h v (omega arith),
      size-most f g (suc v) k (λ x p. h x (omega arith)),
    )

-- more positions
pub size-more : (f : ℕ → List ℕ) (v a b : ℕ) → a ≤ b → size f (in_turn v a) ≤ size f (in_turn v b)
unfolding in_turn
size-more f v zero b h = unfold over in omega arith
size-more f v (suc a) zero h = absurd (omega arith)
size-more f v (suc a) (suc b) h =
    omega (
      arith,
      size-cons f v (in_turn (suc v) a),
      size-cons f v (in_turn (suc v) b),
      size-more f (suc v) a b (omega arith),
    )

-- members that are all among a positions
pub size-members : (f : ℕ → List ℕ) (k v a m : ℕ) → ((x : ℕ) → x < v + k → has m x ≡ true → x < v + a)
    → size f (members_from v k m) ≤ size f (in_turn v a)
unfolding members_from in_turn
size-members f zero v a m h = unfold over in omega arith
size-members f (suc k) v zero m h =
    split (λ (t : Bool). size f (cond t (v ∷ members_from (suc v) k m) (members_from (suc v) k m)) ≤ size f []) (has m v)
    (λ e. absurd (omega (arith, h v (omega arith) e)))
    (λ e. size-members f k (suc v) zero m (λ x p q. omega (arith, h x (omega arith) q)))
size-members f (suc k) v (suc a) m h =
    let rest : size f (members_from (suc v) k m) ≤ size f (in_turn (suc v) a) =
    size-members f k (suc v) a m (λ x p q. omega (arith, h x (omega arith) q)) in
    split (λ (t : Bool). size f (cond t (v ∷ members_from (suc v) k m) (members_from (suc v) k m)) ≤ size f
    (v ∷ in_turn (suc v) a)) (has m v)
    (λ e. omega (arith, size-cons f v (members_from (suc v) k m), size-cons f v (in_turn (suc v) a)))
    (λ e. omega (arith, size-cons f v (in_turn (suc v) a)))

-- as many texts as there are members, each of at most b bytes
pub size-count : (f : ℕ → List ℕ) (b k v m : ℕ) → ((x : ℕ) → x < v + k → length (f x) ≤ b)
    → size f (members_from v k m) ≤ length (members_from v k m) * b
unfolding members_from
size-count f b zero v m h = unfold over in omega arith
size-count f b (suc k) v m h =
    let rest : size f (members_from (suc v) k m) ≤ length (members_from (suc v) k m) * b =
    size-count f b k (suc v) m (λ x p. h x (omega arith)) in
    split (λ (t : Bool). size f (cond t (v ∷ members_from (suc v) k m) (members_from (suc v) k m)) ≤ length
    (cond t (v ∷ members_from (suc v) k m) (members_from (suc v) k m)) * b) (has m v)
    (λ e. omega (
      arith,
      size-cons f v (members_from (suc v) k m),
      h v (omega arith),
      suc-mul (length (members_from (suc v) k m)) b,
    ))
    (λ e. rest)

-- ---- the members of `below n` are all positions below n

below-from : (a b v n : ℕ) → v + a ≡ n → members_from v (a + b) (below n) ≡ in_turn v a
unfolding in_turn members_from
below-from zero b v n e = past (0 + b) v (omega arith)
  where
    past : (b v : ℕ) → n ≤ v → members_from v b (below n) ≡ []
    past zero v h = refl
    past (suc b) v h = let out : has (below n) v ≡ false =
        has-below n v ∙ le-ltb v n h in rw out (past b (suc v) (omega arith))
below-from (suc a) b v n e =
    let inside : has (below n) v ≡ true = has-below n v ∙ lt-ltb v n (omega arith) in
    let one_more : suc a + b ≡ suc (a + b) = omega arith in
    ap (λ (k : ℕ). members_from v k (below n)) one_more
    ∙ rw inside (ap (λ (l : List ℕ). v ∷ l) (below-from a b (suc v) n (omega arith)))

pub below-members : (n w : ℕ) → n ≤ w → members w (below n) ≡ in_turn 0 n
unfolding members
below-members n w h =
    let whole : w ≡ n + (w - n) = omega arith in
    ap (λ (k : ℕ). members_from 0 k (below n)) whole ∙ below-from n (w - n) 0 n (omega arith)
