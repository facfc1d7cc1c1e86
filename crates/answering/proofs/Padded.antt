-- An array of occurrence numbers with 0 in the unused entries, entry by entry.
use mathlib.Core.Path.{◌≡◌, refl, sym, ap, ◌∙◌}
use mathlib.Core.List.{List, [], ◌∷◌, ◌++◌, map}
use Prim.Native.Nat.{ℕ, zero, suc, ◌+◌, ◌≤◌, ◌<◌}
use native.Mathlib.Omega.{arith}
use native.Mathlib.Numerals.{add-one}
use lib.ListN.{length, get_or, take, drop, length-drop, replicate, length-append, length-replicate}
use lib.Seq.{length-take-le, get_or-take, get_or-drop, ext_get_or}
use Rattle.precedence.specs.Order.{in_turn}
use Rattle.answering.specs.Answer.{padded}
use Rattle.answering.proofs.Filling.{Filling, filling-done}
use Rattle.precedence.proofs.Filled.{zeros-at}

zeros-behind : (x z : List ℕ) → ((k : ℕ) → get_or z k 0 ≡ 0) → (k : ℕ) → get_or (x ++ z) k 0 ≡ get_or x k 0
zeros-behind [] z none k = none k
zeros-behind (a ∷ x) z none zero = refl
zeros-behind (a ∷ x) z none (suc k) = zeros-behind x z none k

pub padded-is : (n : ℕ) (x a : List ℕ) → length a ≡ n → ((k : ℕ) → get_or a k 0 ≡ get_or x k 0) → a ≡ padded n x
unfolding padded
padded-is n x a long e =
    ext_get_or 0 a (take n (x ++ replicate n 0))
    (long ∙ sym (length-take-le n (x ++ replicate n 0)
    (omega (arith, length-append x (replicate n 0), length-replicate {A = ℕ} n 0))))
    (λ k h. e k
    ∙ sym (get_or-take n (x ++ replicate n 0) k 0 (omega arith) ∙ zeros-behind x (replicate n 0) (zeros-at n) k))

pub map_at : (f : ℕ → ℕ) (o : List ℕ) (k : ℕ) → k < length o → get_or (map f o) k 0 ≡ f (get_or o k 0)
map_at f [] k h = absurd (omega arith)
map_at f (x ∷ o) zero h = refl
map_at f (x ∷ o) (suc k) h = map_at f o k (omega arith)

-- numbers at the front of an array of zeros
pub padded-front : (n : ℕ) (x : List ℕ) → n ≤ 64 → length x ≡ n → x ++ drop n (replicate 64 0) ≡ padded 64 x
padded-front n x low long =
    padded-is 64 x (x ++ drop n (replicate 64 0))
    (omega (
      arith,
      length-append x (drop n (replicate 64 0)),
      length-drop n (replicate {A = ℕ} 64 0),
      length-replicate {A = ℕ} 64 0,
      long,
    ))
    (zeros-behind x (drop n (replicate 64 0)) (λ j. get_or-drop n (replicate 64 0) j 0 ∙ zeros-at 64 (n + j)))

-- all in turn
pub padded-turns : (n : ℕ) (x : List ℕ) → n ≤ 64 → length x ≡ n → Filling (λ k. k + 1) n x
    → x ++ drop n (replicate 64 0) ≡ padded 64 (map suc (in_turn 0 n))
padded-turns n x low long filled =
    padded-front n x low long ∙ ap (padded 64) (filling-done suc n x long (λ j h. filled j h ∙ add-one j))
