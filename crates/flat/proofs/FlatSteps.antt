-- Steps as numbers: step i stands at the four numbers from 4 i on. Each law goes down i and the numbers together, four
-- at a time.
use mathlib.Core.Path.{◌≡◌, refl, sym, ap, ◌∙◌}
use mathlib.Core.Bool.{Bool, true, false}
use mathlib.Core.List.{List, [], ◌∷◌}
use Prim.Native.Nat.{ℕ, zero, suc, ◌+◌, ◌-◌, ◌*◌, ◌/◌, ◌%◌, ◌≤◌, ◌<◌}
use native.Mathlib.Omega.{arith}
use borrow.Author.Tests.{le-leb, lt-leb}
use lib.Dec.{leb}
use lib.Seq.{length-take-le, take_all}
use lib.ListN.{length, get_or, set, take, drop, replicate, length-set, length-take}
use Rattle.route.specs.Steps.{blank, names}
use Rattle.flat.specs.Flat.{step_from, first_number, steps_in}
use Rattle.route.specs.declared.Step.{Step}
use Rattle.route.proofs.StepList.{names-take, names-drop}

pub length-flat : (w : List ℕ) → length (steps_in w) ≡ length w / 4
unfolding steps_in
length-flat [] = refl
length-flat (n ∷ []) = refl
length-flat (n ∷ i ∷ []) = refl
length-flat (n ∷ i ∷ o ∷ []) = refl
length-flat (n ∷ i ∷ o ∷ v ∷ w) = omega (arith, length-flat w)

-- what says of a step's four numbers that they are there
pub ruleset flat_lengths = (length-flat, length-set)

-- the steps one by one: of fewer than four numbers there is none, and of more the first four are the first
pub flat-none : (w : List ℕ) → length w < 4 → steps_in w ≡ []
unfolding steps_in
flat-none [] h = refl
flat-none (n ∷ []) h = refl
flat-none (n ∷ a ∷ []) h = refl
flat-none (n ∷ a ∷ b ∷ []) h = refl
flat-none (n ∷ a ∷ b ∷ c ∷ w) h = absurd (omega arith)

pub flat-first : (w : List ℕ) (s : Step) → 4 ≤ length w
    → s ≡ step_from (get_or w 0 0) (get_or w 1 0) (get_or w 2 0) (get_or w 3 0)
    → steps_in w ≡ s ∷ steps_in (take (length w - 4) (drop 4 w))
unfolding steps_in
flat-first [] s h e = absurd (omega arith)
flat-first (n ∷ []) s h e = absurd (omega arith)
flat-first (n ∷ a ∷ []) s h e = absurd (omega arith)
flat-first (n ∷ a ∷ b ∷ []) s h e = absurd (omega arith)
flat-first (n ∷ a ∷ b ∷ c ∷ w) s h e =
    ap (λ (t : Step). t ∷ steps_in w) (sym e) ∙ ap (λ (v : List ℕ). s ∷ steps_in v) (sym (take_all _ w (omega arith)))

four-more : (k : ℕ) → 4 * suc k ≡ suc (suc (suc (suc (4 * k))))
four-more k = omega arith

-- a number past the first step's
past : (n a b c : ℕ) (w : List ℕ) (x y : ℕ) → x ≡ suc (suc (suc (suc y))) → get_or (n ∷ a ∷ b ∷ c ∷ w) x 0 ≡ get_or w y 0
past n a b c w x y e = ap (λ (z : ℕ). get_or (n ∷ a ∷ b ∷ c ∷ w) z 0) e

-- four equations at once
same4 : {A : Type 0} (f : ℕ → ℕ → ℕ → ℕ → A) {n n' a a' b b' c c' : ℕ} → n ≡ n' → a ≡ a' → b ≡ b' → c ≡ c'
    → f n a b c ≡ f n' a' b' c'
same4 f {n = n} {n' = n'} {a = a} {a' = a'} {b = b} {b' = b'} {c = c} {c' = c'} p q r s =
    ap (λ (x : ℕ). f x a b c) p ∙ ap (λ (x : ℕ). f n' x b c) q ∙ ap (λ (x : ℕ). f n' a' x c) r
    ∙ ap (λ (x : ℕ). f n' a' b' x) s

-- step i is made of the numbers at 4 i and the three after it
pub flat-at : (w : List ℕ) (i : ℕ) → i < length (steps_in w)
    → get_or (steps_in w) i blank ≡ step_from (get_or w (4 * i) 0) (get_or w (4 * i + 1) 0) (get_or w (4 * i + 2) 0)
    (get_or w (4 * i + 3) 0)
unfolding steps_in
flat-at [] i h = elim h [ ]
flat-at (n ∷ []) i h = elim h [ ]
flat-at (n ∷ (a ∷ [])) i h = elim h [ ]
flat-at (n ∷ (a ∷ (b ∷ []))) i h = elim h [ ]
flat-at (n ∷ a ∷ b ∷ c ∷ w) zero h = refl
flat-at (n ∷ a ∷ b ∷ c ∷ w) (suc i) h =
    flat-at w i (omega arith)
    ∙ same4
    step_from
    (sym (past n a b c w (4 * suc i) (4 * i) (omega arith)))
    (sym (past n a b c w (4 * suc i + 1) (4 * i + 1) (omega arith)))
    (sym (past n a b c w (4 * suc i + 2) (4 * i + 2) (omega arith)))
    (sym (past n a b c w (4 * suc i + 3) (4 * i + 3) (omega arith)))

pub flat-read : (w : List ℕ) (i : ℕ) (s : Step) → i < length (steps_in w)
    → s ≡ step_from (get_or w (4 * i) 0) (get_or w (4 * i + 1) 0) (get_or w (4 * i + 2) 0) (get_or w (4 * i + 3) 0)
    → s ≡ get_or (steps_in w) i blank
flat-read w i s h e = e ∙ sym (flat-at w i h)

-- four numbers stored at 4 i and after it
abbrev pub put4 : List ℕ → ℕ → ℕ → ℕ → ℕ → ℕ → List ℕ
put4 w x n a b c = set (set (set (set w x n) (x + 1) a) (x + 2) b) (x + 3) c

put-past : (n a b c : ℕ) (w : List ℕ) (x y : ℕ) (n' a' b' c' : ℕ) → x ≡ suc (suc (suc (suc y)))
    → put4 (n ∷ a ∷ b ∷ c ∷ w) x n' a' b' c' ≡ n ∷ a ∷ b ∷ c ∷ put4 w y n' a' b' c'
put-past n a b c w x y n' a' b' c' e =
    let e₁ : x + 1 ≡ suc (suc (suc (suc (y + 1)))) = omega (arith, e) in
    let e₂ : x + 2 ≡ suc (suc (suc (suc (y + 2)))) = omega (arith, e) in
    let e₃ : x + 3 ≡ suc (suc (suc (suc (y + 3)))) = omega (arith, e) in
    same4 (λ (p q r s : ℕ). set (set (set (set (n ∷ a ∷ b ∷ c ∷ w) p n') q a') r b') s c') e e₁ e₂ e₃

flat-put : (w : List ℕ) (i n a b c : ℕ) → i < length (steps_in w)
    → steps_in (put4 w (4 * i) n a b c) ≡ set (steps_in w) i (step_from n a b c)
unfolding steps_in
flat-put [] i n a b c h = elim h [ ]
flat-put (x ∷ []) i n a b c h = elim h [ ]
flat-put (x ∷ (y ∷ [])) i n a b c h = elim h [ ]
flat-put (x ∷ (y ∷ (z ∷ []))) i n a b c h = elim h [ ]
flat-put (x ∷ y ∷ z ∷ u ∷ w) zero n a b c h = refl
flat-put (x ∷ y ∷ z ∷ u ∷ w) (suc i) n a b c h =
    ap steps_in (put-past x y z u w (4 * suc i) (4 * i) n a b c (omega arith))
    ∙ ap (λ (l : List Step). step_from x y z u ∷ l) (flat-put w i n a b c (omega arith))

-- the first k steps are those of the first 4 k numbers
take-four : (w : List ℕ) (k : ℕ) → steps_in (take (4 * suc k) w) ≡ steps_in (take (suc (suc (suc (suc (4 * k))))) w)
take-four w k = ap (λ (z : ℕ). steps_in (take z w)) (four-more k)

pub flat-take : (w : List ℕ) (k : ℕ) → steps_in (take (4 * k) w) ≡ take k (steps_in w)
unfolding steps_in
flat-take w zero = refl
flat-take [] (suc k) = take-four [] k
flat-take (n ∷ []) (suc k) = take-four (n ∷ []) k
flat-take (n ∷ a ∷ []) (suc k) = take-four (n ∷ a ∷ []) k
flat-take (n ∷ a ∷ b ∷ []) (suc k) = take-four (n ∷ a ∷ b ∷ []) k
flat-take (n ∷ a ∷ b ∷ c ∷ w) (suc k) =
    take-four (n ∷ a ∷ b ∷ c ∷ w) k ∙ ap (λ (l : List Step). step_from n a b c ∷ l) (flat-take w k)

pub flat-prefix : (w : List ℕ) (k : ℕ) → k ≤ length (steps_in w) → 4 * k ≡ length (take (4 * k) w)
flat-prefix w k h = sym (length-take-le (4 * k) w (omega (arith, length-flat w)))

pub flat-few : (w : List ℕ) (k n : ℕ) → k < n → length (steps_in (take (4 * k) w)) < n
flat-few w k n h = omega (arith, length-flat (take (4 * k) w), length-take (4 * k) w)

pub flat-names : (w : List ℕ) (k : ℕ) → names (steps_in (take (4 * k) w)) ≡ take k (names (steps_in w))
flat-names w k = ap names (flat-take w k) ∙ names-take k (steps_in w)

-- the steps from the k-th on are those of the numbers from 4 k on
drop-four : (w : List ℕ) (k : ℕ) → steps_in (drop (4 * suc k) w) ≡ steps_in (drop (suc (suc (suc (suc (4 * k))))) w)
drop-four w k = ap (λ (z : ℕ). steps_in (drop z w)) (four-more k)

pub flat-drop : (w : List ℕ) (k : ℕ) → steps_in (drop (4 * k) w) ≡ drop k (steps_in w)
unfolding steps_in
flat-drop w zero = refl
flat-drop [] (suc k) = drop-four [] k
flat-drop (n ∷ []) (suc k) = drop-four (n ∷ []) k
flat-drop (n ∷ a ∷ []) (suc k) = drop-four (n ∷ a ∷ []) k
flat-drop (n ∷ a ∷ b ∷ []) (suc k) = drop-four (n ∷ a ∷ b ∷ []) k
flat-drop (n ∷ a ∷ b ∷ c ∷ w) (suc k) = drop-four (n ∷ a ∷ b ∷ c ∷ w) k ∙ flat-drop w k

pub flat-names-drop : (w : List ℕ) (k : ℕ) → names (steps_in (drop (4 * k) w)) ≡ drop k (names (steps_in w))
flat-names-drop w k = ap names (flat-drop w k) ∙ names-drop k (steps_in w)

-- numbers that are all 0 stand for blank steps
pub flat-zeros : (k : ℕ) → steps_in (replicate (4 * k) 0) ≡ replicate k blank
unfolding steps_in
flat-zeros zero = refl
flat-zeros (suc k) =
    ap (λ (z : ℕ). steps_in (replicate z 0)) (four-more k)
    ∙ ap (λ (l : List Step). blank ∷ l) (flat-zeros k)

-- a step's first number tells its name and its mark
first-name : (n : ℕ) (t : Bool) → n < 4294967296 → first_number n t % 4294967296 ≡ n
first-name n true h = omega arith
first-name n false h = omega arith

first-mark : (n : ℕ) (t : Bool) → n < 4294967296 → leb 4294967296 (first_number n t) ≡ t
first-mark n true h = le-leb 4294967296 (n + 4294967296) (omega arith)
first-mark n false h = lt-leb 4294967296 n (omega arith)

-- a step whose numbers have their width comes back as it was
step-again : (s : Step) (x v : ℕ) → x ≡ first_number s.name s.cloth → v ≡ s.reads + s.writes * 4294967296
    → s.name < 4294967296 → s.reads < 4294967296 → s.writes < 4294967296 → step_from x s.ins s.outs v ≡ s
step-again s x v f u n r w =
    let a : x % 4294967296 ≡ s.name = ap (λ (y : ℕ). y % 4294967296) f ∙ first-name s.name s.cloth n in
    let m : leb 4294967296 x ≡ s.cloth = ap (λ (y : ℕ). leb 4294967296 y) f ∙ first-mark s.name s.cloth n in
    let b : v % 4294967296 ≡ s.reads = omega arith in
    let c : v / 4294967296 % 4294967296 ≡ s.writes = omega arith in
    λ i. record { name = a i; cloth = m i; ins = s.ins; outs = s.outs; reads = b i; writes = c i }

-- four numbers stored are one step stored
pub flat-put-step : (w : List ℕ) (i : ℕ) (s : Step) (x v : ℕ) → i < length (steps_in w)
    → x ≡ first_number s.name s.cloth → v ≡ s.reads + s.writes * 4294967296
    → s.name < 4294967296 → s.reads < 4294967296 → s.writes < 4294967296
    → steps_in (put4 w (4 * i) x s.ins s.outs v) ≡ set (steps_in w) i s
flat-put-step w i s x v h f u n r t =
    flat-put w i x s.ins s.outs v h ∙ ap (set (steps_in w) i) (step-again s x v f u n r t)
