-- A number that is written is read: from its first digit to whatever follows it.
-- Assumes nothing.
use mathlib.Core.Path.{◌≡◌, refl, ap, ap₂, ◌∙◌}
use mathlib.Core.Bool.{Bool, true, false, cond, ◌&&◌}
use mathlib.Core.List.{List, ◌∷◌}
use Prim.Native.Nat.{ℕ, zero, suc, ◌+◌, ◌-◌, ◌*◌, ◌^◌, ◌/◌, ◌%◌, ◌≤◌, ◌<◌}
use native.Mathlib.Omega.{arith}
use lib.Dec.{ltb}
use borrow.Author.Tests.{ne_eqb, lt-ltb, le-leb, ltb-true, ltb-false}
use Rattle.version.specs.Limits.{Limits}
use Rattle.version.specs.declared.Version.{Version}
use Rattle.version.proofs.Tens.{tenth}
use Rattle.layout.specs.Text.{Lines, digits, number, Short}
use Rattle.layout.specs.Points.{digit, alive, first, more, ended, next}
use Rattle.layout.specs.Parse.{Line, Parsed, with_num, grown, stored, took, keep, run}
use Rattle.layout.specs.declared.Word.{Word}
use Rattle.layout.specs.declared.Part.{Part}
use Rattle.layout.specs.declared.Point.{Point}
use Rattle.layout.specs.declared.Point.TheVariants.{Digit, Digits, Stuck}

-- more digits than a number has change nothing
pub digits-enough : (d k n : ℕ) (s : List ℕ) → k ≤ d → n < 10 ^ suc k → digits (suc d) n s ≡ digits (suc k) n s
unfolding digits
digits-enough d zero n s h b = rw (lt-ltb n 10 b)
digits-enough zero (suc k) n s h b = absurd (omega arith)
digits-enough (suc d) (suc k) n s h b =
    ap (λ (l : List ℕ). cond (ltb n 10) ((48 + n) ∷ s) l)
    (digits-enough d k (n / 10) ((48 + n % 10) ∷ s) (omega arith) (tenth (suc k) n b))

pub is_digit : (d : ℕ) → d < 10 → digit (48 + d) ≡ true
unfolding digit
is_digit d h = ap₂ (λ (x y : Bool). x && y) (le-leb 48 (48 + d) (omega arith)) (le-leb (48 + d) 57 (omega arith))

module _ (v : Version) where
  -- one byte that the layout has
  pub run_on : (p q : Point) (b : ℕ) (c : Line) (t : Lines) (s : List ℕ) → next v p b ≡ q → alive q ≡ true
      → run v p c t (b ∷ s) ≡ run v q (took p b c) (keep p c t) s
  unfolding run
  run_on p q b c t s e h =
      ap (λ (x : Point). cond (alive x) (run v x (took p b c) (keep p c t) s) (Parsed.broken (b ∷ s))) e
      ∙ ap (λ (x : Bool). cond x (run v q (took p b c) (keep p c t) s) (Parsed.broken (b ∷ s))) h

  number_short : Limits v → (n : ℕ) (s : List ℕ) → Short v n → number n s ≡ digits v.digits n s
  unfolding number
  number_short limits n s h = go v.digits limits.two limits.ten h
    where
      go : (d : ℕ) → 2 ≤ d → d ≤ 10 → n < 10 ^ d → digits 20 n s ≡ digits d n s
      go zero low high b = absurd (omega arith)
      go (suc d) low high b = digits-enough 19 d n s (omega arith) b

  module _ (w : Word) (p : Part) (c : Line) (t : Lines) where
    first-digit : (n : ℕ) (s : List ℕ) → 1 ≤ n → n < 10
        → run v (Digit w p) c t ((48 + n) ∷ s) ≡ run v (Digits w p (v.digits - 1)) (with_num n c) t s
    unfolding next first alive took keep
    first-digit n s low high =
        run_on (Digit w p) (Digits w p (v.digits - 1)) (48 + n) c t s
        (ap (λ (x : Bool). cond x (Digits w p 0) (cond (digit (48 + n)) (Digits w p (v.digits - 1)) Stuck))
        (ne_eqb (48 + n) 48 (omega arith))
        ∙ ap (λ (x : Bool). cond x (Digits w p (v.digits - 1)) Stuck) (is_digit n high))
        refl
        ∙ ap (λ (m : ℕ). run v (Digits w p (v.digits - 1)) (with_num m c) t s) (omega arith)

    more-digit : (k n d : ℕ) (s : List ℕ) → 1 ≤ k → d < 10
        → run v (Digits w p k) (with_num n c) t ((48 + d) ∷ s) ≡ run v (Digits w p (k - 1)) (with_num (n * 10 + d) c) t s
    unfolding next more alive took keep
    more-digit k n d s room high =
        run_on (Digits w p k) (Digits w p (k - 1)) (48 + d) (with_num n c) t s
        (ap (λ (x : Bool). cond x (cond (ltb 0 k) (Digits w p (k - 1)) Stuck) (ended w p (48 + d))) (is_digit d high)
        ∙ ap (λ (x : Bool). cond x (Digits w p (k - 1)) Stuck) (lt-ltb 0 k room))
        refl
        ∙ ap (λ (x : Bool). run v (Digits w p (k - 1)) (cond x (with_num (grown n (48 + d)) c) (stored w (with_num n c)))
        t s) (is_digit d high)
        ∙ ap (λ (m : ℕ). run v (Digits w p (k - 1)) (with_num m c) t s) (omega arith)

    -- the digits of a number from 1 on, and how many may follow
    digits-run : (k n : ℕ) → k ≤ v.digits → 1 ≤ n → n < 10 ^ k
        → (j : ℕ) × (v.digits ≤ j + k) × ((s : List ℕ)
        → run v (Digit w p) c t (digits k n s) ≡ run v (Digits w p j) (with_num n c) t s)
    unfolding digits
    digits-run zero n room low high = absurd (omega arith)
    digits-run (suc k) n room low high = go (ltb n 10) refl
        (λ big. digits-run k (n / 10) (omega arith) (omega (arith, ltb-false n 10 big)) (tenth k n high))
      where
        go : (x : Bool) → ltb n 10 ≡ x → (ltb n 10 ≡ false
            → (j : ℕ) × (v.digits ≤ j + k) × ((s : List ℕ)
            → run v (Digit w p) c t (digits k (n / 10) s) ≡ run v (Digits w p j) (with_num (n / 10) c) t s))
            → (j : ℕ) × (v.digits ≤ j + suc k) ×
            ((s : List ℕ) → run v (Digit w p) c t (cond x ((48 + n) ∷ s) (digits k (n / 10) ((48 + n % 10) ∷ s)))
            ≡ run v (Digits w p j) (with_num n c) t s)
        go true e ih = (v.digits - 1, omega arith, λ s. first-digit n s low (ltb-true n 10 e))
        go false e ih =
            let found = ih e in (
              found.0 - 1,
              omega (arith, found.1),
              λ s. found.2 ((48 + n % 10) ∷ s)
                  ∙ more-digit found.0 (n / 10) (n % 10) s (omega (arith, found.1)) (omega arith)
                  ∙ ap (λ (m : ℕ). run v (Digits w p (found.0 - 1)) (with_num m c) t s) (omega arith),
            )

    -- a whole number, up to a byte that is no digit: how many may follow no longer shows
    past-width : (j b : ℕ) (d : Line) (s : List ℕ) → digit b ≡ false
        → run v (Digits w p j) d t (b ∷ s) ≡ run v (Digits w p 0) d t (b ∷ s)
    unfolding run next more took keep
    past-width j b d s h = rw h

module _ (v : Version) (limits : Limits v) (w : Word) (p : Part) (c : Line) (t : Lines) where
  pub number-run : (n b : ℕ) (s : List ℕ) → Short v n → digit b ≡ false
      → run v (Digit w p) c t (number n (b ∷ s)) ≡ run v (Digits w p 0) (with_num n c) t (b ∷ s)
  unfolding number digits run next first took keep alive
  number-run zero b s short h = refl
  number-run (suc n) b s short h =
      let found = digits-run v w p c t v.digits (suc n) (omega arith) (omega arith) short in
      ap (run v (Digit w p) c t) (number_short v limits (suc n) (b ∷ s) short) ∙ found.2 (b ∷ s)
      ∙ past-width v w p c t found.0 b (with_num (suc n) c) s h
