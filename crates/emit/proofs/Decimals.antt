-- A number in base ten: one digit, two, or those of its hundredth and two more; and how many there are at most.
-- Assumes nothing.
use mathlib.Core.Path.{◌≡◌, refl, sym, ap, ◌∙◌}
use mathlib.Core.Bool.{Bool, cond}
use mathlib.Core.List.{List, [], ◌∷◌, ◌++◌, append_assoc, append-nil}
use Prim.Native.Nat.{ℕ, zero, suc, ◌+◌, ◌*◌, ◌/◌, ◌%◌, ◌^◌, ◌≤◌, ◌<◌}
use native.Mathlib.Omega.{arith}
use native.Mathlib.Nat.{pow-suc}
use lib.Dec.{ltb}
use lib.ListN.{length, length-append}
use borrow.Author.Tests.{lt-ltb, le-ltb, ltb-false}
use Rattle.mask.proofs.Truth.{split}
use Rattle.emit.specs.Emit.{Room, Emits}
use Rattle.emit.specs.Numbers.{digits, decimal, pair_text, entry}
use Rattle.emit.proofs.Chains.{parts, First, Second, Two, first-room, second-room, two-emits, emits_then}
use Rattle.emit.proofs.Chains.{emits-as, room-first, room_next, room_as}

tenth : (k n : ℕ) → n < 10 ^ suc k → n / 10 < 10 ^ k
tenth k n h = go (10 ^ k) (10 ^ suc k) (pow-suc 10 k) h
  where
    go : (p q : ℕ) → q ≡ p * 10 → n < q → n / 10 < p
    go p q e b = omega arith

-- more digits than a number has change nothing
pub digits-enough : (d k n : ℕ) → k ≤ d → n < 10 ^ suc k → digits (suc d) n ≡ digits (suc k) n
unfolding digits
digits-enough d zero n h b = rw (lt-ltb n 10 b)
digits-enough zero (suc k) n h b = absurd (omega arith)
digits-enough (suc d) (suc k) n h b =
    ap (λ (l : List ℕ). cond (ltb n 10) ((48 + n) ∷ []) (l ++ ((48 + n % 10) ∷ [])))
    (digits-enough d k (n / 10) (omega arith) (tenth (suc k) n b))

pub decimal-one : (n : ℕ) → n < 10 → decimal n ≡ (48 + n) ∷ []
unfolding decimal digits
decimal-one n h = rw (lt-ltb n 10 h)

decimal-last : (n : ℕ) → 10 ≤ n → n < 2 ^ 64 → decimal n ≡ decimal (n / 10) ++ ((48 + n % 10) ∷ [])
unfolding decimal digits
decimal-last n h b = rw (le-ltb n 10 h) (ap (λ (l : List ℕ). l ++ ((48 + n % 10) ∷ []))
    (sym (digits-enough 19 18 (n / 10) (omega arith) (omega arith))))

pub decimal-pair : (n : ℕ) → 10 ≤ n → n < 100 → decimal n ≡ pair_text n
decimal-pair n low high =
    decimal-last n low (omega arith) ∙ ap (λ (l : List ℕ). l ++ ((48 + n % 10) ∷ []))
    (decimal-one (n / 10) (omega arith))

pub decimal-more : (n : ℕ) → 100 ≤ n → n < 2 ^ 64 → decimal n ≡ decimal (n / 100) ++ pair_text (n % 100)
decimal-more n h b =
    decimal-last n (omega arith) b
    ∙ ap (λ (l : List ℕ). l ++ ((48 + n % 10) ∷ [])) (decimal-last (n / 10) (omega arith) (omega arith))
    ∙ append_assoc (decimal (n / 10 / 10)) ((48 + n / 10 % 10) ∷ []) ((48 + n % 10) ∷ [])
    ∙ (λ i. decimal (hundredth i) ++ ((48 + ten i) ∷ (48 + one i) ∷ []))
  where
    hundredth : n / 10 / 10 ≡ n / 100
    hundredth = omega arith

    ten : n / 10 % 10 ≡ n % 100 / 10
    ten = omega arith

    one : n % 10 ≡ n % 100 % 10
    one = omega arith

-- a number below 10 ^ k has at most k digits
digits-length : (d k n : ℕ) → n < 10 ^ suc k → length (digits d n) ≤ suc k
unfolding digits
digits-length zero k n h = omega arith
digits-length (suc d) k n h =
    split (λ (t : Bool). length (cond t ((48 + n) ∷ []) (digits d (n / 10) ++ ((48 + n % 10) ∷ []))) ≤ suc k) (ltb n 10)
    (λ e. omega arith)
    (λ e. long k h (ltb-false n 10 e) (λ j. digits-length d j (n / 10)))
  where
    long : (k : ℕ) → n < 10 ^ suc k → 10 ≤ n → ((j : ℕ) → n / 10 < 10 ^ suc j → length (digits d (n / 10)) ≤ suc j)
        → length (digits d (n / 10) ++ ((48 + n % 10) ∷ [])) ≤ suc k
    long zero b low ih = absurd (omega arith)
    long (suc j) b low ih = omega (
      arith,
      length-append (digits d (n / 10)) ((48 + n % 10) ∷ []),
      ih j (tenth (suc j) n b),
    )

pub entry_length : (k n : ℕ) → n < 10 ^ suc k → length (entry n) ≤ suc (suc k)
unfolding entry decimal
entry_length k n h = omega (arith, digits-length 20 k n h)

-- whatever the number
digits-most : (k n : ℕ) → length (digits k n) ≤ k
unfolding digits
digits-most zero n = omega arith
digits-most (suc k) n =
    split (λ (t : Bool). length (cond t ((48 + n) ∷ []) (digits k (n / 10) ++ ((48 + n % 10) ∷ []))) ≤ suc k) (ltb n 10)
    (λ e. omega arith)
    (λ e. omega (arith, digits-most k (n / 10), length-append (digits k (n / 10)) ((48 + n % 10) ∷ [])))

pub entry-most : (n : ℕ) → length (entry n) ≤ 21
unfolding entry decimal
entry-most n = omega (arith, digits-most 20 n)

-- ---- the calls that write a number, by how large it is

module _ (n : ℕ) {o : List ℕ} {at : ℕ} where
  pub one-room : n < 10 → Room (decimal n) o at → Room ((48 + n) ∷ []) o at
  one-room h r = room_as r (decimal-one n h)

  pub one-emits : {p : List ℕ} {m : ℕ} → n < 10 → Emits ((48 + n) ∷ []) o at p m → Emits (decimal n) o at p m
  one-emits h w = emits-as (decimal-one n h) w

  pub pair-room : 10 ≤ n → n < 100 → Room (decimal n) o at → Room (pair_text n) o at
  pair-room low high r = room_as r (decimal-pair n low high)

  pub pair-emits : {p : List ℕ} {m : ℕ} → 10 ≤ n → n < 100 → Emits (pair_text n) o at p m → Emits (decimal n) o at p m
  pair-emits low high w = emits-as (decimal-pair n low high) w

  pub more_room : 100 ≤ n → n < 2 ^ 64 → Room (decimal n) o at → Room (decimal (n / 100)) o at
  more_room h b r = room-first _ (pair_text (n % 100)) (room_as r (decimal-more n h b))

  pub last-room : {p : List ℕ} {m : ℕ} → 100 ≤ n → n < 2 ^ 64 → Emits (decimal (n / 100)) o at p m
      → Room (decimal n) o at → Room (pair_text (n % 100)) p m
  last-room h b w r = room_next w (room_as r (decimal-more n h b))

  pub more-emits : {p q : List ℕ} {m k : ℕ} → 100 ≤ n → n < 2 ^ 64 → Emits (decimal (n / 100)) o at p m
      → Emits (pair_text (n % 100)) p m q k → Emits (decimal n) o at q k
  more-emits h b w x = emits-as (decimal-more n h b) (emits_then w x)

-- ---- a pair, and an entry, in parts

pub pair-whole : (n : ℕ) → Two (pair_text n) ((48 + n / 10) ∷ []) ((48 + n % 10) ∷ [])
unfolding parts
pair-whole n = two-emits (pair_text n) ((48 + n / 10) ∷ []) ((48 + n % 10) ∷ []) refl

entry-parts : (n : ℕ) → entry n ≡ parts ((32 ∷ []) ∷ decimal n ∷ [])
unfolding parts entry
entry-parts n = sym (ap (λ (t : List ℕ). 32 ∷ t) (append-nil (decimal n)))

pub entry_first : (n : ℕ) → First (entry n) (32 ∷ [])
entry_first n = first-room (entry n) (32 ∷ []) (decimal n ∷ []) (entry-parts n)

pub entry-second : (n : ℕ) → Second (entry n) (32 ∷ []) (decimal n)
entry-second n = second-room (entry n) (32 ∷ []) (decimal n) [] (entry-parts n)

pub entry_whole : (n : ℕ) → Two (entry n) (32 ∷ []) (decimal n)
entry_whole n = two-emits (entry n) (32 ∷ []) (decimal n) (entry-parts n)
