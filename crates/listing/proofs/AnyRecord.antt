-- How long each line of any record is at most, by its most entries: an entry of a number below 100 has at most 3 bytes,
-- any other 21. Assumes nothing.
use mathlib.Core.Path.{◌≡◌, ap, ◌∙◌}
use mathlib.Core.Bool.{Bool, cond}
use mathlib.Core.List.{List, [], ◌∷◌, ◌++◌, map}
use Prim.Native.Nat.{ℕ, zero, suc, ◌+◌, ◌*◌, ◌≤◌, ◌<◌}
use native.Mathlib.Omega.{arith}
use native.Mathlib.Nat.{suc-mul}
use lib.Dec.{eqb}
use lib.ListN.{length, get_or, take, length-append, length-take}
use Rattle.mask.specs.Mask.{has, members_from, members, count}
use Rattle.mask.proofs.Truth.{split}
use Rattle.mask.proofs.Count.{count_most}
use Rattle.emit.specs.Numbers.{entry, over}
use Rattle.emit.proofs.Decimals.{entry-most, entry_length}
use Rattle.emit.proofs.Over.{over-map}
use Rattle.precedence.specs.Order.{in_turn}
use Rattle.answering.specs.declared.Judged.{Judged}
use Rattle.listing_lines.specs.Lines.{close, line, moved_line, after_word, after_line, order_word, order_line, marking_word}
use Rattle.listing_lines.specs.Lines.{marking_line, value_word, value_line, value_lines, refused_word, refused_line}

-- ---- as many texts as there are entries, each of at most b bytes

module _ (f : ℕ → List ℕ) (b : ℕ) where
  add-text : (x : ℕ) (l : List ℕ) (k : ℕ) → length (f x) ≤ b → length (over f l) ≤ k * b
      → length (over f (x ∷ l)) ≤ suc k * b
  unfolding over
  add-text x l k h t = omega (arith, length-append (f x) (over f l), suc-mul k b)

  list-long : (l : List ℕ) → ((x : ℕ) → length (f x) ≤ b) → length (over f l) ≤ length l * b
  list-long [] h = unfold over in omega arith
  list-long (x ∷ l) h = add-text x l (length l) (h x) (list-long l h)

  turn-long : (k v : ℕ) → ((x : ℕ) → x < v + k → length (f x) ≤ b) → length (over f (in_turn v k)) ≤ k * b
  unfolding in_turn
  turn-long zero v h = unfold over in omega arith
  turn-long (suc k) v h = add-text v (in_turn (suc v) k) k (h v (omega arith))
      (turn-long k (suc v) (λ x p. h x (omega arith)))

  members-long : (k v m : ℕ) → ((x : ℕ) → x < v + k → length (f x) ≤ b) → length (over f (members_from v k m)) ≤ k * b
  unfolding members_from
  members-long zero v m h = unfold over in omega arith
  members-long (suc k) v m h =
      let others : length (over f (members_from (suc v) k m)) ≤ k * b =
      members-long k (suc v) m (λ x p. h x (omega arith)) in
      split (λ (t : Bool). length (over f (cond t (v ∷ members_from (suc v) k m) (members_from (suc v) k m))) ≤ suc k * b)
      (has m v)
      (λ e. add-text v (members_from (suc v) k m) k (h v (omega arith)) others)
      (λ e. omega (arith, suc-mul k b))

-- ---- the lines

pub line-long : (w l : List ℕ) → length (line w l) ≡ length w + (length (over entry l) + 2)
unfolding line
line-long w l = length-append w (over entry l ++ close)
    ∙ ap (λ (n : ℕ). length w + n) (length-append (over entry l) close)

pub pair-long : (w : List ℕ) (x y : ℕ) → length (line w (x ∷ y ∷ []))
    ≡ length w + (length (entry x) + length (entry y) + 2)
pair-long w x y = line-long w (x ∷ y ∷ []) ∙ unfold over in simp length-append (omega arith)

pub moved_length : (kept dropped : ℕ) → length (moved_line kept dropped)
    ≡ 25 + (length (entry (count 64 kept)) + length (entry dropped))
unfolding moved_line
moved_length kept dropped = simp length-append (omega arith)

pub moved-long : (kept dropped : ℕ) → length (moved_line kept dropped) ≤ 49
moved-long kept dropped =
    omega (
      arith,
      moved_length kept dropped,
      entry_length 1 (count 64 kept) (omega (arith, count_most 64 kept)),
      entry-most dropped,
    )

pub row-long : (i row : ℕ) → i < 64 → length (after_line i row) ≤ 203
unfolding after_line
row-long i row h = split (λ (t : Bool). length (cond t [] (line after_word (suc i ∷ map suc (members 64 row)))) ≤ 203)
    (eqb row 0) (λ e. omega arith) (λ e. some)
  where
    others : length (over entry (map suc (members 64 row))) ≤ 64 * 3
    others = unfold members in rw (over-map entry suc (members_from 0 64 row))
        (members-long (λ (x : ℕ). entry (suc x)) 3 64 0 row (λ x p. entry_length 1 (suc x) (omega arith)))

    some : length (line after_word (suc i ∷ map suc (members 64 row))) ≤ 203
    some = rw (line-long after_word (suc i ∷ map suc (members 64 row)))
        (omega (
          arith,
          add-text entry 3 (suc i) (map suc (members 64 row)) 64 (entry_length 1 (suc i) (omega arith))
              others,
        ))

value-long : (v writer : ℕ) → v < 32 → length (value_line v writer) ≤ 32
unfolding value_line
value-long v writer h = split (λ (t : Bool). length (cond t [] (line value_word (v ∷ writer ∷ []))) ≤ 32) (eqb writer 0)
    (λ e. omega arith) (λ e. omega (
      arith,
      pair-long value_word v writer,
      entry_length 1 v (omega arith),
      entry-most writer,
    ))

-- ---- the lines of a record

module _ (a : Judged) where
  pub order-long : length a.order ≡ 64 → length (order_line a.len a.order) ≤ 1352
  unfolding order_line
  order-long full = omega (
    arith,
    line-long order_word (take a.len a.order),
    list-long entry 21 (take a.len a.order) entry-most,
    length-take a.len a.order,
  )

  pub marking-long : length (marking_line a.marking.tokens) ≤ 202
  unfolding marking_line members
  marking-long = omega (
    arith,
    line-long marking_word (members_from 0 64 a.marking.tokens),
    members-long entry 3 64 0 a.marking.tokens (λ x p. entry_length 1 x (omega arith)),
  )

  pub values-long : length (value_lines a.writers) ≤ 32 * 32
  unfolding value_lines
  values-long = turn-long (λ (v : ℕ). value_line v (get_or a.writers v 0)) 32 32 0
      (λ x p. value-long x (get_or a.writers x 0) (omega arith))

  pub refused-long : length (refused_line a.number a.second) ≤ 52
  unfolding refused_line
  refused-long = omega (
    arith,
    pair-long refused_word a.number a.second,
    entry-most a.number,
    entry-most a.second,
  )
