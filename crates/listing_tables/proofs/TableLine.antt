-- A line of a table in the parts that its calls write.
-- Assumes nothing.
use mathlib.Core.Path.{◌≡◌, sym, ◌∙◌}
use mathlib.Core.List.{List, [], ◌∷◌, ◌++◌, map}
use Prim.Native.Nat.{ℕ, suc, ◌+◌}
use native.Mathlib.Numerals.{add-one}
use borrow.Author.Tests.{eq-eqb, ne_eqb}
use Rattle.mask.specs.Mask.{members}
use Rattle.emit.specs.Emit.{Emits}
use Rattle.emit.specs.Numbers.{entry, over}
use Rattle.emit.proofs.Chains.{parts, First, Second, Third, Three, first-room, second-room, third-room, three-emits}
use Rattle.emit.proofs.Chains.{emits_none}
use Rattle.emit.proofs.Over.{from_one}
use Rattle.listing_lines.specs.Lines.{close, after_word, after_line, value_word, value_line}
use Rattle.listing_lines.proofs.Line.{first-parts, pair_parts}

after-parts : (i row : ℕ) → (row ≡ 0 → ⊥) → after_line i row
    ≡ parts ((after_word ++ entry (i + 1)) ∷ over (λ (v : ℕ). entry (1 + v)) (members 64 row) ∷ close ∷ [])
unfolding after_line
after-parts i row some =
    rw (ne_eqb row 0 some) (first-parts after_word (suc i) (map suc (members 64 row)))
    ∙ (λ j. parts ((after_word ++ entry (sym (add-one i) j)) ∷ sym (from_one (members 64 row)) j ∷ close ∷ []))

value-parts : (v writer : ℕ) → (writer ≡ 0 → ⊥) → value_line v writer
    ≡ parts ((value_word ++ entry v) ∷ entry writer ∷ close ∷ [])
unfolding value_line
value-parts v writer some = rw (ne_eqb writer 0 some) (pair_parts value_word v writer)

-- ---- the room that their calls have

module _ (i row : ℕ) (some : row ≡ 0 → ⊥) where
  pub after_first : First (after_line i row) (after_word ++ entry (i + 1))
  after_first = first-room _ _ _ (after-parts i row some)

  pub after-second : Second (after_line i row) (after_word ++ entry (i + 1))
      (over (λ (v : ℕ). entry (1 + v)) (members 64 row))
  after-second = second-room _ _ _ _ (after-parts i row some)

  pub after-third : Third (after_line i row) (after_word ++ entry (i + 1))
      (over (λ (v : ℕ). entry (1 + v)) (members 64 row)) close
  after-third = third-room _ _ _ _ _ (after-parts i row some)

  pub after-whole : Three (after_line i row) (after_word ++ entry (i + 1))
      (over (λ (v : ℕ). entry (1 + v)) (members 64 row)) close
  after-whole = three-emits _ _ _ _ (after-parts i row some)

module _ (v writer : ℕ) (some : writer ≡ 0 → ⊥) where
  pub value-first : First (value_line v writer) (value_word ++ entry v)
  value-first = first-room _ _ _ (value-parts v writer some)

  pub value-second : Second (value_line v writer) (value_word ++ entry v) (entry writer)
  value-second = second-room _ _ _ _ (value-parts v writer some)

  pub value-third : Third (value_line v writer) (value_word ++ entry v) (entry writer) close
  value-third = third-room _ _ _ _ _ (value-parts v writer some)

  pub value-whole : Three (value_line v writer) (value_word ++ entry v) (entry writer) close
  value-whole = three-emits _ _ _ _ (value-parts v writer some)

-- an empty row, and a variable that is blank, have no line
module _ {o : List ℕ} {n : ℕ} where
  pub after_none : (i row : ℕ) → row ≡ 0 → Emits (after_line i row) o n o n
  unfolding after_line
  after_none i row e = rw (eq-eqb row 0 e) (emits_none o n)

  pub value_none : (v writer : ℕ) → writer ≡ 0 → Emits (value_line v writer) o n o n
  unfolding value_line
  value_none v writer e = rw (eq-eqb writer 0 e) (emits_none o n)
