-- The loops over lines: the `after` lines of a mask's members, the `value` lines of the variables in turn.
-- Assumes nothing.
use mathlib.Core.Path.{◌≡◌, ap, ◌∙◌}
use mathlib.Core.List.{List, ◌++◌}
use Prim.Native.Nat.{ℕ, suc, ◌+◌, ◌-◌, ◌≤◌, ◌<◌}
use native.Mathlib.Omega.{arith}
use lib.ListN.{get_or}
use Rattle.mask.specs.Mask.{members}
use Rattle.mask.specs.Members.{Takes}
use Rattle.precedence.specs.Order.{in_turn}
use Rattle.emit.specs.Emit.{Room, Emits}
use Rattle.emit.specs.Numbers.{over}
use Rattle.emit.proofs.Loops.{Left, left-start, left-room, left-turn, left_end, left_as, mask-room, mask-turn}
use Rattle.listing_lines.specs.Lines.{after_line, after_lines, value_line, value_lines}

-- ---- rows

abbrev pub line_of : List ℕ → ℕ → List ℕ
line_of rows i = after_line i (get_or rows i 0)

pub after-start : (kept left : ℕ) (rows : List ℕ) {o : List ℕ} {n : ℕ} → left ≡ kept → Room (after_lines kept rows) o n
    → Left (over (line_of rows) (members 64 left)) o n (after_lines kept rows) o n
unfolding after_lines
after-start kept left rows e r = rw e (left-start r)

module _ (rows : List ℕ) (m : ℕ) {o u o₀ : List ℕ} {n n₀ : ℕ}
    (left : Left (over (line_of rows) (members 64 m)) o n u o₀ n₀) where
  pub row_room : {i m' : ℕ} → Takes 64 m i m' → Room (line_of rows i) o n
  row_room = mask-room (line_of rows) m left

  pub row-turn : {i m' k : ℕ} {p : List ℕ} → Takes 64 m i m' → Emits (line_of rows i) o n p k
      → Left (over (line_of rows) (members 64 m')) p k u o₀ n₀
  row-turn = mask-turn (line_of rows) m left

-- ---- variables

-- the lines of the variables from v on
abbrev pub values_from : List ℕ → ℕ → List ℕ
values_from writers v = over (λ (i : ℕ). value_line i (get_or writers i 0)) (in_turn v (32 - v))

module _ (writers : List ℕ) where
  pub values-start : {o : List ℕ} {n : ℕ} → Room (value_lines writers) o n
      → Left (values_from writers 0) o n (value_lines writers) o n
  unfolding value_lines
  values-start r = left-start r

  module _ (v : ℕ) where
    values-next : v < 32 → values_from writers v ≡ value_line v (get_or writers v 0) ++ values_from writers (v + 1)
    unfolding over in_turn
    values-next h =
        ap (λ (k : ℕ). over (λ (i : ℕ). value_line i (get_or writers i 0)) (in_turn v k)) more
        ∙ ap (λ (k : ℕ). value_line v (get_or writers v 0)
        ++ over (λ (i : ℕ). value_line i (get_or writers i 0)) (in_turn k (32 - (v + 1)))) next
      where
        more : 32 - v ≡ suc (32 - (v + 1))
        more = omega arith

        next : suc v ≡ v + 1
        next = omega arith

    module _ {o u o₀ : List ℕ} {n n₀ : ℕ} (left : Left (values_from writers v) o n u o₀ n₀) where
      pub values-room : v < 32 → Room (value_line v (get_or writers v 0)) o n
      values-room h = left-room _ _ (left_as (values-next h) left)

      pub values-turn : {p : List ℕ} {m : ℕ} → v < 32 → Emits (value_line v (get_or writers v 0)) o n p m
          → Left (values_from writers (v + 1)) p m u o₀ n₀
      values-turn h w = left-turn (left_as (values-next h) left) w

      pub values-end : 32 ≤ v → Emits u o₀ n₀ o n
      unfolding over in_turn
      values-end h = let none : 32 - v ≡ 0 = omega arith in left_end (rw none at left)
