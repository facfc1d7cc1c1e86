-- The rows of the kept as a loop over the kept fills them.
use mathlib.Core.Path.{◌≡◌, refl, ap, ◌∙◌}
use mathlib.Core.Bool.{cond}
use mathlib.Core.List.{List, map}
use Prim.Native.Nat.{ℕ}
use native.Mathlib.Omega.{arith}
use lib.Bits.{bit_and}
use lib.ListN.{length, get_or, set, replicate, length-set}
use Rattle.mask.specs.Mask.{has}
use Rattle.mask.specs.Members.{Takes}
use Rattle.mask.proofs.FromLowest.{set_at, set-taken, set-none}
use Rattle.route.specs.declared.Step.{Step}
use Rattle.precedence.proofs.Filled.{zeros-at}
use Rattle.precedence.specs.Precedence.{row}
use Rattle.precedence.specs.Order.{in_turn}
use Rattle.precedence.specs.Table.{table}
use Rattle.precedence.proofs.InTurn.{get_or-map-in_turn}
use Rattle.answering.specs.Answer.{after_of}
use Rattle.answering.proofs.Filling.{filling-done}

-- the row at i, with the kept alone
abbrev pub kept_row : List ℕ → ℕ → ℕ → ℕ
kept_row rows kept i = bit_and (get_or rows i 0) kept

-- once the members of `left` are filled too, all kept are
pub record Rows (rows : List ℕ) (kept : ℕ) (after : List ℕ) (left : ℕ) : Type 0 where
  pub room : length after ≡ 64
  pub filled : (v : ℕ) → set_at (kept_row rows kept) left after v ≡ set_at (kept_row rows kept) kept (replicate 64 0) v

pub rows-init : (rows : List ℕ) (kept left : ℕ) → left ≡ kept → Rows rows kept (replicate 64 0) left
rows-init rows kept left e = rw e record { room = refl; filled = λ v. refl }

module _ (rows : List ℕ) (kept : ℕ) (after : List ℕ) (left : ℕ) (inv : Rows rows kept after left) where
  pub rows_step : (i left' : ℕ) → Takes 64 left i left' → Rows rows kept (set after i (kept_row rows kept i)) left'
  rows_step i left' took = record {
    room = length-set after i _ ∙ inv.room;
    filled = λ v. set-taken (kept_row rows kept) 64 left i left' after took (omega (arith, inv.room)) v
        ∙ inv.filled v;
  }

  pub rows-done : left ≡ 0 → (l : List Step) → rows ≡ table l → after ≡ map (after_of l kept) (in_turn 0 64)
  unfolding after_of table
  rows-done e l is = filling-done (after_of l kept) 64 after inv.room (λ i h.
      set-none (kept_row rows kept) left after i e
      ∙ inv.filled i
      ∙ ap (λ (x : ℕ). cond (has kept i) (kept_row rows kept i) x) (zeros-at 64 i)
      ∙ ap (λ (r : ℕ). cond (has kept i) (bit_and r kept) 0)
      (ap (λ (a : List ℕ). get_or a i 0) is ∙ get_or-map-in_turn (row l) 0 64 i h ∙ ap (row l) (omega arith)))
