-- `sheet_lines::word`: the letters are a part of the table.
use mathlib.Core.Path.{◌≡◌, sym, ◌∙◌}
use Prim.Native.Nat.{ℕ, ◌+◌, ◌-◌, ◌*◌}
use native.Mathlib.Omega.{arith}
use lib.ListN.{length, take, drop}
use Rattle.emit.proofs.Chains.{room_as, emits-as}
use Rattle.layout.specs.Words.{spelling, number_of, word_table}
use Rattle.layout.specs.declared.Word.{Word}
use Rattle.layout.proofs.Letters.{word-short, row_below, letters-at}
use Rattle.sheet_lines.proofs.word.Goals as goal

part-is : (w : Word) (r n : ℕ) → r ≡ number_of w → n ≡ length (spelling w)
    → take (r * 6 + 1 + n - (r * 6 + 1)) (drop (r * 6 + 1) word_table) ≡ spelling w
part-is w r n e f =
    let long : r * 6 + 1 + n - (r * 6 + 1) ≡ length (spelling w) = omega arith in
    (λ i. take (long i) (drop (e i * 6 + 1) word_table)) ∙ letters-at w

-- ---- the word's row and length are small, and its letters stand there

pub overflow_mul-first : goal.overflow_mul-first
overflow_mul-first c = omega (arith, c.place.ensures, row_below c.args.w)

pub overflow_add-first : goal.overflow_add-first
overflow_add-first c = omega (arith, c.place.ensures, row_below c.args.w)

pub overflow_add-last : goal.overflow_add-last
overflow_add-last c = omega (arith, c.place.ensures, row_below c.args.w, c.size-n.ensures, word-short c.args.w)

pub slice_bounds-text-end : goal.slice_bounds-text-end
slice_bounds-text-end c = omega (arith, c.place.ensures, row_below c.args.w, c.size-n.ensures, word-short c.args.w)

pub text-requires : goal.text-requires
text-requires c = room_as c.requires (sym (part-is _ _ _ c.place.ensures c.size-n.ensures))

pub returns : goal.returns
returns c = emits-as (sym (part-is _ _ _ c.place.ensures c.size-n.ensures)) c.text.ensures
