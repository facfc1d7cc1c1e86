-- `out_slice::copy`: 15 where the slice is too short, and else the text.
use mathlib.Core.Path.{sym}
use borrow.Author.Rules.{rules}
use Rattle.out_slice.proofs.TextInSlice.{short-answer, short-out, fits-answer, fits_out}
use Rattle.out_slice.proofs.copy.Goals as goal

pub returns-then-out-n : goal.returns-then-out-n
returns-then-out-n c = record { value = search (rules, short-answer); out_after = search (rules, short-out) }

pub returns : goal.returns
returns c = record {
  value = sym (fits-answer _ _ c.if-out-n.false);
  out_after = rw c.copy_from_slice.ensures.after (sym (fits_out _ _ c.if-out-n.false));
}
