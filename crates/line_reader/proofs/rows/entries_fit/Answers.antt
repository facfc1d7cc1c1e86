-- `line_reader::rows::entries_fit`: the two tests in turn.
use mathlib.Core.Path.{refl}
use borrow.Author.Tests.{le-leb, lt-leb}
use Rattle.mask.proofs.Truth.{and_yes, and_no}
use Rattle.line_reader.specs.inner.Lines.{entries_fit}
use Rattle.line_reader.proofs.rows.entries_fit.Goals as goal

pub returns-then-e : goal.returns-then-e
unfolding entries_fit
returns-then-e c = and_yes refl (le-leb _ _ c.if-e.true) refl

pub returns-else-e : goal.returns-else-e
unfolding entries_fit
returns-else-e c = and_no _ refl (lt-leb _ _ c.if-e.false)
