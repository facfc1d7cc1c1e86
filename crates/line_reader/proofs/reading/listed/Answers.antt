-- `line_reader::reading::listed`: its text, and its entries.
use Rattle.tokens.proofs.Bytes.{handed}
use Rattle.line_reader.specs.inner.Lines.{ListedOn}
use Rattle.line_reader.proofs.LineTokens.{text-breaks, listed-on}
use Rattle.line_reader.proofs.reading.listed.Goals as goal

pub returns-in_err-at : goal.returns-in_err-at
returns-in_err-at c = let a = c.args in handed (ListedOn a.v a.s.now a.from a.w.now) _ _ c.from_residual.ensures.1
    (text-breaks _ _ _ _ _ c.in_err-at.ensures)

pub returns : goal.returns
returns c = listed-on _ _ _ _ _ c.in_ok-at.ensures _ c.list.ensures
