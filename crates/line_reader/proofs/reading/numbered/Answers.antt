-- `line_reader::reading::numbered`: token by token.
use Rattle.tokens.proofs.Bytes.{handed}
use Rattle.line_reader.specs.inner.Lines.{NumberedOn}
use Rattle.line_reader.proofs.LineTokens.{word-breaks, number-breaks, end-breaks, numbered-on}
use Rattle.line_reader.proofs.reading.numbered.Goals as goal

pub returns-in_err-a : goal.returns-in_err-a
returns-in_err-a c = let a = c.args in handed (NumberedOn a.v a.s.now a.from a.w.now) _ _ c.from_residual.ensures.1
    (word-breaks _ _ _ _ _ c.in_err-a.ensures)

pub returns-in_err-n : goal.returns-in_err-n
returns-in_err-n c =
    let a = c.args in handed (NumberedOn a.v a.s.now a.from a.w.now) _ _ c.from_residual-in_err-n.ensures.1
    (number-breaks _ _ _ _ _ c.in_ok-a.ensures _ c.in_err-n.ensures)

pub returns-in_err-at : goal.returns-in_err-at
returns-in_err-at c =
    let a = c.args in handed (NumberedOn a.v a.s.now a.from a.w.now) _ _ c.from_residual-in_err-at.ensures.1
    (end-breaks _ _ _ _ _ c.in_ok-a.ensures _ c.in_ok-n.ensures _ c.in_err-at.ensures)

pub returns : goal.returns
returns c = numbered-on _ _ _ _ _ c.in_ok-a.ensures _ c.in_ok-n.ensures _ c.in_ok-at.ensures
