-- `line_reader::reading::start`: its list, and the LF.
use Rattle.tokens.proofs.Bytes.{handed}
use Rattle.line_reader.specs.inner.Lines.{StartOn}
use Rattle.line_reader.proofs.LineTokens.{places-breaks, lf-breaks, start-on}
use Rattle.line_reader.proofs.reading.start.Goals as goal

pub returns-in_err-l : goal.returns-in_err-l
returns-in_err-l c = let a = c.args in handed (StartOn a.v a.s.now a.from) _ _ c.from_residual.ensures.1
    (places-breaks _ _ _ _ c.in_err-l.ensures)

pub returns-in_err-at : goal.returns-in_err-at
returns-in_err-at c = let a = c.args in handed (StartOn a.v a.s.now a.from) _ _ c.from_residual-in_err-at.ensures.1
    (lf-breaks _ _ _ _ c.in_ok-l.ensures _ c.in_err-at.ensures)

pub returns : goal.returns
returns c = start-on _ _ _ _ c.in_ok-l.ensures _ c.in_ok-at.ensures
