-- `line_reader::reading::line_end`: the mark's text where a space stands, and the end.
use Rattle.tokens.proofs.Bytes.{handed}
use Rattle.line_reader.specs.inner.Lines.{EndingOn}
use Rattle.line_reader.proofs.LineTokens.{mark-breaks, marked-breaks, marked-on, unmarked-breaks, unmarked-on}
use Rattle.line_reader.proofs.reading.line_end.Goals as goal

pub returns-in_err-m : goal.returns-in_err-m
returns-in_err-m c = let a = c.args in handed (EndingOn a.v a.s.now a.from) _ _ c.from_residual.ensures.1
    (mark-breaks _ _ _ _ c.marked.ensures c.if-marked.true _ c.in_err-m.ensures)

pub returns-in_err-at : goal.returns-in_err-at
returns-in_err-at c = let a = c.args in handed (EndingOn a.v a.s.now a.from) _ _ c.from_residual-in_err-at.ensures.1
    (marked-breaks _ _ _ _ c.marked.ensures c.if-marked.true _ c.in_ok-m.ensures _ c.in_err-at.ensures)

pub returns-then-marked : goal.returns-then-marked
returns-then-marked c =
    marked-on _ _ _ _ c.marked.ensures c.if-marked.true _ c.in_ok-m.ensures _ c.in_ok-at.ensures

pub returns-in_err-at-2 : goal.returns-in_err-at-2
returns-in_err-at-2 c = let a = c.args in handed (EndingOn a.v a.s.now a.from) _ _ c.from_residual-in_err-at-2.ensures.1
    (unmarked-breaks _ _ _ _ c.marked.ensures c.if-marked.false _ c.in_err-at-2.ensures)

pub returns : goal.returns
returns c = unmarked-on _ _ _ _ c.marked.ensures c.if-marked.false _ c.in_ok-at-2.ensures
