-- `line_reader::reading::step`: token by token.
use Rattle.tokens.proofs.Bytes.{handed}
use Rattle.line_reader.specs.inner.Lines.{StepOn}
use Rattle.line_reader.proofs.LineTokens.{step-breaks, name-breaks, in-breaks, out-breaks, read-breaks, write-breaks}
use Rattle.line_reader.proofs.LineTokens.{ending-breaks, step-on}
use Rattle.line_reader.proofs.reading.step.Goals as goal

pub returns-in_err-a : goal.returns-in_err-a
returns-in_err-a c = handed (StepOn c.args.v c.args.s.now c.args.from) _ _ c.from_residual.ensures.1
    (step-breaks _ _ _ _ c.in_err-a.ensures)

pub returns-in_err-n : goal.returns-in_err-n
returns-in_err-n c = handed (StepOn c.args.v c.args.s.now c.args.from) _ _ c.from_residual-in_err-n.ensures.1
    (name-breaks _ _ _ _ c.in_ok-a.ensures _ c.in_err-n.ensures)

pub returns-in_err-i : goal.returns-in_err-i
returns-in_err-i c = handed (StepOn c.args.v c.args.s.now c.args.from) _ _ c.from_residual-in_err-i.ensures.1
    (in-breaks _ _ _ _ c.in_ok-a.ensures _ c.in_ok-n.ensures _ c.in_err-i.ensures)

pub returns-in_err-o : goal.returns-in_err-o
returns-in_err-o c = handed (StepOn c.args.v c.args.s.now c.args.from) _ _ c.from_residual-in_err-o.ensures.1
    (out-breaks _ _ _ _ c.in_ok-a.ensures _ c.in_ok-n.ensures _ c.in_ok-i.ensures _ c.in_err-o.ensures)

pub returns-in_err-r : goal.returns-in_err-r
returns-in_err-r c = handed (StepOn c.args.v c.args.s.now c.args.from) _ _ c.from_residual-in_err-r.ensures.1
    (read-breaks _ _ _ _ c.in_ok-a.ensures _ c.in_ok-n.ensures _ c.in_ok-i.ensures _ c.in_ok-o.ensures _
    c.in_err-r.ensures)

pub returns-in_err-w : goal.returns-in_err-w
returns-in_err-w c = handed (StepOn c.args.v c.args.s.now c.args.from) _ _ c.from_residual-in_err-w.ensures.1
    (write-breaks _ _ _ _ c.in_ok-a.ensures _ c.in_ok-n.ensures _ c.in_ok-i.ensures _ c.in_ok-o.ensures _
    c.in_ok-r.ensures _ c.in_err-w.ensures)

pub returns-in_err-e : goal.returns-in_err-e
returns-in_err-e c = handed (StepOn c.args.v c.args.s.now c.args.from) _ _ c.from_residual-in_err-e.ensures.1
    (ending-breaks _ _ _ _ c.in_ok-a.ensures _ c.in_ok-n.ensures _ c.in_ok-i.ensures _ c.in_ok-o.ensures _
    c.in_ok-r.ensures _ c.in_ok-w.ensures _ c.in_err-e.ensures)

pub returns : goal.returns
returns c = step-on _ _ _ _ c.in_ok-a.ensures _ c.in_ok-n.ensures _ c.in_ok-i.ensures _ c.in_ok-o.ensures _
    c.in_ok-r.ensures _ c.in_ok-w.ensures _ c.in_ok-e.ensures
