-- `reader::lists::parts_by`: part by part.
use Rattle.reader.proofs.WholeSheet.{broken-into, old-steps-break, new-head-breaks, new-steps-break, job-head-breaks}
use Rattle.reader.proofs.WholeSheet.{dones-break, read-refused, read-facts}
use Rattle.reader.proofs.lists.parts_by.Goals as goal

pub returns-in_err-a : goal.returns-in_err-a
returns-in_err-a c =
    broken-into _ _ _ _ c.from_residual.ensures.1 c.in_err-a.ensures _ _ _

pub returns-in_err-b : goal.returns-in_err-b
returns-in_err-b c =
    broken-into _ _ _ _ c.from_residual-in_err-b.ensures.1 (old-steps-break _ _ _ c.in_ok-a.ensures _
    c.in_err-b.ensures) _ _ _

pub returns-in_err-c : goal.returns-in_err-c
returns-in_err-c c =
    broken-into _ _ _ _ c.from_residual-in_err-c.ensures.1 (new-head-breaks _ _ _ c.in_ok-a.ensures _ _
    c.in_ok-b.ensures _ c.in_err-c.ensures) _ _ _

pub returns-in_err-d : goal.returns-in_err-d
returns-in_err-d c =
    broken-into _ _ _ _ c.from_residual-in_err-d.ensures.1 (new-steps-break _ _ _ c.in_ok-a.ensures _ _
    c.in_ok-b.ensures _ c.in_ok-c.ensures _ c.in_err-d.ensures) _ _ _

pub returns-in_err-e : goal.returns-in_err-e
returns-in_err-e c =
    broken-into _ _ _ _ c.from_residual-in_err-e.ensures.1 (job-head-breaks _ _ _ c.in_ok-a.ensures _ _
    c.in_ok-b.ensures _ c.in_ok-c.ensures _ _ c.in_ok-d.ensures _ c.in_err-e.ensures) _ _ _

pub returns-in_err-f : goal.returns-in_err-f
returns-in_err-f c =
    broken-into _ _ _ _ c.from_residual-in_err-f.ensures.1 (dones-break _ _ _ c.in_ok-a.ensures _ _ c.in_ok-b.ensures
    _ c.in_ok-c.ensures _ _ c.in_ok-d.ensures _ c.in_ok-e.ensures _ c.requires _ c.in_err-f.ensures) _ _ _

pub returns-in-Err : goal.returns-in-Err
returns-in-Err c = read-refused _ _ _ c.in_ok-a.ensures _ _ c.in_ok-b.ensures _ c.in_ok-c.ensures _
    _ c.in_ok-d.ensures _
    c.in_ok-e.ensures _ c.requires _ _ c.in_ok-f.ensures _ c.in-Err.is

pub returns : goal.returns
returns c = read-facts _ _ _ c.in_ok-a.ensures _ _ c.in_ok-b.ensures _ c.in_ok-c.ensures _ _ c.in_ok-d.ensures _
    c.in_ok-e.ensures _ c.requires _ _ c.in_ok-f.ensures _ c.in_default.is
