-- `part_reader::parts::new_head`: its line, then its start line.
use Rattle.tokens.proofs.Bytes.{handed}
use Rattle.part_reader.specs.inner.Prefix.{NewOn}
use Rattle.part_reader.proofs.HeadLines.{head-breaks, new-whole}
use Rattle.part_reader.proofs.parts.new_head.Goals as goal

pub returns-in_err-h : goal.returns-in_err-h
returns-in_err-h c = let a = c.args in handed (NewOn a.v a.s.now a.p a.above) _ _ c.from_residual.ensures.1
    (head-breaks _ _ _ _ _ c.in_err-h.ensures)

pub start_line-requires : goal.start_line-requires
start_line-requires c = record { placed = c.in_ok-h.ensures.placed; count_bound = c.in_ok-h.ensures.fits }

pub returns : goal.returns
returns c = new-whole _ _ _ _ _ c.in_ok-h.ensures _ c.start_line.ensures
