-- `part_reader::parts::old_head`: its line and row 2, then its start line.
use Rattle.tokens.proofs.Bytes.{handed}
use Rattle.part_reader.specs.inner.Prefix.{OldOn}
use Rattle.part_reader.proofs.HeadLines.{old-breaks, old-placed, old-few, old-on}
use Rattle.part_reader.proofs.parts.old_head.Goals as goal

pub returns-in_err-n : goal.returns-in_err-n
returns-in_err-n c = handed (OldOn c.args.v c.args.s.now) _ _ c.from_residual.ensures.1
    (old-breaks _ _ _ c.in_err-n.ensures)

pub start_line-requires : goal.start_line-requires
start_line-requires c = record {
  placed = old-placed _ _ _ c.in_ok-n.ensures _ c.head_row-rows.ensures;
  count_bound = old-few _ _ _ c.in_ok-n.ensures _ c.head_row-rows.ensures;
}

pub returns : goal.returns
returns c = old-on _ _ _ c.in_ok-n.ensures _ c.head_row-rows.ensures _ c.start_line.ensures
