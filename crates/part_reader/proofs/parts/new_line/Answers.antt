-- `part_reader::parts::new_line`: its number, and rows 4 and 2.
use mathlib.Core.Path.{refl, sym}
use borrow.Author.Rules.{rules}
use Rattle.tokens.proofs.Bytes.{handed}
use Rattle.part_reader.specs.inner.Prefix.{NewLineOn}
use Rattle.part_reader.proofs.HeadLines.{new-breaks, new-on, new-past, new-fits}
use Rattle.part_reader.proofs.PrefixStep.{rows-ok, rows-err}
use Rattle.part_reader.proofs.parts.new_line.Goals as goal

pub returns-in_err-n : goal.returns-in_err-n
returns-in_err-n c = let a = c.args in handed (NewLineOn a.v a.s.now a.p a.above) _ _ c.from_residual.ensures.1
    (new-breaks _ _ _ _ c.in_err-n.ensures)

pub overflow_add-lines : goal.overflow_add-lines
overflow_add-lines c = search (rules, new-fits)

pub returns-then-is_ok : goal.returns-then-is_ok
returns-then-is_ok c = new-on _ _ _ _ _ c.requires c.in_ok-n.ensures _ (rows-ok _ (sym c.if-is_ok.ensures.value))
    c.new_row-rows.ensures

pub returns-else-is_ok : goal.returns-else-is_ok
returns-else-is_ok c = new-past _ _ _ _ _ c.requires c.in_ok-n.ensures _ (rows-err _
    (sym c.if-is_ok.ensures.value)) refl
