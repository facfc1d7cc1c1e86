-- `part_reader::parts::job_head`: its line, and row 4.
use mathlib.Core.Path.{refl, sym}
use borrow.Author.Rules.{rules}
use Rattle.tokens.proofs.Bytes.{handed}
use Rattle.part_reader.specs.inner.Prefix.{JobOn}
use Rattle.part_reader.proofs.HeadLines.{job-breaks, job-on, job-past, job-fits}
use Rattle.part_reader.proofs.PrefixStep.{rows-ok, rows-err}
use Rattle.part_reader.proofs.parts.job_head.Goals as goal

pub returns-in_err-at : goal.returns-in_err-at
returns-in_err-at c = let a = c.args in handed (JobOn a.s.now a.p a.above) _ _ c.from_residual.ensures.1
    (job-breaks _ _ _ c.in_err-at.ensures)

pub overflow_add-lines : goal.overflow_add-lines
overflow_add-lines c = search (rules, job-fits)

pub returns-then-is_ok : goal.returns-then-is_ok
returns-then-is_ok c = job-on _ _ _ _ c.requires c.in_ok-at.ensures _ (rows-ok _ (sym c.if-is_ok.ensures.value))
    c.job_row-rows.ensures

pub returns-else-is_ok : goal.returns-else-is_ok
returns-else-is_ok c = job-past _ _ _ _ c.requires c.in_ok-at.ensures _ (rows-err _ (sym c.if-is_ok.ensures.value)) refl
