-- `part_reader::parts::start_line`: its line where the version has one, and rows 2 and 3.
use mathlib.Core.Path.{refl, sym}
use borrow.Author.Rules.{rules}
use Rattle.tokens.proofs.Bytes.{handed}
use Rattle.part_reader.specs.inner.Prefix.{StartLineOn}
use Rattle.part_reader.proofs.StartLines.{start_none, start-breaks, start_fits, start-on, start-past}
use Rattle.part_reader.proofs.PrefixStep.{rows-ok, rows-err}
use Rattle.part_reader.proofs.parts.start_line.Goals as goal

pub returns-then-not-v : goal.returns-then-not-v
returns-then-not-v c = start_none _ _ _ _ c.requires.placed c.requires.count_bound _ c.v.view_is c.if-not-v.true

pub returns-in_err-l : goal.returns-in_err-l
returns-in_err-l c = let a = c.args in handed (StartLineOn a.v a.s.now a.p a.count) _ _ c.from_residual.ensures.1
    (start-breaks _ _ _ _ c.v.view_is c.if-not-v.false _ c.in_err-l.ensures)

pub overflow_add-lines : goal.overflow_add-lines
overflow_add-lines c = search (rules, start_fits)

pub returns-then-is_ok : goal.returns-then-is_ok
returns-then-is_ok c =
    start-on _ _ _ _ c.v.view_is c.if-not-v.false _ c.requires.placed c.requires.count_bound _ c.in_ok-l.ensures _
    (rows-ok _ (sym c.if-is_ok.ensures.value)) c.start_row-rows.ensures

pub returns-else-is_ok : goal.returns-else-is_ok
returns-else-is_ok c =
    start-past _ _ _ _ c.v.view_is c.if-not-v.false _ c.requires.placed c.requires.count_bound _ c.in_ok-l.ensures _
    (rows-err _ (sym c.if-is_ok.ensures.value)) refl
