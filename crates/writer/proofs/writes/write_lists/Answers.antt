-- `writer::writes::write_lists`: the lines, then the text.
use borrow.Author.Rules.{rules}
use Rattle.running.proofs.RunLine.{lines-pass}
use Rattle.out_slice.proofs.PastRows.{refused-answer, refused-out, text-answer, text_out}
use Rattle.writer.proofs.Bound.{text-short}
use Rattle.writer.proofs.writes.write_lists.Goals as goal

pub returns-in_err-check_lines : goal.returns-in_err-check_lines
returns-in_err-check_lines c = (search (rules, refused-answer), search (rules, refused-out))

pub write_text-requires : goal.write_text-requires
write_text-requires c =
    let passed = c.in_ok-check_lines.ensures in
    search (rules, lines-pass, text-short)

pub returns : goal.returns
returns c =
    let passed = c.in_ok-check_lines.ensures in
    (search (rules, lines-pass, text-answer), search (rules, lines-pass, text_out))
