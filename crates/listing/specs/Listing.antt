-- The listing: the text of judge's answer, as bytes.
use Rattle.std.specs.Prelude.{cond, List, ◌++◌, ℕ, eqb}
use Rattle.answering.specs.declared.Judged.{Judged}
use Rattle.listing_lines.specs.Lines.{moved_line, after_lines, order_line, marking_line, value_lines, refused_line}

unfoldable pub moved_text : Judged → List ℕ
moved_text a =
    (moved_line a.kept a.dropped ++ after_lines a.kept a.after)
    ++ (order_line a.len a.order ++ (marking_line a.marking.tokens ++ value_lines a.writers))

unfoldable pub listing : Judged → List ℕ
listing a = cond (eqb a.number 0) (moved_text a) (refused_line a.number a.second)
