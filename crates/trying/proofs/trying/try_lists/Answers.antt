-- `trying::trying::try_lists`: the lines, and where they pass the rest.
use borrow.Author.Rules.{rules}
use Rattle.running.proofs.RunLine.{lines-pass}
use Rattle.trying.proofs.TryRows.{tried-line}
use Rattle.trying.proofs.trying.try_lists.Goals as goal

pub returns-in_err-check_lines : goal.returns-in_err-check_lines
returns-in_err-check_lines c = search (rules, tried-line)

pub try_checked-requires : goal.try_checked-requires
try_checked-requires c = let passed = c.in_ok-check_lines.ensures in search (rules, lines-pass)
