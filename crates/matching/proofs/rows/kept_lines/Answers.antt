-- `matching::rows::kept_lines`: none of the kept is wrong, or the lowest that is.
use borrow.Author.Rules.{rules}
use Rattle.matching.proofs.KeptWrong.{lowest-room, wrong-none, wrong-missing, wrong-differs}
use Rattle.matching.proofs.rows.kept_lines.Goals as goal

pub returns-then-wrong-eq0 : goal.returns-then-wrong-eq0
returns-then-wrong-eq0 c = search wrong-none

pub name_at-requires : goal.name_at-requires
name_at-requires c = search (rules, lowest-room)

pub returns-then-name_at-eq0 : goal.returns-then-name_at-eq0
returns-then-name_at-eq0 c = search (rules, wrong-missing)

pub returns : goal.returns
returns c = search (rules, wrong-differs)
