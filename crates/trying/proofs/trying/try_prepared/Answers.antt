-- `trying::trying::try_prepared`: where the straight list ends, and else the rows.
use borrow.Author.Rules.{rules}
use Rattle.trying.proofs.TryRows.{list-straight, list-rows}
use Rattle.trying.proofs.trying.try_prepared.Goals as goal

pub returns-in_default : goal.returns-in_default
returns-in_default c = search (rules, list-rows)

pub returns : goal.returns
returns c = search (rules, list-straight)
