-- `shelf::between::entries_of`: a target that isn't later, a number that isn't there, or both places.
use borrow.Author.Rules.{rules}
use Rattle.shelf.proofs.EntriesFound.{not-later, no-edition, no_target, both-found}
use Rattle.shelf.proofs.between.entries_of.Goals as goal

pub returns-then-target-edition : goal.returns-then-target-edition
returns-then-target-edition c = search (rules, not-later)

pub returns-in_err-i : goal.returns-in_err-i
returns-in_err-i c = search (rules, no-edition, c.in_err-i.was)

pub returns-in_err-j : goal.returns-in_err-j
returns-in_err-j c = search (rules, no_target, c.in_ok-i.was, c.in_err-j.was)

pub returns : goal.returns
returns c = search (rules, both-found, c.in_ok-i.was, c.in_ok-j.was)
