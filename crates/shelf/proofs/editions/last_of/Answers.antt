-- `shelf::editions::last_of`: none, or the last one.
use borrow.Author.Rules.{rules}
use Rattle.shelf.proofs.Numbers.{last_is}
use Rattle.shelf.proofs.editions.last_of.Goals as goal

pub returns : goal.returns
returns c = search (rules, last_is)
