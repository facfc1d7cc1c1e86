-- `converting::down::check_route`: the start line, then the steps.
use borrow.Author.Rules.{rules}
use Rattle.converting.proofs.Beyond.{start-beyond, start-said}
use Rattle.converting.proofs.down.check_route.Goals as goal

pub returns-then-places-implied : goal.returns-then-places-implied
returns-then-places-implied c = search (rules, start-beyond)

pub returns : goal.returns
returns c = search (rules, start-said)
