-- `opening::check_net`: the two tests in turn, on what a pass over the steps found.
use borrow.Author.Rules.{rules}
use Rattle.opening.proofs.NetRows.{net-six, net-seven, net-neither}
use Rattle.opening.proofs.check_net.Goals as goal

pub returns-then-not-within-clause-outcome : goal.returns-then-not-within-clause-outcome
returns-then-not-within-clause-outcome c = search (rules, net-six)

pub returns-then-places-eq0-clause-outcome : goal.returns-then-places-eq0-clause-outcome
returns-then-places-eq0-clause-outcome c = search (rules, net-seven)

pub returns-clause-outcome : goal.returns-clause-outcome
returns-clause-outcome c = search (rules, net-neither)
