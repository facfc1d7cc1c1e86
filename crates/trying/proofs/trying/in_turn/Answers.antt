-- `trying::trying::in_turn`: as long, and each entry its place.
use borrow.Author.Rules.{rules}
use borrow.Author.Tests.{tests}
use Rattle.std.proofs.lemmas.Iterator.{YieldsList-from_slice}
use Rattle.std.proofs.lemmas.Iterator.Consumers.{YieldsList-from_enumerate}
use Rattle.std.proofs.lemmas.Iterator.Search.{all_from_yields_List}
use Rattle.trying.proofs.InTurn.{at_place, turn-length, turn-places}
use Rattle.trying.proofs.trying.in_turn.Goals as goal

pub returns-then-order-len : goal.returns-then-order-len
returns-then-order-len c =
    turn-places _ _ _ c.if-order-len.true
    (all_from_yields_List at_place _ _ _ c.all.ensures.ran
    (YieldsList-from_enumerate (YieldsList-from_slice c.args.order.now cc) (cc)) (λ x b q k. search (rules, tests)))

pub returns-else-order-len : goal.returns-else-order-len
returns-else-order-len c = search (rules, turn-length)
