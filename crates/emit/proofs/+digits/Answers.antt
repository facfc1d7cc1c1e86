-- `emit::digits`, the cycle of calls of one function: a short number, or the digits of the hundredth and two more. The
-- measure is the number.
use borrow.Author.Rules.{rules}
use Rattle.emit.proofs.Decimals.{more_room, last-room, more-emits}
use Rattle.emit.proofs.+digits.Goals as goal

pub digits-last-requires : goal.digits-last-requires
digits-last-requires t c = (search rules, search (rules, more_room))

pub pair-requires : goal.pair-requires
pair-requires t c = record {
  n_bound = search rules;
  room = search (rules, last-room);
}

pub returns : goal.returns
returns t c = search (rules, more-emits)
