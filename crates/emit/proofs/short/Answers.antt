-- `emit::short`: one digit, or two.
use borrow.Author.Rules.{rules}
use Rattle.emit.proofs.Decimals.{one-room, one-emits, pair-room, pair-emits}
use Rattle.emit.proofs.short.Goals as goal

pub put-requires : goal.put-requires
put-requires c = search (rules, one-room)

pub returns-then-n-lt10 : goal.returns-then-n-lt10
returns-then-n-lt10 c = search (rules, one-emits)

pub pair-requires : goal.pair-requires
pair-requires c = record {
  n_bound = search rules;
  room = search (rules, pair-room);
}

pub returns : goal.returns
returns c = search (rules, pair-emits)
