-- `emit::entry`: the space, then the digits, of which most numbers have one or two.
use borrow.Author.Rules.{rules}
use Rattle.emit.proofs.Decimals.{entry_first, entry-second, entry_whole}
use Rattle.emit.proofs.entry.Goals as goal

pub put-first-requires : goal.put-first-requires
put-first-requires c = search (rules, entry_first)

pub digits-requires : goal.digits-requires
digits-requires c = search (rules, entry-second)

pub returns-then-n-gt99 : goal.returns-then-n-gt99
returns-then-n-gt99 c = search (rules, entry_whole)

pub short-requires : goal.short-requires
short-requires c = record {
  n_bound = search rules;
  room = search (rules, entry-second);
}

pub returns : goal.returns
returns c = search (rules, entry_whole)
