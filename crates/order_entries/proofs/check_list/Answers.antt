-- `order_entries::check_list`: the row of the entries that are left answers for all.
use borrow.Author.Rules.{rules}
use Rattle.order_entries.proofs.Row16.{fresh-first, fresh-below, list-missing, list-whole, list-refused, list_on}
use Rattle.order_entries.proofs.check_list.Goals as goal

pub returns-then-not-fresh : goal.returns-then-not-fresh
returns-then-not-fresh c = search (rules, list-refused)

pub overflow_sub-b : goal.overflow_sub-b
overflow_sub-b c = search (rules, fresh-first)

pub bit-seen-requires : goal.bit-seen-requires
bit-seen-requires c = search (rules, fresh-below)

pub loop-i-preserved : goal.loop-i-preserved
loop-i-preserved c = search (rules, list_on)

pub returns-then-seen-kept : goal.returns-then-seen-kept
returns-then-seen-kept c = search (rules, list-missing)

pub returns : goal.returns
returns c = search (rules, list-whole)
