-- `order_entries::fire_list`: the entries so far are placed, and the rows of those that are left answer for all.
use borrow.Author.Rules.{rules}
use Rattle.order_entries.proofs.Entry.{placed-done, entry_first, entry-below}
use Rattle.order_entries.proofs.Entry.{entry-step, placed-early, placed-stuck, placed-step}
use Rattle.order_entries.proofs.fire_list.Goals as goal

pub overflow_sub-k : goal.overflow_sub-k
overflow_sub-k c = search (rules, entry_first)

pub bounds-rows-k : goal.bounds-rows-k
bounds-rows-k c = search (rules, entry-below)

pub returns-then-not-within : goal.returns-then-not-within
returns-then-not-within c =
    placed-early _ _ _ _ _ _ _ _ c.loop-i.invariant (search rules) (search rules) _ c.within.ensures _ (search rules)
    (search rules)

pub step_at-s-requires : goal.step_at-s-requires
step_at-s-requires c = search (rules, entry-step)

pub returns-then-not-enables : goal.returns-then-not-enables
returns-then-not-enables c = search (rules, placed-stuck)

pub bit-placed-requires : goal.bit-placed-requires
bit-placed-requires c = search (rules, entry-below)

pub loop-i-preserved : goal.loop-i-preserved
loop-i-preserved c = search (rules, placed-step)

pub returns : goal.returns
returns c = search (rules, placed-done)
