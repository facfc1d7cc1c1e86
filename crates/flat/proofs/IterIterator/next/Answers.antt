-- `flat::Iter`'s `next`: the first four numbers are the first step, and the others those of the steps left.
use Rattle.flat.proofs.FlatSteps.{flat-none, flat-first}
use Rattle.flat.proofs.IterIterator.next.Goals as goal

pub returns-in_default-clause-steps : goal.returns-in_default-clause-steps
returns-in_default-clause-steps c = (flat-none _ c.in_default.len_below, flat-none _ c.in_default.len_below)

pub returns-clause-steps : goal.returns-clause-steps
returns-clause-steps c = flat-first _ _ c.in-len4-up.len_at_least c.step_from.ensures
