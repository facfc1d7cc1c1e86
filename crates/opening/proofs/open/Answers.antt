-- `opening::open`: rows 6 and 7, then 23, by what one pass over the steps gathered.
use borrow.Author.Rules.{rules}
use Rattle.opening.proofs.OpenRows.{open-net, open-reads}
use Rattle.opening.proofs.open.Goals as goal

pub returns-in_err-from-clause-outcome : goal.returns-in_err-from-clause-outcome
returns-in_err-from-clause-outcome c =
    let net = c.check_net.ensures.outcome _ c.gather-g.ensures in search (rules, open-net)

pub returns-in_err-check_reads-clause-outcome : goal.returns-in_err-check_reads-clause-outcome
returns-in_err-check_reads-clause-outcome c =
    let net = c.in_ok-from.ensures.outcome _ c.gather-g.ensures in
    let reads = open-reads _ _ _ net _ c.gather-g.ensures _ c.check_reads.ensures in search (rules, reads)

pub returns-clause-outcome : goal.returns-clause-outcome
returns-clause-outcome c =
    let net = c.in_ok-from.ensures.outcome _ c.gather-g.ensures in
    let reads = open-reads _ _ _ net _ c.gather-g.ensures _ c.check_reads.ensures in search (rules, reads)
