-- `writer::writes::write_text`: the text is no longer than the bound.
use Prim.Native.Nat.{◌≤◌}
use native.Mathlib.Omega.{arith}
use lib.ListN.{length}
use borrow.Author.Rules.{rules}
use Rattle.out_slice.proofs.TextInSlice.{text-room, end-inside}
use Rattle.job.specs.Job.{job_in}
use Rattle.writer.specs.Written.{written_by}
use Rattle.writer.proofs.writes.write_text.Goals as goal

pub write-requires-clause-ready : goal.write-requires-clause-ready
write-requires-clause-ready c x room =
    let fits : length (written_by c.args.v (job_in c.args.job)) ≤ length x.now = omega (arith, c.requires, room) in
    search (rules, text-room)

pub write-requires-clause-inside : goal.write-requires-clause-inside
write-requires-clause-inside c x n y room post =
    let fits : length (written_by c.args.v (job_in c.args.job)) ≤ length x.now = omega (arith, c.requires, room) in
    search (rules, end-inside)

pub returns : goal.returns
returns c =
    let w = c.write.ensures (written_by c.args.v (job_in c.args.job)) (omega (arith, c.requires))
    (λ x n y p. search rules) in
    (search rules, search rules)
