-- `answering::answers::straight_order`: the numbers so far, and 0 in the entries past them.
use native.Mathlib.Omega.{arith}
use Rattle.answering.proofs.Padded.{padded-turns}
use Rattle.answering.proofs.answers.straight_order.Goals as goal

pub returns : goal.returns
returns c =
    let (long, filled) = c.loop-i.invariant in
    padded-turns c.args.len c.loop-i.number-items c.requires long (λ k h. filled k (omega arith))
