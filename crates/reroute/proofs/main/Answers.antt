-- `reroute::main`: what print wrote lies in the buffer.
use Rattle.std.proofs.Common.{sym, length-take-le, arith}
use Rattle.ops.proofs.Prints.{written-fits}
use Rattle.reroute.proofs.main.Goals as goal

pub slice_bounds-out-end : goal.slice_bounds-out-end
slice_bounds-out-end c = omega (arith, written-fits _ _ _ _ c.in-Ok.ensures.value, c.print.auto.out)

pub slice_bounds-write_all-end : goal.slice_bounds-write_all-end
slice_bounds-write_all-end c =
    let fits = written-fits _ _ _ _ c.in-Ok.ensures.value in
    sym (length-take-le _ _ (omega (arith, fits, c.print.auto.out)))
