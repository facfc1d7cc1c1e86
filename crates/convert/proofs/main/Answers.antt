-- `convert::main`: what was written lies in the buffer.
use Rattle.std.proofs.Common.{sym, length-take-le, arith}
use Rattle.convert.proofs.Fits.{converted-fits}
use Rattle.convert.proofs.main.Goals as goal

pub slice_bounds-out-end : goal.slice_bounds-out-end
slice_bounds-out-end c = omega (arith, converted-fits _ _ _ c.in-Ok.ensures.value, c.convert.auto.out)

pub slice_bounds-write_all-end : goal.slice_bounds-write_all-end
slice_bounds-write_all-end c =
    let fits = converted-fits _ _ _ c.in-Ok.ensures.value in
    sym (length-take-le _ _ (omega (arith, fits, c.convert.auto.out)))
