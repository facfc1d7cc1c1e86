-- `out_slice::write`: at once where there is room, and else apart.
use native.Mathlib.Omega.{arith}
use Rattle.out_slice.proofs.TextInSlice.{whole-answer, whole_out}
use Rattle.out_slice.proofs.write.Goals as goal

pub returns : goal.returns
returns g c t short writes =
    let w = writes _ _ _ c.f-end.ensures in
    (whole-answer t _ _ _ (omega arith) w, whole_out t _ _ _ (omega arith) w)
