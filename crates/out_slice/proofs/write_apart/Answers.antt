-- `out_slice::write_apart`: written apart, and copied where it fits.
use native.Mathlib.Omega.{arith}
use lib.ListN.{length-replicate}
use Prim.Native.Nat.{ℕ}
use Rattle.out_slice.proofs.TextInSlice.{copied-answer, copied-out, apart-fits}
use Rattle.out_slice.proofs.write_apart.Goals as goal

pub shared_whole_as_front-copy : goal.shared_whole_as_front-copy
shared_whole_as_front-copy g c =
    let e = c.requires.inside _ _ _ (omega (arith, length-replicate {A = ℕ} g.row.N 0)) c.f-end.ensures in
    (omega (arith, length-replicate {A = ℕ} g.row.N 0), omega arith)

pub returns : goal.returns
returns g c t short writes =
    let w = writes _ _ _ c.f-end.ensures in
    let fits = apart-fits t g.row.N short in
    (copied-answer t _ _ _ fits w _ _ c.copy.ensures.value, copied-out t _ _ _ fits w _ _ c.copy.ensures.out_after)
