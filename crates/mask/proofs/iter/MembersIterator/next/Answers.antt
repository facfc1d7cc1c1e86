-- `mask::iter::Members::next`: where there is a member, the lowest is taken.
use mathlib.Core.Path.{◌≡◌, sym, ap, ◌∙◌}
use mathlib.Core.Bool.{Bool, false}
use Prim.Native.Nat.{ℕ, ◌-◌}
use native.Mathlib.Omega.{arith}
use borrow.Author.Tests.{eqb-false}
use lib.Dec.{eqb}
use lib.Bits.{bit_and}
use Rattle.mask.proofs.Taken.{some-width, takes-lowest, takes-counts}
use Rattle.mask.proofs.iter.MembersIterator.next.Goals as goal

some : (m none : ℕ) (t : Bool) → none ≡ 0 → t ≡ eqb m none → t ≡ false → m ≡ 0 → ⊥
some m none t e is f = eqb-false m 0 (ap (eqb m) (sym e) ∙ sym is ∙ f)

pub bit-requires : goal.bit-requires
bit-requires g c = some-width _ _ (some _ _ _ c.empty.ensures
    (c.eq.ensures ∙ g.met.M.Mask.eq_law _ _) c.if-eq.false) c.lowest-lowest.ensures.fits

pub returns : goal.returns
returns g c =
    let m : ℕ = g.M.Mask.number c.args.self.now.left in
    let taken = takes-lowest g.M.Mask.WIDTH m c.lowest-lowest.result (g.M.Mask.number c.bitand-self.result)
    (some _ _ _ c.empty.ensures (c.eq.ensures ∙ g.met.M.Mask.eq_law _ _) c.if-eq.false)
    c.lowest-lowest.ensures.fits
    c.lowest-lowest.ensures.is
    (g.met.M.Mask.bitand_law _ _ _ c.bitand-self.ensures ∙ ap (bit_and m) (g.met.M.Mask.sub_law _ _ _ c.sub.ensures
    ∙ ap (λ (n : ℕ). m - n) c.bit.ensures))
    in record {
      steps = taken;
      goes = record {
        on = λ f. (tt, tt, omega (arith, takes-counts _ _ _ _ taken));
        keeps = tt;
        rests = λ f. tt;
      };
    }
