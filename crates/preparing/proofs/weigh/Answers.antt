-- `preparing::weigh`: what each part finds, put together.
use mathlib.Core.Path.{◌≡◌, refl, sym, ap, ◌∙◌}
use mathlib.Core.Bool.{true}
use mathlib.Core.List.{List}
use Prim.Native.Nat.{ℕ, ◌<◌}
use native.Mathlib.Omega.{arith}
use lib.ListN.{length}
use Rattle.mask.specs.Mask.{has}
use Rattle.route.specs.declared.Step.{Step}
use Rattle.slice.specs.Slice.{kept_mask}
use Rattle.slice.proofs.Sweep.{kept-below}
use Rattle.matching.specs.Fit.{kept_of}
use Rattle.preparing.proofs.weigh.Goals as goal

kept-room : (l : List Step) (vars kept : ℕ) → kept ≡ kept_mask l vars → (i : ℕ) → has kept i ≡ true → i < length l
kept-room l vars kept e i h = kept-below l vars i (ap (λ (m : ℕ). has m i) (sym e) ∙ h)

pub kept_rows-rows-requires-clause-by_index : goal.kept_rows-rows-requires-clause-by_index
kept_rows-rows-requires-clause-by_index c =
    λ i h. let low = kept-room _ _ _ c.keep-kept.ensures i h in (omega arith, omega arith)

pub returns : goal.returns
unfolding kept_of
returns c =
    let kept = c.keep-kept.ensures ∙ ap (kept_mask _) c.variables_of-vars.ensures in
    record {
      rows = λ is.
          let same = c.same_mask-same.ensures _ is in
          c.kept_rows-rows.ensures _ _ _ is kept same (c.straight_end-straight.ensures _ _ is same);
      weighed = λ is.
          record {
            line-is = refl;
            start_is = refl;
            straight-is = c.straight_end-straight.ensures _ _ is (c.same_mask-same.ensures _ is);
            kept-is = kept;
            vars-are = c.variables_of-vars.ensures;
          };
    }
