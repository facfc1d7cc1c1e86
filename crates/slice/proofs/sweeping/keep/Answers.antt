-- `slice::sweeping::keep`: the loop is the sweep, from the position it has come down to.
use mathlib.Core.Path.{◌≡◌, refl, sym, ap, ap₂, ◌∙◌}
use mathlib.Core.Bool.{Bool, true, false, cond}
use mathlib.Core.List.{List}
use Prim.Native.Nat.{ℕ, suc, ◌-◌, ◌≤◌, ◌<◌}
use native.Mathlib.Omega.{arith}
use borrow.Author.Rules.{rules}
use lib.Bits.{bit_or}
use lib.ListN.{length, get_or}
use Rattle.mask.specs.Mask.{bit, without}
use Rattle.route.specs.Steps.{blank}
use Rattle.route.specs.declared.Step.{Step}
use Rattle.slice.specs.Slice.{Sweep, keeps, sweep_step, kept_mask}
use Rattle.slice.proofs.Sweep.{sweep_from, sweep-end, sweep-on}
use Rattle.slice.proofs.sweeping.keep.Goals as goal

at-the-end : (l : List Step) (vars i : ℕ) → i ≡ length l
    → sweep_from l vars i ≡ record { live = vars; tokens = 0; kept = 0 }
at-the-end l vars i h = sweep-end l vars i (omega arith)

module _ (l : List Step) (vars i live tokens kept : ℕ) where
  abbrev before : Step → Bool → Sweep
  before s t =
      cond t
      (record {
        live = bit_or (without live s.writes) s.reads;
        tokens = bit_or (without tokens s.outs) s.ins;
        kept = bit_or kept (bit (i - 1));
      })
      (record { live = live; tokens = tokens; kept = kept })

  module _
      (some : 0 < i)
      (inv : sweep_from l vars i ≡ record { live = live; tokens = tokens; kept = kept })
      (s : Step)
      (is : s ≡ get_or l (i - 1) blank)
      (t : Bool)
      (test : (w : Sweep) → w.live ≡ live → w.tokens ≡ tokens → t ≡ keeps s w) where
    one-back : sweep_from l vars (i - 1) ≡ before s t
    unfolding sweep_step
    one-back =
        sweep-on l vars (i - 1)
        ∙ ap₂ (λ (x : Step) (w : Sweep). sweep_step (i - 1) x w) (sym is) (ap (sweep_from l vars) next ∙ inv)
        ∙ ap (before s) (sym (test (record { live = live; tokens = tokens; kept = kept }) refl refl))
      where
        next : suc (i - 1) ≡ i
        next = omega arith

    taken-along : (left put b : ℕ) → t ≡ true → left ≡ without live s.writes → put ≡ without tokens s.outs
        → b ≡ bit (i - 1)
        → sweep_from l vars (i - 1)
        ≡ record { live = bit_or left s.reads; tokens = bit_or put s.ins; kept = bit_or kept b }
    taken-along left put b yes-kept gone lifted placed = rw (one-back, yes-kept)
        (sym (λ n. record {
          live = bit_or (gone n) s.reads;
          tokens = bit_or (lifted n) s.ins;
          kept = bit_or kept (placed n);
        }))

    passed_over : t ≡ false → sweep_from l vars (i - 1) ≡ record { live = live; tokens = tokens; kept = kept }
    passed_over not-kept = rw (one-back, not-kept)

  all-swept : i ≤ 0 → sweep_from l vars i ≡ record { live = live; tokens = tokens; kept = kept }
      → kept ≡ kept_mask l vars
  unfolding kept_mask
  all-swept h inv = sym (ap (λ (w : Sweep). w.kept) (ap (sweep_from l vars) start ∙ inv))
    where
      start : 0 ≡ i
      start = omega arith

pub loop-i-init : goal.loop-i-init
loop-i-init c = (search rules, search (rules, at-the-end))

pub loop-i-preserved-then-stays : goal.loop-i-preserved-then-stays
loop-i-preserved-then-stays c = (search rules, search (rules, taken-along))

pub loop-i-preserved : goal.loop-i-preserved
loop-i-preserved c = (search rules, search (rules, passed_over))

pub returns : goal.returns
returns c = search (rules, all-swept)
