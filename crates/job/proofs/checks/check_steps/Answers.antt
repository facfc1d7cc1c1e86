-- `job::checks::check_steps`: the rows of the steps that are left, given the names of those passed, answer for all.
use mathlib.Core.Path.{◌≡◌, refl, sym, ap, ap₂, ◌∙◌}
use mathlib.Core.List.{List, []}
use mathlib.Core.Logic.{inl}
use Prim.Native.Nat.{ℕ}
use native.Mathlib.Omega.{arith}
use Rattle.refusal.specs.Rows.{first}
use Rattle.flat.specs.Flat.{steps_in, steps_left}
use Rattle.route.specs.declared.Step.{Step}
use Rattle.flat.proofs.FlatSteps.{flat-prefix, flat-few, flat-names}
use Rattle.flat.proofs.InTurn.{turns-init, turn-on, turn-at, turn-inside}
use Rattle.name_set.proofs.DigitHints.{hinted-none, hinted-on, hinted-prefix}
use Rattle.lookup.proofs.Around.{steps_fit}
use Rattle.job.specs.Lines.{step_rows}
use borrow.Author.Rules.{rules}
use Rattle.job.proofs.StepRows.{steps-end, steps-over, steps-refused, steps-passed}
use Rattle.job.proofs.checks.check_steps.Goals as goal

pub loop-i-init-derived : goal.loop-i-init-derived
loop-i-init-derived c =
    let start : c.into_iter-i-iterator.result.count ≡ 0 = search rules in
    let all : steps_left c.into_iter-i-iterator.result.iter ≡ steps_in c.args.steps.now = search rules in
    ((tt, tt, inl (rw (start, all) (search (rules, steps_fit)))), tt)

pub loop-i-init : goal.loop-i-init
loop-i-init c =
    let a = c.args in
    let start : c.into_iter-i-iterator.result.count ≡ 0 = search rules in
    let all : steps_left c.into_iter-i-iterator.result.iter ≡ steps_in a.steps.now = search rules in
    rw start (
      omega arith,
      (
        turns-init refl all,
        (hinted-none, ap₂ (λ (n : ℕ) (l : List Step). first (step_rows n a.count [] l)) (omega arith) all),
      ),
    )

pub returns-then-i-ge-STEPS : goal.returns-then-i-ge-STEPS
returns-then-i-ge-STEPS c =
    let (next, at, on, _) = c.in-Some.ensures.steps in
    let (low, (turns, (_, rows))) = c.loop-i.invariant in
    let over = steps-over c.args.line c.args.count _ turns rows next low (omega (arith, at, c.if-i-ge-STEPS.true)) in
    search rules

pub slice_bounds-check_step-end : goal.slice_bounds-check_step-end
slice_bounds-check_step-end c =
    flat-prefix c.args.steps.now c.in-Some.i
    (omega (arith, c.in-Some.ensures.steps.1, c.loop-i.invariant.1.0.within))

pub check_step-requires : goal.check_step-requires
check_step-requires c =
    record {
      count_bound = (search rules, flat-few _ _ 64 c.if-i-ge-STEPS.false);
      hinted = rw c.in-Some.ensures.steps.1 (hinted-prefix _ _ _ c.loop-i.invariant.1.1.0);
    }

pub returns-in_err-check_step : goal.returns-in_err-check_step
returns-in_err-check_step c =
    let (next, at, on, _) = c.in-Some.ensures.steps in
    let (low, (turns, (_, rows))) = c.loop-i.invariant in
    let refused =
    steps-refused c.args.line c.args.count _ turns rows next at _ (flat-names c.args.steps.now c.in-Some.i)
    c.in_err-check_step.field-0.0 c.in_err-check_step.ensures in
    search rules

pub loop-i-preserved : goal.loop-i-preserved
loop-i-preserved c =
    let (next, at, on, _) = c.in-Some.ensures.steps in
    let (low, (turns, (hinted, rows))) = c.loop-i.invariant in
    rw on (
      omega (arith, at, c.if-i-ge-STEPS.false),
      (
        turn-on turns next refl,
        (
          hinted-on _ c.loop-i.hint c.loop-i.i-iterator.count _ refl hinted _ _ (turn-inside turns next)
              (ap (λ (s : Step). s.name) (turn-at turns next)) (λ k e. c.add.ensures k (e ∙ sym at)),
          steps-passed c.args.line c.args.count _ turns rows next at _ (flat-names c.args.steps.now c.in-Some.i)
              c.in_ok-check_step.ensures,
        ),
      ),
    )

pub returns : goal.returns
returns c =
    let (low, (turns, (_, rows))) = c.loop-i.invariant in
    steps-end c.args.line c.args.count _ turns rows c.in-None.ensures.steps.0.0
