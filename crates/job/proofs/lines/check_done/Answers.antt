-- `job::lines::check_done`: the rows of the done lines that are left answer for all.
use mathlib.Core.Path.{◌≡◌, ap}
use Prim.Native.Nat.{ℕ, ◌+◌}
use native.Mathlib.Omega.{arith}
use borrow.Author.Rules.{rules}
use Rattle.refusal.specs.Rows.{first}
use Rattle.version.specs.Limits.{present}
use Rattle.job.specs.Lines.{done_rows}
use Rattle.job.proofs.Rows.{done-over, done_refused, done-passed, done_end}
use Rattle.job.proofs.lines.check_done.Goals as goal

pub loop-i-init : goal.loop-i-init
loop-i-init c =
    let a = c.args in
    let start : a.line + 0 ≡ a.line = omega arith in
    (omega arith, ap (λ (n : ℕ). first (done_rows present n 0 a.done.now)) start)

pub returns-then-i-ge-STEPS : goal.returns-then-i-ge-STEPS
returns-then-i-ge-STEPS c = search (rules, done-over)

pub returns-then-not-name_fits : goal.returns-then-not-name_fits
returns-then-not-name_fits c = search (rules, done_refused)

pub loop-i-preserved : goal.loop-i-preserved
loop-i-preserved c = (search rules, search (rules, done-passed))

pub returns : goal.returns
returns c = search (rules, done_end)
