-- `converting::down::check_done`: the rows of the done lines that are left answer for all.
use mathlib.Core.Path.{◌≡◌, ap}
use Prim.Native.Nat.{ℕ, ◌+◌}
use native.Mathlib.Omega.{arith}
use borrow.Author.Rules.{rules}
use Rattle.refusal.specs.Rows.{first, each_line}
use Rattle.converting.specs.Beyond.{says_name}
use Rattle.refusal.proofs.EachLine.{list-end, list-refused, list-passed}
use Rattle.converting.proofs.down.check_done.Goals as goal

pub loop-i-init : goal.loop-i-init
loop-i-init c =
    let start : c.args.line + 0 ≡ c.args.line = omega arith in
    (omega arith, ap (λ (n : ℕ). first (each_line says_name 22 n c.args.done.now)) start)

pub returns-then-not-says_name : goal.returns-then-not-says_name
returns-then-not-says_name c = search (rules, list-refused)

pub loop-i-preserved : goal.loop-i-preserved
loop-i-preserved c = (search rules, search (rules, list-passed))

pub returns : goal.returns
returns c = search (rules, list-end)
