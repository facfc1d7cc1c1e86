-- `read_counted`: each way through its tests has its law (Counting).
use native.Mathlib.Omega.{arith}
use borrow.Author.Rules.{rules}
use Rattle.lent_reading.proofs.Counting.{told-refused, told-old, told-new, told-done, told-all, told-lists}
use Rattle.lent_reading.proofs.read_counted.Goals as goal

pub returns-in_err-c-clause-answer : goal.returns-in_err-c-clause-answer
returns-in_err-c-clause-answer c =
    let refused = told-refused _ _ _ _ c.args.old c.args.new c.args.done _ c.in_err-c.ensures in search rules

pub returns-then-old-c-clause-answer : goal.returns-then-old-c-clause-answer
returns-then-old-c-clause-answer c =
    let short = told-old _ _ _ _ c.args.old c.args.new c.args.done _ c.in_ok-c.ensures (omega arith) in search rules

pub returns-then-new-c-clause-answer : goal.returns-then-new-c-clause-answer
returns-then-new-c-clause-answer c =
    let short =
    told-new _ _ _ _ c.args.old c.args.new c.args.done _ c.in_ok-c.ensures (omega arith) (omega arith) in search rules

pub returns-then-done-c-clause-answer : goal.returns-then-done-c-clause-answer
returns-then-done-c-clause-answer c =
    let short =
    told-done _ _ _ _ c.args.old c.args.new c.args.done _ c.in_ok-c.ensures (omega arith) (omega arith) (omega arith) in
    search rules

pub returns : goal.returns
returns c =
    let t = c.in_ok-c.ensures in
    record {
      answer = told-all _ _ _ _ _ _ _ _ t (omega arith) (omega arith) (omega arith);
      held = told-lists _ _ _ _ _ _ _ _ t (omega arith) (omega arith) (omega arith);
    }
