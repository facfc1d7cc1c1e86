-- `opening::gather`: one step more leaves the same union, and at the end nothing is left.
use borrow.Author.Rules.{rules}
use Rattle.route.proofs.StepList.{union_more, union-done}
use Rattle.opening.proofs.gather.Invariants.{takes, puts, writes}
use Rattle.opening.proofs.gather.Goals as goal

pub loop-s-preserved : goal.loop-s-preserved
loop-s-preserved c = (
  search (rules, union_more takes),
  search (rules, union_more puts),
  search (rules, union_more writes),
)

pub returns : goal.returns
returns c = record {
  ins = search (rules, union-done takes);
  outs = search (rules, union-done puts);
  writes = search (rules, union-done writes);
}
