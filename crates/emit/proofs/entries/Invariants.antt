-- `emit::entries`: from one member to the next.
use Rattle.mask.specs.Mask.{members}
use Rattle.emit.specs.Numbers.{over}
use Rattle.emit.proofs.Loops.{Left, numbered}
use Rattle.emit.proofs.entries.Given as goal

abbrev pub invariant-loop-v : goal.invariant-loop-v
invariant-loop-v l =
    Left (over (numbered l.first) (members 64 l.v-iterator.left)) l.out l.end (over (numbered l.first) (members 64 l.m)) l.initial.out l.at
