-- `emit::entries`: from one member to the next.
use Rattle.emit.proofs.Loops.{mask-room, mask-turn, mask_end, numbered}
use Rattle.emit.proofs.entries.Goals as goal

pub entry-end-requires : goal.entry-end-requires
entry-end-requires c = mask-room (numbered c.args.first) _ c.loop-v.invariant c.in-Some.ensures.steps

pub loop-v-preserved : goal.loop-v-preserved
loop-v-preserved c =
    mask-turn (numbered c.args.first) _ c.loop-v.invariant c.in-Some.ensures.steps c.entry-end.ensures

pub returns : goal.returns
returns c = mask_end (numbered c.args.first) _ c.loop-v.invariant c.in-None.ensures.steps
