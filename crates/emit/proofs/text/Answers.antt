-- `emit::text`: byte by byte.
use borrow.Author.Rules.{rules}
use Rattle.emit.proofs.Loops.{bytes-start, bytes-room, bytes-turn, bytes-end}
use Rattle.emit.proofs.text.Goals as goal

pub loop-b-init : goal.loop-b-init
loop-b-init c = (search rules, search (rules, bytes-start))

pub put-end-requires : goal.put-end-requires
put-end-requires c = search (rules, bytes-room)

pub loop-b-preserved : goal.loop-b-preserved
loop-b-preserved c = (search rules, search (rules, bytes-turn))

pub returns : goal.returns
returns c = search (rules, bytes-end)
