-- `listing_lines::list_entries`: entry by entry.
use mathlib.Core.List.{List}
use Prim.Native.Nat.{ℕ, ◌<◌}
use lib.ListN.{length, get_or, drop}
use borrow.Author.Rules.{rules}
use Rattle.emit.specs.Emit.{Room}
use Rattle.emit.specs.Numbers.{entry, over}
use Rattle.emit.proofs.Loops.{Left, left-start, list-room, list-turn, list-end}
use Rattle.listing_lines.proofs.list_entries.Goals as goal

room : (l : List ℕ) (i : ℕ) {o u o₀ : List ℕ} {n n₀ : ℕ} → Left (over entry (drop i l)) o n u o₀ n₀ → i < length l
    → Room (entry (get_or l i 0)) o n
room = list-room entry

pub loop-n-init : goal.loop-n-init
loop-n-init c = (search rules, search (rules, left-start))

pub entry-end-requires : goal.entry-end-requires
entry-end-requires c = search (rules, room)

pub loop-n-preserved : goal.loop-n-preserved
loop-n-preserved c = (search rules, search (rules, list-turn))

pub returns : goal.returns
returns c = search (rules, list-end)
