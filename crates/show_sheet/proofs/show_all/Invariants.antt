-- `show_sheet::show_all`: each turn leaves fewer bytes.
use Rattle.std.proofs.Common.{length}
use Rattle.show_sheet.proofs.show_all.Given as goal

abbrev pub decreases-loop-i : goal.decreases-loop-i
decreases-loop-i g l = length l.rest
