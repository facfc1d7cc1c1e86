-- `show_shelf::judge`: no listing of an answer from the shelf is too long.
use Rattle.std.proofs.Common.{rules}
use Rattle.show_shelf.proofs.ListingLength.{between-length}
use Rattle.show_shelf.proofs.judge.Goals as goal

pub write_listing-requires : goal.write_listing-requires
write_listing-requires g c = search (rules, between-length)
