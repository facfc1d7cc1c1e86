-- What reading into lent numbers tells, with the lengths of the lists that they go into.
use Rattle.std.specs.Prelude.{◌≡◌, List, ℕ, ◌≤◌, take}
use Rattle.flat.specs.Flat.{steps_in}
use Rattle.facts.specs.Facts.{read_of}
use Rattle.reader.specs.declared.Lengths.{Lengths}

-- of a sheet that reads: its lengths fit the numbers and the lists; and the numbers begin with as many steps and names
-- of the sheet
pub record Counted (s : List ℕ) (old new done : ℕ) (l : Lengths) (a b d : List ℕ) : Type 0 where
  pub old-fits : (l.old_len ≤ 64) × (l.old_len ≤ old)
  pub new-fits : (l.new_len ≤ 64) × (l.new_len ≤ new)
  pub done-fits : (l.done_len ≤ 64) × (l.done_len ≤ done)
  pub old-steps : take l.old_len (steps_in a) ≡ take l.old_len (read_of s).old.steps
  pub new-steps : take l.new_len (steps_in b) ≡ take l.new_len (read_of s).new.steps
  pub done-names : take l.done_len d ≡ take l.done_len (read_of s).done
