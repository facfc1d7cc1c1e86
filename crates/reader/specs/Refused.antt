-- What reading into lent lists answers, in plain numbers.
use Rattle.std.specs.Prelude.{ℕ, Result, Ok, Err}
use Rattle.refusal.specs.Refusal.{number_of}
use Rattle.route.specs.Steps.{no_places}
use Rattle.refusal.specs.declared.Refusal.{Refusal}
use Rattle.reader.specs.declared.Counts.{Counts}
use Rattle.reader.specs.declared.Lengths.{Lengths}

-- "A refusal gives its number and a second number, all else 0"
abbrev pub no_counts : ℕ → ℕ → Counts
no_counts n k = record {
  number = n;
  second = k;
  old_places = no_places;
  old_len = 0;
  new_places = no_places;
  new_len = 0;
  done_len = 0;
}

-- the answer in numbers
abbrev pub counts_of : Result Lengths Refusal → Counts
counts_of (Ok l) = record {
  number = 0;
  second = 0;
  old_places = l.old_places;
  old_len = l.old_len;
  new_places = l.new_places;
  new_len = l.new_len;
  done_len = l.done_len;
}
counts_of (Err e) = no_counts (number_of e.row) e.second
