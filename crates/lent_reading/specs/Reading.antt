-- What reading into lent lists answers.
use Rattle.std.specs.Prelude.{cond, [], ◌∷◌, ℕ, eqb, leb}
use Rattle.refusal.specs.Rows.{refuse, unless, first}
use Rattle.refusal.specs.declared.Outcome.{Outcome}
use Rattle.facts.specs.declared.Sheet.{Sheet}
use Rattle.reader.specs.Refused.{no_counts}
use Rattle.reader.specs.declared.Counts.{Counts}

-- "15: a lent list too short; old, new, done in turn", with the length needed, after the rows of reading. The numbers
-- are the lists' lengths
unfoldable pub read_row : Sheet → ℕ → ℕ → ℕ → Outcome
read_row s old new done =
    first
    (refuse s.number s.second
    ∷ unless (leb s.old.len old) 15 s.old.len
    ∷ unless (leb s.new.len new) 15 s.new.len
    ∷ unless (leb s.done_len done) 15 s.done_len
    ∷ [])

unfoldable pub counts : Sheet → Outcome → Counts
counts s o =
    cond (eqb o.number 0)
    (record {
      number = 0;
      second = 0;
      old_places = s.old.places;
      old_len = s.old.len;
      new_places = s.new.places;
      new_len = s.new.len;
      done_len = s.done_len;
    })
    (no_counts o.number o.second)

unfoldable pub counted : Sheet → ℕ → ℕ → ℕ → Counts
counted s old new done = counts s (read_row s old new done)
