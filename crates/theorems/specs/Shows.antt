-- What judge's answer shows of a job that it moves, field by field. The listing prints these fields.
use Rattle.std.specs.Prelude.{◌≡◌, ◌↔◌, ◌⊎◌, true, false, ℕ, suc, ◌+◌, ◌<◌, length, get_or, take}
use Rattle.std.proofs.Math.Option.{some}
use Rattle.mask.specs.Mask.{has, count}
use Rattle.job.specs.Job.{Job, new_start}
use Rattle.slice.specs.Slice.{Item, Kept, LastWriter, variables, writes_at}
use Rattle.precedence.specs.Precedence.{comes_after}
use Rattle.matching.specs.Straight.{fire_all, steps_on, runs_straight}
use Rattle.answering.specs.declared.Judged.{Judged}
use Rattle.occurrences.specs.Occurrences.{occurrences_of}
use Rattle.theorems.specs.Demand3.{positions}
use Rattle.theorems.specs.Given.{Given}

-- Occurrence i + 1 stands at position i.
pub record Shows (j : Job) (a : Judged) : Type 0 where
  -- "After a straight answer all count as kept."
  pub all : runs_straight (new_start j) j.new (occurrences_of j) ≡ true
      → (i : ℕ) → (has a.kept i ≡ true) ↔ (i < length j.done)
  -- else those of the slice: "the last writer of each new-route variable, and all that these need, over and over", and
  -- "every cloth occurrence of the old route, with all it needs"; "an occurrence that a kept one needs so is kept even
  -- if it writes nothing"
  pub kept : runs_straight (new_start j) j.new (occurrences_of j) ≡ false
      → (i : ℕ) → (has a.kept i ≡ true) ↔ Kept (occurrences_of j) (variables j.new) i
  -- "The `moved` line counts kept and dropped occurrences"
  pub counts : count 64 a.kept + a.dropped ≡ length j.done
  -- "An `after` line gives a kept occurrence and all kept ones that it comes after"
  pub after : (i k : ℕ)
      → (has (get_or a.after i 0) k ≡ true)
      ↔ (has a.kept i ≡ true) × (has a.kept k ≡ true) × (comes_after (occurrences_of j) i k ≡ true)
  -- "`order` is the list given"
  pub order : Given j (take a.len a.order)
  -- "`marking` the places with a token": those at the end of the order's firing
  pub marking : fire_all j.new (new_start j) (steps_on (occurrences_of j) (positions (take a.len a.order)))
      ≡ some a.marking.tokens
  -- "a `value` line a new-route variable and its last writer"
  pub writer : (v n : ℕ) → v < 32
      → (get_or a.writers v 0 ≡ suc n)
      ↔ (has (variables j.new) v ≡ true) × LastWriter (occurrences_of j) (length j.done) (Item.variable v) n
  -- "a blank variable has no line": it is none of the new route, or no occurrence writes it
  pub blank : (v : ℕ) → v < 32
      → (get_or a.writers v 0 ≡ 0)
      ↔ (has (variables j.new) v ≡ false) ⊎ ((i : ℕ) → i < length j.done
      → writes_at (occurrences_of j) i (Item.variable v) ≡ false)
