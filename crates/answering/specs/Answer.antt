-- What the listing shows of a list of occurrences: judge's answer, field by field.
use Rattle.std.specs.Prelude.{cond, List, [], ◌∷◌, ◌++◌, map, ℕ, suc, ◌-◌, eqb, length, take, replicate, Result, Ok, Err}
use Rattle.std.proofs.Math.Option.{get_or}
use Rattle.std.specs.Int.Bits.{bit_and}
use Rattle.mask.specs.Mask.{has, count}
use Rattle.route.specs.declared.Step.{Step}
use Rattle.slice.specs.Slice.{variables}
use Rattle.precedence.specs.Precedence.{row}
use Rattle.precedence.specs.Order.{in_turn}
use Rattle.matching.specs.Straight.{fire_all, steps_on}
use Rattle.refusal.specs.Refusal.{number_of}
use Rattle.refusal.specs.declared.Refusal.{Refusal}
use Rattle.answering.specs.declared.Moved.{Moved}
use Rattle.answering.specs.declared.Judged.{Judged}

-- n entries: those of a list, and 0 in the unused ones
unfoldable pub padded : ℕ → List ℕ → List ℕ
padded n l = take n (l ++ replicate n 0)

-- the occurrence number of the last writer of v from position i on, and 0 where there is none
unfoldable pub last_writer : ℕ → ℕ → List Step → ℕ
last_writer v i [] = 0
last_writer v i (s ∷ l) = cond (eqb (last_writer v (suc i) l) 0) (cond (has s.writes v) (suc i) 0)
    (last_writer v (suc i) l)

-- "An `after` line gives a kept occurrence and all kept ones that it comes after"
unfoldable pub after_of : List Step → ℕ → ℕ → ℕ
after_of l kept i = cond (has kept i) (bit_and (row l i) kept) 0

-- "a `value` line a new-route variable and its last writer"
unfoldable pub writer_of : List Step → List Step → ℕ → ℕ
writer_of new l v = cond (has (variables new) v) (last_writer v 0 l) 0

abbrev pub judge_stopped : ℕ → ℕ → Judged
judge_stopped n k = record {
  number = n;
  second = k;
  kept = 0;
  dropped = 0;
  len = 0;
  order = replicate 64 0;
  marking = record { tokens = 0 };
  after = replicate 64 0;
  writers = replicate 32 0;
}

-- the answer in numbers
abbrev pub judged_of : Result Moved Refusal → Judged
judged_of (Ok m) =
    record {
      number = 0;
      second = 0;
      kept = m.kept;
      dropped = m.dropped;
      len = m.len;
      order = m.order;
      marking = m.marking;
      after = m.after;
      writers = m.writers;
    }
judged_of (Err e) = judge_stopped (number_of e.row) e.second

-- a list of positions, and what is kept with it
unfoldable pub answer : ℕ → List Step → List Step → ℕ → List ℕ → Judged
answer from new l kept o =
    record {
      number = 0;
      second = 0;
      kept = kept;
      dropped = length l - count 64 kept;
      len = length o;
      order = padded 64 (map suc o);
      marking = record { tokens = get_or (fire_all new from (steps_on l o)) 0 };
      after = map (after_of l kept) (in_turn 0 64);
      writers = map (writer_of new l) (in_turn 0 32);
    }
