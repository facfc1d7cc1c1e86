-- An inner promise: a list of occurrences with its end, and the answer that shows it.
use Rattle.std.specs.Prelude.{◌≡◌, List, map, ℕ, suc, length, Ok}
use Rattle.std.proofs.Math.Option.{get_or}
use Rattle.route.specs.declared.Step.{Step}
use Rattle.slice.specs.Slice.{variables}
use Rattle.precedence.specs.Table.{table}
use Rattle.matching.specs.Straight.{fire_all, steps_on}
use Rattle.answering.specs.Answer.{padded, answer, judged_of}
use Rattle.answering.specs.declared.Placed.{Placed}
use Rattle.answering.specs.declared.Moved.{Moved}

-- a list of positions, and where its steps end on the new route
abbrev pub placed_on : ℕ → List Step → List Step → List ℕ → Placed
placed_on from new l o =
    record {
      len = length o;
      order = padded 64 (map suc o);
      marking = record { tokens = get_or (fire_all new from (steps_on l o)) 0 };
    }

-- it shows the list, with the table's rows, the new route's variables and the kept
abbrev pub AnswersList : List ℕ → ℕ → ℕ → Placed → List Step → Moved → Type 0
AnswersList rows vars kept list l r =
    (from : ℕ) (new : List Step) (o : List ℕ)
    → rows ≡ table l
    → vars ≡ variables new
    → list ≡ placed_on from new l o
    → judged_of (Ok r) ≡ answer from new l kept o
