-- An answer is known by its parts.
use mathlib.Core.Path.{◌≡◌}
use mathlib.Core.List.{List, map}
use Prim.Native.Nat.{ℕ, ◌-◌}
use lib.ListN.{length}
use Rattle.mask.specs.Mask.{count}
use Rattle.route.specs.declared.Step.{Step}
use Rattle.precedence.specs.Order.{in_turn}
use Rattle.answering.specs.Answer.{after_of, writer_of, answer}
use Rattle.answering.specs.inner.Listed.{placed_on}
use Rattle.answering.specs.declared.Placed.{Placed}

pub answer-is :
    (from : ℕ) (new l : List Step) (kept : ℕ) (o : List ℕ) (d : ℕ) (list : Placed) (after writers : List ℕ)
    → d ≡ length l - count 64 kept
    → list ≡ placed_on from new l o
    → after ≡ map (after_of l kept) (in_turn 0 64)
    → writers ≡ map (writer_of new l) (in_turn 0 32)
    → record {
      number = 0;
      second = 0;
      kept = kept;
      dropped = d;
      len = list.len;
      order = list.order;
      marking = list.marking;
      after = after;
      writers = writers;
    }
    ≡ answer from new l kept o
unfolding answer
answer-is from new l kept o d list after writers p q t u =
    λ i. record {
      number =
          0;
      second = 0;
      kept = kept;
      dropped = p i;
      len = (q i).len;
      order = (q i).order;
      marking = (q i).marking;
      after = t
          i;
      writers = u i;
    }
