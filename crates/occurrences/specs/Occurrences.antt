-- Occurrences: the steps done, as the slice and the precedence see them. 02: "Where an occurrence took a token from a
-- place that two or more steps of the old route take from, it needs the occurrence that put the token there, and comes
-- after it."
use Rattle.std.specs.Prelude.{List, [], ◌∷◌, map, ℕ}
use Rattle.std.specs.Int.Bits.{bit_and, bit_or}
use Rattle.mask.specs.Mask.{without}
use Rattle.route.specs.Steps.{union}
use Rattle.route.specs.declared.Step.{Step}
use Rattle.job.specs.Job.{Job}
use Rattle.running.specs.Run.{performed}

-- the places that "two or more steps" of a route "take from. To take from a place is to have it among the in-places"
unfoldable pub shared : List Step → ℕ
shared [] = 0
shared (s ∷ l) = bit_or (bit_and s.ins (union (λ (t : Step). t.ins) l)) (shared l)

-- what a step done took from the places and what it put there. "A step with a place both in and out counts as taking
-- from it, but the place's putter stays the earlier one"
unfoldable pub occurrence : ℕ → Step → Step
occurrence places s =
    record {
      name = s.name;
      cloth = s.cloth;
      ins = bit_and s.ins places;
      outs = bit_and (without s.outs s.ins) places;
      reads = s.reads;
      writes = s.writes;
    }

-- a job's occurrences, one for each done name: what they took from the old route's shared places, and what they put
-- there
unfoldable pub occurrences_of : Job → List Step
occurrences_of j = map (occurrence (shared j.old)) (performed j.old j.done)
