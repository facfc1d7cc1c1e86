-- Who put the token that lies on a place: the run of a done list, with places that carry who filled them.
use Rattle.std.specs.Prelude.{Bool, not, cond, ◌&&◌, List, ℕ, zero, suc, get_or}
use Rattle.mask.specs.Mask.{has}
use Rattle.route.specs.Firing.{fire}
use Rattle.route.specs.Steps.{blank}
use Rattle.route.specs.declared.Step.{Step}
use Rattle.job.specs.Job.{Job, old_start}
use Rattle.running.specs.Run.{performed}

-- what lies on a place: nothing, a token of the start, or one that the occurrence at a position put there
pub data Held : Type 0 where
  nothing : Held
  from_start : Held
  put_by : ℕ → Held

-- "Firing empties the in-places that aren't out-places and fills the out-places that aren't in-places; others stay."
unfoldable pub fills : Step → ℕ → Bool
fills s p = has s.outs p && not (has s.ins p)

unfoldable pub empties : Step → ℕ → Bool
empties s p = has s.ins p && not (has s.outs p)

-- before the step at position i of the list l, from the marking m
unfoldable pub held_from : ℕ → List Step → ℕ → ℕ → Held
held_from m l zero p = cond (has m p) from_start nothing
held_from m l (suc i) p =
    cond (fills (get_or l i blank) p) (put_by i) (cond (empties (get_or l i blank) p) nothing (held_from m l i p))

-- before the occurrence at position i of a job, by its steps done: what lies on p, and the marking
abbrev pub held : Job → ℕ → ℕ → Held
held j i p = held_from (old_start j) (performed j.old j.done) i p

unfoldable pub marking_from : ℕ → List Step → ℕ → ℕ
marking_from m l zero = m
marking_from m l (suc i) = fire (marking_from m l i) (get_or l i blank)

abbrev pub marking_before : Job → ℕ → ℕ
marking_before j i = marking_from (old_start j) (performed j.old j.done) i
