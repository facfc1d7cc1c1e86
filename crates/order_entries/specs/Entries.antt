-- Rows 16, 17 and 18: the entries of an order that somebody hands in.
use Rattle.std.specs.Prelude.{Bool, not, cond, ◌&&◌, List, [], ◌∷◌, map, ℕ, ◌+◌, ◌-◌, eqb, leb, get_or}
use Rattle.std.specs.Int.Bits.{bit_or}
use Rattle.mask.specs.Mask.{has, bit}
use Rattle.route.specs.Steps.{blank, lookup}
use Rattle.route.specs.Firing.{if_fires, stopped, reached}
use Rattle.refusal.specs.Rows.{pass, refuse}
use Rattle.route.specs.declared.Step.{Step}
use Rattle.refusal.specs.declared.Outcome.{Outcome}
use Rattle.precedence.specs.Precedence.{comes_after}
use Rattle.precedence.specs.Order.{none_of}
use Rattle.matching.specs.Fit.{kept_of}
use Rattle.route.specs.declared.Fired.{Fired}

-- occurrence number b is kept
unfoldable pub is_kept : ℕ → ℕ → Bool
is_kept kept b = leb 1 b && has kept (b - 1)

-- 16, over the whole list: an entry that is not kept, or repeated, at its position from 1; or some missing, at the
-- length + 1. `seen` are the positions of the entries passed, `at` is the position of the next
unfoldable pub list_row : ℕ → ℕ → ℕ → List ℕ → Outcome
list_row kept seen at [] = cond (eqb seen kept) pass (refuse 16 at)
list_row kept seen at (b ∷ o) = cond (is_kept kept b && not (has seen (b - 1)))
    (list_row kept (bit_or seen (bit (b - 1))) (at + 1) o) (refuse 16 at)

-- 17: before one it comes after; 18: can't fire; each entry in turn
unfoldable pub try_from : List Step → List Step → ℕ → ℕ → List ℕ → Fired
try_from new l m at [] = reached m
try_from new l m at (i ∷ o) =
    cond (none_of (comes_after l i) o)
    (if_fires m (lookup (get_or l i blank).name new) (stopped 18 at) (stopped 18 at)
    (λ s m'. try_from new l m' (at + 1) o))
    (stopped 17 at)

-- 16, then 17 and 18, from a marking
unfoldable pub try_entries : List Step → List Step → ℕ → List ℕ → Fired
try_entries new l m o =
    cond (eqb (list_row (kept_of new l) 0 1 o).number 0)
    (try_from new l m 1 (map (λ (b : ℕ). b - 1) o))
    (stopped (list_row (kept_of new l) 0 1 o).number (list_row (kept_of new l) 0 1 o).second)
