-- Which numbers rows can answer: 6 and 7 of a route their own or nothing, a row at each line its own or nothing, and no
-- rows but its own 23.
use mathlib.Core.Bool.{Bool, true, false, not, cond, ◌&&◌}
use mathlib.Core.List.{List, [], ◌∷◌, ◌++◌, map}
use mathlib.Core.Option.{Option, none, some, get_or as value_or}
use Prim.Native.Nat.{ℕ, suc, ◌+◌, ◌-◌, ◌<◌, ◌≤◌}
use native.Mathlib.Omega.{arith}
use lib.Dec.{eqb, leb}
use lib.ListN.{length, get_or}
use lib.Bits.{bit_or}
use Rattle.mask.specs.Mask.{has, bit, below}
use Rattle.refusal.specs.Rows.{pass, refuse, unless, first, each_line}
use Rattle.refusal.proofs.Rows.{first-number, unless-number, append-number}
use Rattle.route.specs.Steps.{blank, lookup}
use Rattle.route.specs.Firing.{can_fire, fire, if_fires, stopped, reached}
use Rattle.route.specs.declared.Places.{Places}
use Rattle.route.specs.declared.Step.{Step}
use Rattle.route.specs.declared.Fired.{Fired}
use Rattle.opening.specs.Net.{net_row_at, net_row, open_row}
use Rattle.opening.specs.Unwritten.{reads_written, unwritten_rows}
use Rattle.version.specs.Limits.{present}
use Rattle.job.specs.Job.{Job, after_steps, new_line, job_line, old_start, new_start}
use Rattle.job.specs.Lines.{step_row, step_rows, head_rows, route_rows, done_row, done_rows, line_rows, checked}
use Rattle.running.specs.Run.{run_from, ran}
use Rattle.occurrences.specs.Occurrences.{occurrences_of}
use Rattle.precedence.specs.Precedence.{comes_after}
use Rattle.precedence.specs.Order.{none_of, in_turn}
use Rattle.matching.specs.Straight.{fire_all, runs_straight}
use Rattle.matching.specs.Fit.{kept_of}
use Rattle.matching.specs.KeptRows.{kept_rows}
use Rattle.order_entries.specs.Entries.{list_row, is_kept, try_from, try_entries}
use Rattle.trying.specs.Try.{same_list, try_list, try_rows}
use Rattle.answering.specs.Answer.{answer, judge_stopped}
use Rattle.answering.specs.declared.Judged.{Judged}
use Rattle.candidates.specs.FirstFit.{first_fit}
use Rattle.judging.specs.Judge.{judge_found, judge_rows, judged}
use Rattle.shelf.specs.Put.{shelf_rows}
use Rattle.shelf.specs.declared.Shelf.{Shelf}
use Rattle.theorems.proofs.KeptRows.{kept_rows-most}

-- rows 6 and 7 of a route answer 6, 7 or nothing
none-number : (P : ℕ → Type 0) → P 0 → P (first []).number
unfolding first
none-number P zero = zero

module _ (P : ℕ → Type 0) (zero : P 0) (six : P 6) (seven : P 7) where
  pub net-number : (head start : ℕ) (places : Places) (l : List Step) → P (net_row_at head start places l).number
  unfolding net_row_at
  net-number head start places l =
      first-number P _ _ (unless-number P _ 6 head zero six)
      (first-number P _ [] (unless-number P _ 7 start zero seven) (none-number P zero))

-- a row at each line answers its number or nothing
pub each-number : (P : ℕ → Type 0) {A : Type 0} (test : A → Bool) (n line : ℕ) (l : List A) → P 0 → P n
    → P (first (each_line test n line l)).number
unfolding each_line
each-number P test n line [] zero own = none-number P zero
each-number P test n line (x ∷ l) zero own = first-number P (unless (test x) n line) _
    (unless-number P (test x) n line zero own) (each-number P test n (line + 1) l zero own)

-- an answer past rows, else theirs
pub past-number : (P : ℕ → Type 0) {R : Type 0} (number : R → ℕ) (n : ℕ) (a b : R) → P (number a) → P (number b)
    → P (number (cond (eqb n 0) a b))
past-number P {R} number n a b p q = go (eqb n 0)
  where
    go : (t : Bool) → P (number (cond t a b))
    go true = p
    go false = q

-- what no row but 23's answers, and what all answer
abbrev pub Below : ℕ → Type 0
Below n = n < 23

abbrev pub Most : ℕ → Type 0
Most n = n ≤ 23

pub none-below : Below (first []).number
none-below = none-number Below (omega arith)

pub net-below : (head start : ℕ) (places : Places) (l : List Step) → Below (net_row_at head start places l).number
net-below = net-number Below (omega arith) (omega arith) (omega arith)

-- ---- the lines

step-below : (line n : ℕ) (earlier : List ℕ) (s : Step) → Below (step_row line n earlier s).number
unfolding step_row
step-below line n earlier s =
    first-number Below _ _ (unless-number Below _ 4 line (omega arith) (omega arith))
    (first-number Below _ _ (unless-number Below _ 2 line (omega arith) (omega arith))
    (first-number Below _ _ (unless-number Below _ 3 line (omega arith) (omega arith))
    (first-number Below _ [] (unless-number Below _ 5 line (omega arith) (omega arith)) none-below)))

steps-below : (line n : ℕ) (earlier : List ℕ) (l : List Step) → Below (first (step_rows line n earlier l)).number
unfolding step_rows
steps-below line n earlier [] = none-below
steps-below line n earlier (s ∷ l) = first-number Below (step_row line n earlier s) _
    (step-below line n earlier s) (steps-below (line + 1) n (earlier ++ (s.name ∷ [])) l)

dones-below : (line above : ℕ) (l : List ℕ) → Below (first (done_rows present line above l)).number
unfolding done_rows done_row
dones-below line above [] = none-below
dones-below line above (n ∷ l) =
    first-number Below _ _
    (first-number Below _ _ (unless-number Below _ 4 line (omega arith) (omega arith))
    (first-number Below _ [] (unless-number Below _ 2 line (omega arith) (omega arith)) none-below))
    (dones-below (line + 1) (above + 1) l)

pub route-below : (line : ℕ) (places : Places) (l : List Step) → Below (first (route_rows line places l)).number
unfolding route_rows head_rows
route-below line places l =
    append-number Below (head_rows line places) _
    (first-number Below _ _ (unless-number Below _ 2 line (omega arith) (omega arith))
    (first-number Below _ [] (unless-number Below _ 2 (line + 1) (omega arith) (omega arith)) none-below))
    (append-number Below (step_rows (line + 2) places.count [] l) _ (steps-below (line + 2) places.count [] l)
    (first-number Below _ [] (unless-number Below _ 4 (after_steps line l) (omega arith) (omega arith)) none-below))

pub lines-below : (j : Job) → Below (first (line_rows j)).number
unfolding line_rows
lines-below j =
    append-number Below (route_rows 1 j.old_places j.old) _ (route-below 1 j.old_places j.old)
    (append-number Below (route_rows (new_line j) j.new_places j.new) _ (route-below (new_line j) j.new_places j.new)
    (dones-below (job_line j + 1) 0 j.done))

pub shelf-below : (s : Shelf) (n : ℕ) → Below (first (shelf_rows s n)).number
unfolding shelf_rows
shelf-below s n =
    first-number Below _ _ (unless-number Below _ 21 1 (omega arith) (omega arith))
    (first-number Below _ _ (unless-number Below _ 20 0 (omega arith) (omega arith))
    (first-number Below _ [] (unless-number Below _ 21 0 (omega arith) (omega arith)) none-below))

-- ---- the rows after 23

fires-below : (m : ℕ) (q : Option Step) (missing stuck : Fired) (next : Step → ℕ → Fired) → Below missing.number
    → Below stuck.number → ((s : Step) (m' : ℕ) → Below (next s m').number)
    → Below (if_fires m q missing stuck next).number
unfolding if_fires
fires-below m none missing stuck next a b c = a
fires-below m (some s) missing stuck next a b c = go (can_fire m s)
  where
    go : (t : Bool) → Below (cond t (next s (fire m s)) stuck).number
    go true = c s (fire m s)
    go false = b

pub run-below : (steps : List Step) (m line : ℕ) (done : List ℕ) → Below (run_from steps m line done).number
unfolding run_from
run-below steps m line [] = omega arith
run-below steps m line (n ∷ l) =
    fires-below m (lookup n steps) (stopped 8 line) (stopped 9 line) _ (omega arith) (omega arith)
    (λ s m'. run-below steps m' (line + 1) l)

order-below : (kept seen at : ℕ) (o : List ℕ) → Below (list_row kept seen at o).number
unfolding list_row
order-below kept seen at [] = go (eqb seen kept)
  where
    go : (t : Bool) → Below (cond t pass (refuse 16 at)).number
    go true = omega arith
    go false = omega arith
order-below kept seen at (b ∷ o) =
    go (is_kept kept b && not (has seen (b - 1))) (order-below kept (bit_or seen (bit (b - 1))) (at + 1) o)
  where
    go : (t : Bool) → Below (list_row kept (bit_or seen (bit (b - 1))) (at + 1) o).number
        → Below (cond t (list_row kept (bit_or seen (bit (b - 1))) (at + 1) o) (refuse 16 at)).number
    go true ih = ih
    go false ih = omega arith

entries-below : (new l : List Step) (m at : ℕ) (p : List ℕ) → Below (try_from new l m at p).number
unfolding try_from
entries-below new l m at [] = omega arith
entries-below new l m at (i ∷ p) = go (none_of (comes_after l i) p) (λ m'. entries-below new l m' (at + 1) p)
  where
    fired : Fired
    fired = if_fires m (lookup (get_or l i blank).name new) (stopped 18 at) (stopped 18 at)
        (λ s m'. try_from new l m' (at + 1) p)

    go : (t : Bool) → ((m' : ℕ) → Below (try_from new l m' (at + 1) p).number)
        → Below (cond t fired (stopped 17 at)).number
    go true ih = fires-below m (lookup (get_or l i blank).name new) (stopped 18 at) (stopped 18 at) _ (omega arith)
        (omega arith) (λ s m'. ih m')
    go false ih = omega arith

pub try-below : (line from : ℕ) (new l : List Step) (o : List ℕ) → Below (try_rows line from new l o).number
unfolding try_rows try_list try_entries
try-below line from new l o =
    past-number Below (λ (t : Fired). t.number) (kept_rows line from new l).number _ _
    (go (runs_straight from new l && same_list o (map suc (in_turn 0 (length l)))))
    (omega (arith, kept_rows-most line from new l))
  where
    entries : Below (try_entries new l from o).number
    entries = past-number Below (λ (t : Fired). t.number) (list_row (kept_of new l) 0 1 o).number _ _
        (entries-below new l from 1 (map (λ (b : ℕ). b - 1) o)) (order-below (kept_of new l) 0 1 o)

    go : (t : Bool) → Below (cond t (reached (value_or (fire_all new from l) 0)) (try_entries new l from o)).number
    go true = omega arith
    go false = entries

found-below : (line from : ℕ) (new l : List Step) (q : Option (List ℕ)) → Below (judge_found line from new l q).number
unfolding judge_found answer
found-below line from new l none = omega arith
found-below line from new l (some o) = omega arith

pub judge-below : (line from : ℕ) (new l : List Step) → Below (judge_rows line from new l).number
unfolding judge_rows answer
judge-below line from new l =
    past-number Below (λ (r : Judged). r.number) (kept_rows line from new l).number _ _ (go (runs_straight from new l))
    (omega (arith, kept_rows-most line from new l))
  where
    go : (t : Bool) → Below (cond t (answer from new l (below (length l)) (in_turn 0 (length l)))
        (judge_found line from new l (first_fit from new l))).number
    go true = omega arith
    go false = found-below line from new l (first_fit from new l)

-- ---- all rows together

open-most : (line : ℕ) (places : Places) (l : List Step) → Most (open_row line places l).number
unfolding open_row unwritten_rows
open-most line places l =
    first-number Most (net_row line places l) _ (omega (arith, net-below line (line + 1) places l))
    (each-number Most (reads_written l) 23 (line + 2) l (omega arith) (omega arith))

checked-most : (j : Job) → Most (checked j).number
unfolding checked
checked-most j =
    append-number Most (line_rows j) _ (omega (arith, lines-below j))
    (first-number Most _ _ (open-most 1 j.old_places j.old)
    (first-number Most _ [] (open-most (new_line j) j.new_places j.new) (none-number Most (omega arith))))

ran-most : (j : Job) → Most (ran j).number
unfolding ran
ran-most j = past-number Most (λ (t : Fired). t.number) (checked j).number _ _
    (omega (arith, run-below j.old (old_start j) (job_line j + 1) j.done)) (checked-most j)

pub judged-most : (j : Job) (room : ℕ) → Most (judged j room).number
unfolding judged
judged-most j room = go (leb 8192 room)
  where
    rows : Judged
    rows = judge_rows (job_line j) (new_start j) j.new (occurrences_of j)

    go : (t : Bool) → Most (cond t (cond (eqb (ran j).number 0) rows (judge_stopped (ran j).number (ran j).second))
        (judge_stopped 14 0)).number
    go true = past-number Most (λ (r : Judged). r.number) (ran j).number _ _
        (omega (arith, judge-below (job_line j) (new_start j) j.new (occurrences_of j))) (ran-most j)
    go false = omega arith
