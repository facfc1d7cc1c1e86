-- Demand 3, whole, as one claim.
use Rattle.std.specs.Prelude.{◌≡◌, ◌↔◌, true, List, [], ◌∷◌, map, ℕ, ◌-◌, length, get_or, take}
use Rattle.std.proofs.Math.Option.{Option, some}
use Rattle.mask.specs.Mask.{has}
use Rattle.route.specs.Firing.{fire_next}
use Rattle.route.specs.Steps.{lookup}
use Rattle.route.specs.declared.Step.{Step}
use Rattle.job.specs.Job.{Job, old_start, new_start}
use Rattle.running.specs.Run.{ran}
use Rattle.occurrences.specs.Occurrences.{occurrences_of}
use Rattle.slice.specs.Slice.{variables}
use Rattle.precedence.specs.Order.{in_turn, times}
use Rattle.matching.specs.Fit.{Fit}
use Rattle.trying.specs.Try.{tried}
use Rattle.judging.specs.Judge.{judged}
use Rattle.theorems.specs.Values.{Work, End, replay}

-- "In demand 3 such a job is one that no row to 9 refuses"
abbrev pub Runs : Job → Type 0
Runs j = (ran j).number ≡ 0

-- the name of the occurrence at a position
abbrev pub name_at : Job → ℕ → ℕ
name_at j i = get_or j.done i 0

-- an order holds occurrence numbers, which count from 1; positions count from 0
abbrev pub positions : List ℕ → List ℕ
positions o = map (λ (b : ℕ). b - 1) o

-- "Accepted: try answers it with 0, 0."
abbrev pub Accepted : Job → List ℕ → Type 0
Accepted j o = ((tried j o).number ≡ 0) × ((tried j o).second ≡ 0)

-- an order is fit for a job
abbrev pub FitFor : Job → List ℕ → Type 0
FitFor j o = Fit (new_start j) j.new (occurrences_of j) o

-- the order that judge gives; `room` is the length of the work slice
abbrev pub ordered : Job → ℕ → List ℕ
ordered j room = take (judged j room).len (judged j room).order

-- "replaying any accepted order on the new route from its start"; 02: "Replay begins from the written places."
abbrev pub moved : {T : Type 0} → Work T → Job → List ℕ → End T
moved f j o = replay f (new_start j) j.new (name_at j) (positions o)

-- "The whole job is the replay of the done list, from 1 upward, on the old route, with the same functions."
abbrev pub whole_job : {T : Type 0} → Work T → Job → End T
whole_job f j = replay f (old_start j) j.old (name_at j) (in_turn 0 (length j.done))

-- one entry fires: the route has its step, which can fire on the marking before, and firing it gives the marking after
abbrev pub FiresTo : ℕ → Option Step → ℕ → Type 0
FiresTo m q m' = fire_next m q ≡ some m'

-- "all firing in turn": a marking after each entry, each by firing that entry's step on the one before
abbrev pub InTurn : List Step → (ℕ → ℕ) → ℕ → List ℕ → List ℕ → Type 0
InTurn steps name m [] [] = Unit {0}
InTurn steps name m [] (m' ∷ ms) = ⊥
InTurn steps name m (i ∷ o) [] = ⊥
InTurn steps name m (i ∷ o) (m' ∷ ms) = FiresTo m (lookup (name i) steps) m' × InTurn steps name m' o ms

-- "replaying any accepted order on the new route from its start leaves in every variable of the new route the value, or
-- the blank, that the whole job left on the old route". 02: "What must be equal at the end of a move now includes the
-- sequence of cloth occurrences." Both replays come to the end of their lists, and that of the order ends on the
-- marking that try gives
pub record Carried {T : Type 0} (f : Work T) (j : Job) (o : List ℕ) : Type 0 where
  pub whole : (moved f j o).whole ≡ true
  pub turns : InTurn j.new (name_at j) (new_start j) (positions o) (moved f j o).passed
  pub marking : (moved f j o).marking ≡ (tried j o).marking.tokens
  pub job : (whole_job f j).whole ≡ true
  pub values : (v : ℕ) → has (variables j.new) v ≡ true → (moved f j o).store v ≡ (whole_job f j).store v
  pub cut : (moved f j o).cut ≡ (whole_job f j).cut

-- "When judge answers 0, 0, try accepts the order that judge gives, and both give the marking at the end of its replay
-- on the new route."
pub record Own (j : Job) (room : ℕ) : Type 1 where
  pub accepted : Accepted j (ordered j room)
  pub marking : (tried j (ordered j room)).marking.tokens ≡ (judged j room).marking.tokens
  pub replayed : (T : Type 0) (f : Work T)
      → ((moved f j (ordered j room)).whole ≡ true)
      × ((moved f j (ordered j room)).marking ≡ (judged j room).marking.tokens)

-- "All this is a single claim about the whole order, for all routes, done lists and functions, and not one for each
-- firing."
pub record Demand3 : Type 1 where
  -- "Whatever order of done steps anybody hands in for such a job, it is accepted exactly when it is fit"
  pub fit : (j : Job) (o : List ℕ) → Runs j → Accepted j o ↔ FitFor j o
  -- "the order that the engine itself gives is accepted too"
  pub own : (j : Job) (room : ℕ) → Runs j → (judged j room).number ≡ 0 → Own j room
  -- "Whichever function each done step computes from what it reads, even another one each time it is done"
  pub values : (j : Job) (o : List ℕ) → Runs j → Accepted j o → (T : Type 0) (f : Work T) → Carried f j o
  -- "Whichever two accepted orders hold the same done steps, each as often, they end on the same places." "Done steps
  -- are counted by name, and the two orders may be of two jobs with the same new route": the same place count, start
  -- and steps
  pub places : (j j' : Job) (o o' : List ℕ) → j.new_places ≡ j'.new_places → j.new ≡ j'.new → Runs j → Runs j'
      → Accepted j o → Accepted j' o'
      → ((n : ℕ) → times n (map (name_at j) (positions o)) ≡ times n (map (name_at j') (positions o')))
      → (tried j o).marking.tokens ≡ (tried j' o').marking.tokens
