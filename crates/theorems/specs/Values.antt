-- Replay of values, in 01's words, with the cloth that is cut, in 02's. `T` is any type of values; a blank is none of
-- them.
use Rattle.std.specs.Prelude.{Bool, true, false, cond, List, [], ◌∷◌, map, ℕ}
use Rattle.std.proofs.Math.Option.{Option, none, some}
use Rattle.mask.specs.Mask.{has, members}
use Rattle.route.specs.Firing.{if_fires}
use Rattle.route.specs.Steps.{lookup}
use Rattle.route.specs.declared.Step.{Step}

-- what each variable holds: a value, or a blank
abbrev pub Store : Type 0 → Type 0
Store T = ℕ → Option T

-- all variables blank
unfoldable pub all_blank : {T : Type 0} → Store T
all_blank v = none

-- "Each occurrence has, for each variable, a function, any at all, from the list of what it read to a value." The
-- occurrence is given by its position
abbrev pub Work : Type 0 → Type 0
Work T = ℕ → ℕ → List (Option T) → T

-- "what its read variables hold, values or blanks, in rising order of variable"
unfoldable pub readings : {T : Type 0} → ℕ → Store T → List (Option T)
readings m σ = map σ (members 32 m)

-- "It reads first. Then each variable that it writes gets what the occurrence's function for it gives from that list;
-- the others stay."
unfoldable pub perform : {T : Type 0} → Work T → ℕ → Step → Store T → Store T
perform f i s σ v = cond (has s.writes v) (some (f i v (readings s.reads σ))) (σ v)

-- where a replay ends: its marking, its store, the markings that it passed, one after each entry, "the sequence of
-- cloth occurrences" (02), those whose step on the route is marked, in turn, and whether it came to the end of the list
pub record End (T : Type 0) : Type 0 where
  pub marking : ℕ
  pub store : Store T
  pub passed : List ℕ
  pub cut : List ℕ
  pub whole : Bool

-- the occurrence i, where its step cuts cloth, before those that follow
unfoldable pub cut_then : ℕ → Step → List ℕ → List ℕ
cut_then i s c = cond s.cloth (i ∷ c) c

-- an entry i that fired as the step s, to the marking m, and what follows it
abbrev pub after : {T : Type 0} → ℕ → Step → ℕ → End T → End T
after i s m e = record {
  marking = e.marking;
  store = e.store;
  passed = m ∷ e.passed;
  cut = cut_then i s e.cut;
  whole = e.whole;
}

-- a replay that ends before the end of its list
abbrev pub ended : {T : Type 0} → ℕ → Store T → End T
ended m σ = record { marking = m; store = σ; passed = []; cut = []; whole = false }

-- "takes the occurrences in turn. For each, the route's step of its name fires. Where the route has no such step, or it
-- can't fire, the replay ends there." `name` gives an occurrence's name
unfoldable pub replay_from : {T : Type 0} → Work T → List Step → (ℕ → ℕ) → ℕ → Store T → List ℕ → End T
replay_from f steps name m σ [] = record { marking = m; store = σ; passed = []; cut = []; whole = true }
replay_from f steps name m σ (i ∷ o) =
    if_fires m (lookup (name i) steps) (ended m σ) (ended m σ)
    (λ s m'. after i s m' (replay_from f steps name m' (perform f i s σ) o))

-- "A replay of a list of occurrences on a route begins at the route's start with all 32 variables blank"; `from` is
-- that start
unfoldable pub replay : {T : Type 0} → Work T → ℕ → List Step → (ℕ → ℕ) → List ℕ → End T
replay f from steps name o = replay_from f steps name from all_blank o

-- the values alone: performing occurrences in turn, each with its own step
unfoldable pub perform_all : {T : Type 0} → Work T → (ℕ → Step) → List ℕ → Store T → Store T
perform_all f at [] σ = σ
perform_all f at (i ∷ o) σ = perform_all f at o (perform f i (at i) σ)

-- the cloth alone: the occurrences of a list that cut it, in turn, each by its own step
unfoldable pub cut_all : (ℕ → Step) → List ℕ → List ℕ
cut_all at [] = []
cut_all at (i ∷ o) = cut_then i (at i) (cut_all at o)
