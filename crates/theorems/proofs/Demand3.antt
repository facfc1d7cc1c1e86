-- Demand 3 is put together: acceptance from try's rows, judge's own order from its being fit, values from the replay of
-- a fit list, and places from the toggles.
use mathlib.Core.Path.{◌≡◌, refl, sym, ap, ap₂, ◌∙◌}
use mathlib.Core.Logic.{◌↔◌}
use mathlib.Core.List.{List, [], ◌∷◌, map}
use mathlib.Core.Option.{some-injective}
use Prim.Native.Nat.{ℕ}
use Rattle.route.specs.Steps.{names}
use Rattle.route.specs.declared.Places.{Places}
use Rattle.route.specs.declared.Step.{Step}
use Rattle.job.specs.Job.{Job, new_start}
use Rattle.precedence.specs.Order.{times}
use Rattle.matching.specs.Straight.{fire_all, steps_on}
use Rattle.trying.specs.Try.{tried}
use Rattle.judging.specs.Judge.{judged}
use Rattle.occurrences.specs.Occurrences.{occurrences_of}
use Rattle.theorems.specs.Demand3.{Runs, name_at, positions, Accepted, FitFor, ordered, Own, Demand3}
use Rattle.theorems.proofs.Runs.{done-named}
use Rattle.theorems.proofs.Accepts.{try-fit, try-second, try-marking}
use Rattle.theorems.proofs.Judge.{judge-given, judge-marking}
use Rattle.theorems.proofs.Markings.{same-marking}
use Rattle.theorems.proofs.AcceptedReplay.{carried}

accepted-fit : (j : Job) (o : List ℕ) → Runs j → Accepted j o ↔ FitFor j o
accepted-fit j o ok = (
  λ a. (try-fit j ok o).0 a.0,
  λ f. let e = (try-fit j ok o).1 f in (e, try-second j ok o e),
)

-- the names of a list's steps are those of its occurrences
names-on : (j : Job) (ok : Runs j) (p : List ℕ) → names (steps_on (occurrences_of j) p) ≡ map (name_at j) p
unfolding names steps_on
names-on j ok [] = refl
names-on j ok (i ∷ p) = ap₂ (λ (n : ℕ) (l : List ℕ). n ∷ l) (done-named j ok i) (names-on j ok p)

same-places : (j j' : Job) (o o' : List ℕ) → j.new_places ≡ j'.new_places → j.new ≡ j'.new → Runs j → Runs j'
    → Accepted j o → Accepted j' o'
    → ((n : ℕ) → times n (map (name_at j) (positions o)) ≡ times n (map (name_at j') (positions o')))
    → (tried j o).marking.tokens ≡ (tried j' o').marking.tokens
same-places j j' o o' places new ok ok' a a' c =
    same-marking j.new (new_start j) (tried j o).marking.tokens (tried j' o').marking.tokens
    (steps_on (occurrences_of j) (positions o)) (steps_on (occurrences_of j') (positions o'))
    (try-marking j ok o a.0)
    (ap₂ (λ (p : Places) (s : List Step). fire_all s p.start (steps_on (occurrences_of j') (positions o'))) places new
    ∙ try-marking j' ok' o' a'.0)
    (λ n. ap (times n) (names-on j ok (positions o)) ∙ c n ∙ sym (ap (times n) (names-on j' ok' (positions o'))))

own-accepted : (j : Job) (room : ℕ) → Runs j → (judged j room).number ≡ 0 → Own j room
own-accepted j room ok e =
    let a = (accepted-fit j (ordered j room) ok).1 (judge-given j room ok e).fit in
    let same : (tried j (ordered j room)).marking.tokens ≡ (judged j room).marking.tokens =
    some-injective _ _ (sym (try-marking j ok (ordered j room) a.0) ∙ judge-marking j room ok e) in
    record {
      accepted = a;
      marking = same;
      replayed = λ T f.
          let r = carried j ok (ordered j room) a.0 f in (r.whole, r.marking ∙ same);
    }

pub demand3 : Demand3
demand3 = record {
  fit = accepted-fit;
  own = own-accepted;
  values = λ j o ok a T f. carried j ok o a.0 f;
  places = same-places;
}
