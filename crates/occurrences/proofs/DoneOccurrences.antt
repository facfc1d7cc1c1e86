-- The occurrences of a done list: one for each name, with the step's own name, uses and mark.
use mathlib.Core.Path.{◌≡◌, refl, sym, ap, ◌∙◌}
use mathlib.Core.List.{List, [], ◌∷◌, map}
use Prim.Native.Nat.{ℕ, ◌*◌, ◌≤◌}
use native.Mathlib.Omega.{arith}
use lib.ListN.{length, take, get_or, length-map, get_or-map}
use Rattle.route.specs.Steps.{blank, names}
use Rattle.flat.specs.Flat.{steps_in, Holds}
use Rattle.route.specs.declared.Step.{Step}
use Rattle.job.specs.Job.{Job}
use Rattle.running.specs.Run.{performed}
use Rattle.running.proofs.Performed.{length-performed}
use Rattle.occurrences.specs.Occurrences.{shared, occurrence, occurrences_of}
use Rattle.occurrences.proofs.Narrowed.{blank-occurrence}

same-names : (places : ℕ) (l : List Step) → names (map (occurrence places) l) ≡ names l
unfolding names occurrence
same-names places [] = refl
same-names places (s ∷ l) = ap (λ (k : List ℕ). s.name ∷ k) (same-names places l)

module _ (j : Job) where
  abbrev f : Step → Step
  f = occurrence (shared j.old)

  pub length-occurrences : length (occurrences_of j) ≡ length j.done
  unfolding occurrences_of
  length-occurrences = length-map (performed j.old j.done) f ∙ length-performed j.old j.done

  pub names-occurrences : names (occurrences_of j) ≡ names (performed j.old j.done)
  unfolding occurrences_of
  names-occurrences = same-names (shared j.old) (performed j.old j.done)

  pub occurrence-at : (i : ℕ) → get_or (occurrences_of j) i blank
      ≡ occurrence (shared j.old) (get_or (performed j.old j.done) i blank)
  unfolding occurrences_of
  occurrence-at i = ap (get_or (map f (performed j.old j.done)) i) (sym (blank-occurrence (shared j.old)))
      ∙ get_or-map f (performed j.old j.done) i blank

  -- numbers that began with those of the steps done, narrowed
  pub holds-narrowed : (w v : List ℕ) → Holds (performed j.old j.done) w
      → ((l : List Step) → length l ≡ length j.done → Holds l w → Holds (map (occurrence (shared j.old)) l) v)
      → Holds (occurrences_of j) v
  unfolding occurrences_of
  holds-narrowed w v holds narrowed = narrowed (performed j.old j.done) (length-performed j.old j.done) holds

  module _ (w : List ℕ) (h : Holds (occurrences_of j) w) where
    pub holds-occurrences : steps_in (take (4 * length j.done) w) ≡ occurrences_of j
    holds-occurrences = ap (λ (n : ℕ). steps_in (take (4 * n) w)) (sym length-occurrences) ∙ h.steps-are

    pub length-held : length (steps_in (take (4 * length j.done) w)) ≡ length j.done
    length-held = ap length holds-occurrences ∙ length-occurrences

    pub held-few : length j.done ≤ 64 → length (steps_in (take (4 * length j.done) w)) ≤ 64
    held-few few = omega (arith, length-held)
