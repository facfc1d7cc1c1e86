-- The operation slice, row by row: a line that is refused, a row from 6 to 9, and else what is kept and the table.
use mathlib.Core.Path.{◌≡◌, ap, ap₂, ◌∙◌}
use mathlib.Core.List.{List, map}
use Prim.Native.Nat.{ℕ, ◌*◌, ◌≤◌}
use native.Mathlib.Omega.{arith}
use lib.ListN.{length, take, length-take}
use Rattle.std.specs.Prelude.{Ok, Err}
use Rattle.refusal.specs.Rows.{refuse, first}
use Rattle.refusal.specs.Refusal.{number_of}
use Rattle.refusal.specs.declared.Refusal.{Refusal}
use Rattle.flat.specs.Flat.{steps_in, Holds}
use Rattle.route.specs.declared.Step.{Step}
use Rattle.route.specs.declared.Marking.{Marking}
use Rattle.job.specs.Job.{Job, cut}
use Rattle.job.specs.Lines.{line_rows}
use Rattle.running.specs.Run.{ran, Begins}
use Rattle.occurrences.specs.Occurrences.{shared, occurrence, occurrences_of}
use Rattle.occurrences.proofs.DoneOccurrences.{length-occurrences, holds-occurrences, holds-narrowed}
use Rattle.route.specs.Firing.{fired_of}
use Rattle.running.specs.declared.Begun.{Begun}
use Rattle.job.proofs.LongLists.{Refused, laid-alike}
use Rattle.running.proofs.LongLists.{ran-alike, ran-off}
use Rattle.running.proofs.RunLine.{ran-fits}
use Rattle.running.proofs.AfterRun.{line-ends, run_ends, run-passes, run-answers}
use Rattle.slice.specs.Slice.{variables, kept_mask}
use Rattle.precedence.specs.Table.{table}
use Rattle.slicing.specs.Slicing.{sliced_stopped, sliced}
use Rattle.slicing.specs.declared.Sliced.{Sliced}

module _ (j : Job) where
  abbrev answer : Sliced
  answer =
      record {
        number = 0;
        second = 0;
        kept = kept_mask (occurrences_of j) (variables j.new);
        table = table (occurrences_of j);
      }

  pub slice-line : (e : Refusal) → refuse (number_of e.row) e.second ≡ first (line_rows j)
      → sliced_stopped (number_of e.row) e.second ≡ sliced j
  unfolding sliced
  slice-line e is = line-ends sliced_stopped answer j e is

  pub slice-run : (e : Refusal) → fired_of (Err e) ≡ ran j → sliced_stopped (number_of e.row) e.second ≡ sliced j
  unfolding sliced
  slice-run e is = run_ends sliced_stopped answer j e is

  pub done-few : (m : Marking) → fired_of (Ok m) ≡ ran j → length j.done ≤ 64
  done-few m is = (ran-fits j (run-passes j m is)).done-fit

  -- the steps done, narrowed to occurrences
  module _ (b : Begun) (is : fired_of (Ok b.marking) ≡ ran j) (v w : List ℕ) (begins : Begins j b v)
      (narrowed : (l : List Step) → length l ≡ length j.done → Holds l v
      → Holds (map (occurrence (shared j.old)) l) w) where
    pub occurrences-are : steps_in (take (4 * length j.done) w) ≡ occurrences_of j
    occurrences-are = holds-occurrences j w (holds-narrowed j v w begins.done-are narrowed)

    module _ (end : ℕ) (stops : end ≡ 4 * length j.done) where
      pub occurrences-few : length (steps_in (take end w)) ≤ 64
      occurrences-few = rw stops (omega (
        arith,
        ap length occurrences-are,
        length-occurrences j,
        done-few,
      ))

      pub occurrences-room : length w ≡ 256 → end ≤ length w
      occurrences-room room = omega (arith, done-few b.marking is)

      pub occurrences-count : length w ≡ 256 → end ≡ length (take end w)
      occurrences-count room = omega (arith, done-few b.marking is, length-take end w)

    pub slice_kept :
        (vars kept : ℕ) (rows : List ℕ)
        → vars ≡ variables j.new
        → kept ≡ kept_mask (steps_in (take (4 * length j.done) w)) vars
        → rows ≡ table (steps_in (take (4 * length j.done) w))
        → record { number = 0; second = 0; kept = kept; table = rows } ≡ sliced j
    unfolding sliced
    slice_kept vars kept rows v k r =
        (λ i. record {
          number = 0;
          second = 0;
          kept = (k ∙ ap₂ kept_mask occurrences-are v) i;
          table = (r ∙ ap table occurrences-are) i;
        })
        ∙ run-answers sliced_stopped answer j _ is

-- ---- both lists laid as numbers: what a list has past its 65th step changes nothing

sliced-alike : (j k : Job) → Refused j k → sliced j ≡ sliced k
unfolding sliced
sliced-alike j k r = rw (ran-alike j k r, ran-off j k r)

pub sliced_cut : (j k : Job) → k ≡ cut j → (r : Sliced) → r ≡ sliced k → r ≡ sliced j
sliced_cut = laid-alike sliced sliced-alike
