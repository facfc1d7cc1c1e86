-- A sheet that reads into lists: the job of the lists is the job of the sheet's facts, so its lines pass. Assumes
-- nothing.
use mathlib.Core.Path.{◌≡◌, refl, sym, ap, ap₂, ◌∙◌, subst}
use mathlib.Core.List.{List, ◌++◌, append-nil, map}
use Prim.Native.Nat.{ℕ, ◌*◌, ◌-◌, ◌≤◌}
use native.Mathlib.Omega.{arith}
use Rattle.std.specs.Prelude.{Ok}
use lib.ListN.{length, take, replicate, length-map}
use Rattle.route.specs.Steps.{blank, steps_of}
use Rattle.flat.specs.Flat.{steps_in}
use Rattle.route.specs.declared.Places.{Places}
use Rattle.route.specs.declared.Step.{Step}
use Rattle.route.specs.declared.Route.{Route}
use Rattle.flat.proofs.FlatSteps.{flat-take}
use Rattle.version.specs.Limits.{present}
use Rattle.version.specs.declared.Version.{Version}
use Rattle.job.specs.Job.{Job, flat_job}
use Rattle.job.specs.Lines.{LinesPass}
use Rattle.layout.specs.Text.{Form, Lines}
use Rattle.facts.specs.Forms.{record_of}
use Rattle.facts.specs.Facts.{read_by, job_read}
use Rattle.facts.specs.SheetRows.{filled, places_read, facts_record}
use Rattle.facts.specs.declared.Sheet.{Sheet}
use Rattle.facts.proofs.PassingLines.{AllLines, lines-fine}
use Rattle.facts.proofs.RowsFold.{filled-steps}
use Rattle.facts.proofs.ReadRecords.{reads_as, read-lines}
use Rattle.reader.specs.inner.Read.{ReadInto, ReadTo}
use Rattle.reader.specs.Refused.{counts_of}
use Rattle.reader.specs.declared.Lengths.{Lengths}

steps_of-short : (r : Route) → r.len ≤ 64 → take r.len r.steps ≡ steps_of r
unfolding steps_of
steps_of-short r h =
    let none : r.len - 64 ≡ 0 = omega arith in
    sym (append-nil (take r.len r.steps)) ∙ ap (λ (n : ℕ). take r.len r.steps ++ replicate n blank)
    (sym none)

-- the numbers of a route's steps, up to its length
steps-in : (w : List ℕ) (n : ℕ) (r : Route) → n ≤ 64 → n ≡ r.len → steps_in w ≡ r.steps
    → steps_in (take (4 * n) w) ≡ steps_of r
steps-in w n r h e is =
    flat-take w n ∙ ap₂ (λ (k : ℕ) (l : List Step). take k l) e is ∙ steps_of-short r (omega (arith, e))

module _ (v : Version) (s : List ℕ) (c : Lengths) (old new done : List ℕ)
    (k : ReadInto v s (counts_of (Ok c)) old new done) where
  pub lists-read : (read_by v s).number ≡ 0
  lists-read = sym k.number

  pub lengths-few : (c.old_len ≤ 64) × ((c.new_len ≤ 64) × (c.done_len ≤ 64))
  lengths-few = (k.old-few, (k.new-few, k.done-few))

  pub read-job : (j : Job) → j ≡ flat_job c.old_places (take (4 * c.old_len) old) c.new_places
      (take (4 * c.new_len) new) (take c.done_len done) → j ≡ job_read (read_by v s)
  read-job j is = is ∙ (λ i. record {
    old_places = k.old-places i;
    old = steps-in old c.old_len (read_by v s).old k.old-few k.old-len (k.old-steps refl) i;
    new_places = k.new-places i;
    new = steps-in new c.new_len (read_by v s).new k.new-few k.new-len (k.new-steps refl) i;
    done = ap₂ (λ (n : ℕ) (l : List ℕ). take n l) k.done-len (k.done-names refl) i;
  })

-- both routes have at most 64 places, and as many steps
pub record Few (j : Job) : Type 0 where
  pub old_places : j.old_places.count ≤ 64
  pub old : length j.old ≤ 64
  pub new_places : j.new_places.count ≤ 64
  pub new : length j.new ≤ 64

steps-few : (p : Places) (l : List Form) → length l ≤ 64 → length (steps_of (filled p (map record_of l))) ≤ 64
steps-few p l h =
    let few : length (map record_of l) ≤ 64 = omega (arith, length-map l record_of) in
    rw (filled-steps p (map record_of l) few) few

lines-few : (v : Version) (x : Lines) → AllLines v x → Few (job_read (facts_record v x))
unfolding facts_record filled places_read
lines-few v x fine = record {
  old_places = fine.old_places;
  old = steps-few (places_read v x.old_places x.old_start) x.old fine.old_few;
  new_places = fine.new_places;
  new = steps-few (places_read v x.new_places x.new_start) x.new fine.new_few;
}

pub job-few : (v : Version) (s : List ℕ) → (read_by v s).number ≡ 0 → Few (job_read (read_by v s))
job-few v s z =
    let r = reads_as v s z in
    subst (λ (y : Sheet). Few (job_read y)) (sym r.facts) (lines-few v r.lines (lines-fine v r.lines r.passes))

-- and by the present version the lines of the job pass
pub read-passes : (s : List ℕ) (c : Lengths) (old new done : List ℕ) → ReadTo s (counts_of (Ok c)) old new done
    → (j : Job) → j ≡ flat_job c.old_places (take (4 * c.old_len) old) c.new_places
    (take (4 * c.new_len) new) (take c.done_len done) → LinesPass j
read-passes s c old new done k j is =
    subst LinesPass (sym (read-job present s c old new done k j is))
    (read-lines s (lists-read present s c old new done k))
