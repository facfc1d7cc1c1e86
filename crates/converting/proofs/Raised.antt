-- What up gives of a sheet that 01's version reads: the same facts with the start that both routes imply. Assumes
-- nothing.
use mathlib.Core.Path.{◌≡◌, sym, ap, ◌∙◌, subst}
use mathlib.Core.List.{List}
use Prim.Native.Nat.{ℕ, ◌^◌, ◌≤◌, ◌<◌}
use native.Mathlib.Nat.{pow-le-pow_right, zero-lt-suc}
use native.Mathlib.Omega.{arith}
use lib.ListN.{length}
use Rattle.mask.specs.Mask.{members}
use Rattle.mask.proofs.Cut.{within-below}
use Rattle.version.specs.Limits.{scope, present}
use Rattle.version.proofs.Limits.{scope-limits, present-limits}
use Rattle.route.specs.Steps.{steps_of}
use Rattle.route.specs.Firing.{implied_start}
use Rattle.route.proofs.Implied.{implied-within}
use Rattle.route.specs.declared.Step.{Step}
use Rattle.job.specs.Job.{Job}
use Rattle.layout.specs.Text.{Lines, text}
use Rattle.layout.specs.Begins.{IsSheet}
use Rattle.facts.specs.Facts.{started, read_by, read_of, job_read}
use Rattle.facts.specs.LinesOf.{lines_of}
use Rattle.facts.specs.Starts.{RisingBelow, started_lines, started_both}
use Rattle.facts.specs.declared.Sheet.{Sheet}
use Rattle.facts.proofs.Masks.{mask-members}
use Rattle.facts.proofs.Members.{rising-members, below-is}
use Rattle.facts.proofs.RowOne.{reads-sheet, sheet-lines}
use Rattle.facts.proofs.StartsPutIn.{starts-put-in}
use Rattle.reader.proofs.JobOfLists.{Few, job-few}
use Rattle.writer.specs.Written.{written_by, written}
use Rattle.writer.proofs.Bound.{bounded}
use Rattle.converting.specs.Up.{scope_job, up_text}

-- the implied start of a route of at most 64 places: its line
module _ (count : ℕ) (l : List Step) (few : count ≤ 64) where
  abbrev start : ℕ
  start = implied_start count l

  pub start-wide : start < 2 ^ 64
  start-wide = omega (
    arith,
    within-below start count (implied-within count l),
    pow-le-pow_right {n = 2} (zero-lt-suc 1) few,
  )

  pub start-rises : RisingBelow count (members 64 start)
  unfolding members
  start-rises = record {
    low = below-is 64 start count start-wide ∙ implied-within count l;
    rises = rising-members 64 0 0 start (omega arith);
  }

module _ (s : List ℕ) (z : (read_by scope s).number ≡ 0) where
  abbrev own : Job
  own = job_read (read_by scope s)

  abbrev old : List ℕ
  old = members 64 (implied_start own.old_places.count own.old)

  abbrev new : List ℕ
  new = members 64 (implied_start own.new_places.count own.new)

  pub of-scope : IsSheet scope s
  of-scope = reads-sheet scope-limits s z

  lines-are : lines_of own ≡ of-scope.lines
  lines-are = sheet-lines scope-limits s of-scope z

  few : Few own
  few = job-few scope s z

  pub up-lines : lines_of (scope_job s) ≡ started_lines old new of-scope.lines
  unfolding lines_of
  up-lines = ap (started_lines old new) lines-are

  pub up-reads : read_of (up_text s) ≡ started_both old new (read_by scope s)
  unfolding written_by lines_of
  up-reads =
      ap (λ (x : Lines). read_of (text present x)) up-lines
      ∙ starts-put-in scope-limits s of-scope z old new
      (subst (λ (n : ℕ). RisingBelow n old) (ap (λ (x : Lines). x.old_places) lines-are)
      (start-rises own.old_places.count own.old few.old_places))
      (subst (λ (n : ℕ). RisingBelow n new) (ap (λ (x : Lines). x.new_places) lines-are)
      (start-rises own.new_places.count own.new few.new_places))

  pub up-number : (read_of (up_text s)).number ≡ 0
  up-number = ap (λ (y : Sheet). y.number) up-reads ∙ z

  -- it tells of the same job, with the implied starts
  starts-told : job_read (started_both old new (read_by scope s)) ≡ scope_job s
  unfolding started steps_of
  starts-told = λ i. record {
    old_places = record {
      count = own.old_places.count;
      start = mask-members 64 _ (start-wide own.old_places.count own.old few.old_places) i;
    };
    old = own.old;
    new_places = record {
      count = own.new_places.count;
      start = mask-members 64 _ (start-wide own.new_places.count own.new few.new_places) i;
    };
    new = own.new;
    done = own.done;
  }

  pub up-job : job_read (read_of (up_text s)) ≡ scope_job s
  up-job = ap job_read up-reads ∙ starts-told

  pub up-short : length (up_text s) ≤ 20500
  up-short = bounded present-limits (up_text s) up-number

  -- as does the text of any job that is this one
  pub up-fits : (j : Job) → j ≡ scope_job s → length (written j) ≤ 20500
  up-fits j is = subst (λ (k : Job). length (written k) ≤ 20500) (sym is) up-short
