-- What down gives of a sheet that the present version reads, where 01 can say every line: the same job, whose start is
-- the implied one, so that up gives the sheet again; and up's sheet is such a one. Assumes nothing.
use mathlib.Core.Path.{◌≡◌, refl, sym, ap, ◌∙◌, subst}
use mathlib.Core.List.{List, []}
use Prim.Native.Nat.{ℕ, ◌≤◌}
use native.Mathlib.Omega.{arith}
use lib.Dec.{eqb}
use lib.ListN.{length}
use Rattle.refusal.specs.Rows.{pass, first}
use Rattle.refusal.specs.declared.Outcome.{Outcome}
use Rattle.version.specs.Limits.{scope, present}
use Rattle.version.proofs.Limits.{scope-limits, present-limits}
use Rattle.route.specs.Steps.{steps_of}
use Rattle.job.specs.Job.{Job}
use Rattle.layout.specs.Text.{Lines, start_line, text}
use Rattle.layout.specs.Begins.{IsSheet}
use Rattle.facts.specs.Facts.{started, read_by, read_of, job_read}
use Rattle.facts.specs.LinesOf.{lines_of}
use Rattle.facts.specs.Names.{NamesTo}
use Rattle.facts.specs.Marks.{MarksTo}
use Rattle.facts.specs.Starts.{started_lines, started_both}
use Rattle.facts.specs.declared.Sheet.{Sheet}
use Rattle.facts.proofs.PassingLines.{Passes, lines-fine, lines-named, short-marks}
use Rattle.facts.proofs.RowOne.{reads-sheet, sheet-passes, sheet-lines}
use Rattle.facts.proofs.InAnother.{reads-in-another, facts-in-another}
use Rattle.writer.specs.Written.{written_by, written}
use Rattle.writer.proofs.Bound.{bounded}
use Rattle.writer.proofs.Inverses.{read-then-write}
use Rattle.converting.specs.Beyond.{beyond_rows}
use Rattle.converting.specs.Up.{with_implied, scope_job, up_text}
use Rattle.converting.specs.Down.{present_job, down_text}
use Rattle.converting.proofs.Said.{Said, all-said}
use Rattle.converting.proofs.Raised.{of-scope, up-lines, up-job}

-- the text of 01's layout says nothing of a start
scope-text : (x : Lines) (a b : List ℕ) → text scope (started_lines a b x) ≡ text scope x
unfolding text start_line
scope-text x a b = refl

module _ (t : List ℕ) (z : (read_of t).number ≡ 0) where
  abbrev j : Job
  j = present_job t

  of-present : IsSheet present t
  of-present = reads-sheet present-limits t z

  lines-are : lines_of j ≡ of-present.lines
  lines-are = sheet-lines present-limits t of-present z

  module _ (passes : Passes (beyond_rows j)) where
    pub down-said : Said j
    down-said =
        let (rows, _) = sheet-passes present-limits t of-present z in
        let names = lines-named present present.greatest (omega arith) of-present.lines (lines-fine present _ rows) in
        all-said present.greatest j (subst (NamesTo present.greatest) (sym lines-are) names) passes

    pub down-reads : read_by scope (down_text t) ≡ started_both [] [] (read_of t)
    unfolding written_by
    down-reads =
        let (rows, facts) = sheet-passes present-limits t of-present z in
        let x = of-present.lines in
        ap (λ (y : Lines). read_by scope (text scope y)) lines-are
        ∙ ap (read_by scope) (sym (scope-text x [] []))
        ∙ reads-in-another present scope x [] [] scope-limits (subst (NamesTo scope.greatest) lines-are down-said.names)
        (subst (MarksTo scope.cloth) lines-are down-said.marks) (record { old = λ e. refl; new = λ e. refl }) (λ e. cc)
        rows
        ∙ facts-in-another present scope x [] [] (record { old = λ e. refl; new = λ e. refl })
        ∙ ap (started_both [] []) (sym facts)

    pub down-number : (read_by scope (down_text t)).number ≡ 0
    down-number = ap (λ (y : Sheet). y.number) down-reads ∙ z

    pub down-short : length (down_text t) ≤ 20500
    down-short = let s = bounded scope-limits (down_text t) down-number in omega (arith, s)

    -- it tells of the same job
    own-start : with_implied (job_read (started_both [] [] (read_of t))) ≡ j
    unfolding started steps_of
    own-start = λ i. record {
      old_places = record { count = j.old_places.count; start = sym down-said.old_start i };
      old = j.old;
      new_places = record { count = j.new_places.count; start = sym down-said.new_start i };
      new = j.new;
      done = j.done;
    }

    pub down-job : scope_job (down_text t) ≡ j
    down-job = ap (λ (y : Sheet). with_implied (job_read y)) down-reads ∙ own-start

    -- so up gives the sheet again
    pub up-again : up_text (down_text t) ≡ t
    up-again = ap written down-job ∙ read-then-write present-limits t z

  -- the text of any job that is this one, where row 22 refuses no line
  pub down-fits : (k : Job) → k ≡ j → pass ≡ first (beyond_rows k) → length (written_by scope k) ≤ 20500
  down-fits k is said =
      let passes : Passes (beyond_rows j) = ap (λ (o : Outcome). eqb o.number 0)
      (sym (said ∙ ap (λ (i : Job). first (beyond_rows i)) is)) in
      subst (λ (i : Job). length (written_by scope i) ≤ 20500) (sym is) (down-short passes)

-- what up gives 01 can say, and down gives the first again
module _ (s : List ℕ) (z : (read_by scope s).number ≡ 0) where
  pub up-said : Said (scope_job s)
  up-said =
      let x = (of-scope s z).lines in
      let (rows, _) = sheet-passes scope-limits s (of-scope s z) z in
      let names = lines-named scope scope.greatest (omega arith) x (lines-fine scope x rows) in
      let marks = short-marks scope x (of-scope s z).short in
      record {
        old_start = refl;
        new_start = refl;
        names = subst (NamesTo scope.greatest) (sym (up-lines s z))
            (record { old = names.old; new = names.new; done = names.done });
        marks = subst (MarksTo scope.cloth) (sym (up-lines s z)) (record { old = marks.old; new = marks.new });
      }

  pub down-again : down_text (up_text s) ≡ s
  unfolding written_by
  down-again =
      ap (λ (k : Job). text scope (lines_of k)) (up-job s z)
      ∙ ap (text scope) (up-lines s z)
      ∙ scope-text (of-scope s z).lines _ _
      ∙ sym (of-scope s z).same
