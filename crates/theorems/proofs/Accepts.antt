-- Try answers 0 exactly when the list is fit. Rows 10 to 12 ask what every fit list has; then the straight list is
-- accepted at once, and for any other the rows ask in turn for each part of being fit.
use mathlib.Core.Path.{◌≡◌, refl, sym, ap, ap₂, ◌∙◌}
use mathlib.Core.Logic.{◌↔◌, inl, inr}
use mathlib.Core.Bool.{Bool, true, false, cond, ◌&&◌, true≢false}
use mathlib.Core.List.{List, [], ◌∷◌, map}
use mathlib.Core.Option.{some}
use Prim.Native.Nat.{ℕ, suc, ◌-◌, ◌≤◌}
use native.Mathlib.Omega.{arith}
use lib.Dec.{eqb}
use lib.ListN.{length}
use borrow.Author.Tests.{eqb-true, eq-eqb}
use Rattle.mask.proofs.Truth.{both}
use Rattle.route.specs.declared.Step.{Step}
use Rattle.job.specs.Job.{Job, job_line, new_start}
use Rattle.running.specs.Run.{ran}
use Rattle.precedence.specs.Order.{in_turn}
use Rattle.search.specs.Search.{is_some}
use Rattle.matching.specs.Straight.{same_step, fire_all, steps_on, runs_straight}
use Rattle.matching.specs.Fit.{kept_of, KeptFit, FitAt, Fit}
use Rattle.matching.specs.KeptRows.{kept_rows}
use Rattle.order_entries.specs.Entries.{list_row, try_from, try_entries}
use Rattle.route.specs.Firing.{stopped, reached}
use Rattle.trying.specs.Try.{same_list, try_list, try_rows, tried}
use Rattle.route.specs.declared.Fired.{Fired}
use Rattle.occurrences.specs.Occurrences.{occurrences_of}
use Rattle.theorems.specs.Demand3.{Runs, positions, FitFor}
use Rattle.refusal.proofs.Rows.{cond-zero, cond-zero-elim}
use Rattle.theorems.proofs.Runs.{steps-short}
use Rattle.precedence.proofs.Times.{each_once-has}
use Rattle.theorems.proofs.Entries.{all_of-steps_on-intro, steps_on-in_turn}
use Rattle.theorems.proofs.FitList.{end_of, straight-fires, fit-fires}
use Rattle.theorems.proofs.KeptRows.{KeptPass, fit-pass, kept_rows-elim, kept_rows-intro}
use Rattle.theorems.proofs.ListRow.{list_row-elim, list_row-intro}
use Rattle.theorems.proofs.EntryRows.{try_from-intro, try_from-elim}

-- ---- lists of numbers

same_list-elim : (a b : List ℕ) → same_list a b ≡ true → a ≡ b
unfolding same_list
same_list-elim [] [] e = refl
same_list-elim [] (y ∷ b) e = cc
same_list-elim (x ∷ a) [] e = cc
same_list-elim (x ∷ a) (y ∷ b) e =
    let (h, r) = both (eqb x y) (same_list a b) e in
    ap₂ (λ (z : ℕ) (l : List ℕ). z ∷ l) (eqb-true x y h) (same_list-elim a b r)

same_list-refl : (a : List ℕ) → same_list a a ≡ true
unfolding same_list
same_list-refl [] = refl
same_list-refl (x ∷ a) = ap₂ (λ (s t : Bool). s && t) (eq-eqb x x refl) (same_list-refl a)

pub positions-suc : (p : List ℕ) → positions (map suc p) ≡ p
positions-suc [] = refl
positions-suc (i ∷ p) = let own : suc i - 1 ≡ i =
    omega arith in ap₂ (λ (x : ℕ) (l : List ℕ). x ∷ l) own (positions-suc p)

-- ---- all rows

-- what an accepted list has
record Taken (from : ℕ) (new l : List Step) (o : List ℕ) (t : Fired) : Type 0 where
  fits : Fit from new l o
  second : t.second ≡ 0
  fires : fire_all new from (steps_on l (positions o)) ≡ some t.marking.tokens

module _ (from : ℕ) (new l : List Step) (o : List ℕ) where
  abbrev straight : List ℕ
  straight = in_turn 0 (length l)

  straight-taken : runs_straight from new l ≡ true → o ≡ map suc straight
      → Taken from new l o (reached (end_of from new l))
  straight-taken h e =
      record {
        fits = record { positions = straight; numbered = e; fits = inl (record { whole = refl; runs = h }) };
        second = refl;
        fires =
            ap (fire_all new from) (ap (λ (x : List ℕ). steps_on l (positions x)) e
            ∙ ap (steps_on l) (positions-suc straight) ∙ steps_on-in_turn l)
            ∙ straight-fires from new l h;
      }

  -- rows 16 to 18
  abbrev by_rows : Fired
  by_rows = try_entries new l from o

  rows_taken : KeptPass from new l → by_rows.number ≡ 0 → Taken from new l o by_rows
  unfolding is_some try_entries
  rows_taken k e =
      let (row, is) = cond-zero-elim (λ (t : Fired). t.number) (list_row (kept_of new l) 0 1 o).number _ _ refl e in
      let (n, c) = list_row-elim (kept_of new l) o row in
      let a = try_from-elim new l from 1 (positions o) (rw is at e) in
      rw is
      (record {
        fits = record {
          positions = positions o;
          numbered = n;
          fits = inr (record {
            once = c;
            order = a.order;
            same = all_of-steps_on-intro (same_step new) l (positions o)
                (λ i h. k.same i (each_once-has (kept_of new l) (positions o) c i h));
            fires = rw a.fires;
            limit =
                k.limit;
          });
        };
        second = a.second;
        fires = a.fires;
      })

  list-taken : KeptPass from new l → (try_list from new l o).number ≡ 0 → Taken from new l o (try_list from new l o)
  unfolding try_list
  list-taken k e = go (runs_straight from new l && same_list o (map suc straight)) refl e
    where
      go : (t : Bool) → (runs_straight from new l && same_list o (map suc straight)) ≡ t
          → (cond t (reached (end_of from new l)) by_rows).number ≡ 0
          → Taken from new l o (cond t (reached (end_of from new l)) by_rows)
      go true h e = let (a, b) = both (runs_straight from new l) (same_list o (map suc straight)) h in straight-taken a
          (same_list-elim o (map suc straight) b)
      go false h e = rows_taken k e

  taken-rows : (p : List ℕ) → o ≡ map suc p → KeptFit from new l p → by_rows.number ≡ 0
  unfolding try_entries
  taken-rows p e f =
      let own : positions o ≡ p = ap positions e ∙ positions-suc p in
      let row : (list_row (kept_of new l) 0 1 o).number ≡ 0 =
      list_row-intro (kept_of new l) o (e ∙ ap (map suc) (sym own)) (rw own f.once) in
      let runs = try_from-intro new l from 1 _ p f.order (fit-fires from new l p (inr f)) in
      ap (λ (t : Fired). t.number) (cond-zero (list_row (kept_of new l) 0 1 o).number _ _ row
      ∙ ap (try_from new l from 1) own ∙ runs)

  taken-list : Fit from new l o → (try_list from new l o).number ≡ 0
  unfolding try_list
  taken-list f = go (runs_straight from new l && same_list o (map suc straight)) refl f.fits
    where
      go : (t : Bool) → (runs_straight from new l && same_list o (map suc straight)) ≡ t
          → FitAt from new l f.positions → (cond t (reached (end_of from new l)) by_rows).number ≡ 0
      go true h a = refl
      go false h (inl s) = let is : o ≡ map suc straight =
          f.numbered ∙ ap (map suc) s.whole in absurd
          (true≢false (sym (ap₂ (λ (x y : Bool). x && y) s.runs (rw is (same_list-refl (map suc straight)))) ∙ h))
      go false h (inr k) = taken-rows f.positions f.numbered k

  module _ (short : length l ≤ 64) (line : ℕ) where
    try-taken : (try_rows line from new l o).number ≡ 0 → Taken from new l o (try_rows line from new l o)
    unfolding try_rows
    try-taken e =
        let (row, is) = cond-zero-elim (λ (t : Fired). t.number) (kept_rows line from new l).number _ _ refl e in
        rw is (list-taken (kept_rows-elim from new l short line row) (rw is at e))

    taken-try : Fit from new l o → (try_rows line from new l o).number ≡ 0
    unfolding try_rows
    taken-try f = rw (cond-zero (kept_rows line from new l).number _ _
        (kept_rows-intro from new l short line (fit-pass from new l f.positions f.fits))) (taken-list f)

-- ---- the operation

module _ (j : Job) (ok : Runs j) (o : List ℕ) where
  rest : Fired
  rest = try_rows (job_line j) (new_start j) j.new (occurrences_of j) o

  tried-rest : tried j o ≡ rest
  unfolding tried rest
  tried-rest = cond-zero (ran j).number rest (stopped (ran j).number (ran j).second) ok

  taken : (tried j o).number ≡ 0 → Taken (new_start j) j.new (occurrences_of j) o (tried j o)
  unfolding rest
  taken e = rw tried-rest (try-taken (new_start j) j.new (occurrences_of j) o (steps-short j ok) (job_line j)
      (rw tried-rest at e))

  pub try-fit : ((tried j o).number ≡ 0) ↔ FitFor j o
  unfolding rest
  try-fit = (
    λ e. (taken e).fits,
    λ f. rw tried-rest
        (taken-try (new_start j) j.new (occurrences_of j) o (steps-short j ok) (job_line j) f),
  )

  pub try-second : (tried j o).number ≡ 0 → (tried j o).second ≡ 0
  try-second e = (taken e).second

  pub try-marking : (tried j o).number ≡ 0
      → fire_all j.new (new_start j) (steps_on (occurrences_of j) (positions o)) ≡ some (tried j o).marking.tokens
  try-marking e = (taken e).fires
