-- Judge answers 0 exactly when a fit list exists, and gives the straight list or else the first of all fit lists. A job
-- that runs straight has the straight list; in one that doesn't, the fit lists are those of the kept, and the search
-- finds the first of them or there is none.
use mathlib.Core.Path.{◌≡◌, refl, sym, ap, ◌∙◌}
use mathlib.Core.Logic.{◌↔◌, ◌⊎◌, inl, inr, ⊎_elim}
use mathlib.Core.Bool.{Bool, true, false, cond, true≢false}
use mathlib.Core.List.{List, ◌++◌, map}
use mathlib.Core.Option.{Option, none, some}
use Prim.Native.Nat.{ℕ, suc, ◌≤◌}
use native.Mathlib.Omega.{arith}
use native.Mathlib.Decide.{ℕ_discrete}
use lib.Dec.{eqb, leb}
use lib.ListN.{length, take, replicate, length-map}
use lib.Seq.{take-take, take_at}
use borrow.Author.Tests.{leb-true, le-leb, ne_eqb}
use Rattle.mask.specs.Mask.{below}
use Rattle.mask.proofs.Truth.{split}
use Rattle.route.specs.declared.Step.{Step}
use Rattle.job.specs.Job.{Job, job_line, new_start}
use Rattle.running.specs.Run.{ran}
use Rattle.precedence.specs.Order.{in_turn}
use Rattle.matching.specs.Straight.{fire_all, steps_on, runs_straight}
use Rattle.matching.specs.Fit.{kept_of, FitAt}
use Rattle.search.specs.Dictionary.{NotAfter}
use Rattle.matching.specs.KeptRows.{kept_rows}
use Rattle.answering.specs.Answer.{padded, judge_stopped, answer}
use Rattle.candidates.specs.FirstFit.{first_fit}
use Rattle.judging.specs.Judge.{judge_found, judge_rows, judged}
use Rattle.answering.specs.declared.Judged.{Judged}
use Rattle.occurrences.specs.Occurrences.{occurrences_of}
use Rattle.theorems.specs.Demand3.{Runs, positions, FitFor, ordered}
use Rattle.theorems.specs.Given.{Given}
use Rattle.refusal.proofs.Rows.{cond-zero}
use Rattle.precedence.proofs.InTurn.{length-in_turn}
use Rattle.theorems.proofs.Runs.{steps-short}
use Rattle.occurrences.proofs.DoneOccurrences.{length-occurrences}
use Rattle.mask.proofs.Count.{count_most}
use Rattle.precedence.proofs.EachOnce.{length-each_once}
use Rattle.theorems.proofs.Dictionary.{not_after-suc, not_after-antisym}
use Rattle.theorems.proofs.KeptRows.{KeptPass, kept-short, fit-pass, kept_rows-elim, kept_rows-intro}
use Rattle.theorems.proofs.KeptRows.{kept_rows-most}
use Rattle.theorems.proofs.FitList.{fit-fires, fit-kept}
use Rattle.theorems.proofs.Accepts.{positions-suc}
use Rattle.theorems.proofs.FirstFit.{first_fits, first-least, first-none}

-- an order in its array
padded-order : (o : List ℕ) → length o ≤ 64 → take (length o) (padded 64 (map suc o)) ≡ map suc o
unfolding padded
padded-order o h = take-take (length o) 64 (map suc o ++ replicate 64 0) h
    ∙ take_at (map suc o) (replicate 64 0) (length o) (length-map o suc)

module _ (from : ℕ) (new l : List Step) where
  -- what an answer 0 gives
  pub record Gives (r : Judged) : Type 0 where
    pub kept : ℕ
    pub list : List ℕ
    pub is : r ≡ answer from new l kept list
    pub all : runs_straight from new l ≡ true → kept ≡ below (length l)
    pub sliced : runs_straight from new l ≡ false → kept ≡ kept_of new l
    order : take r.len r.order ≡ map suc list
    fits : FitAt from new l list
    straight : runs_straight from new l ≡ true → list ≡ in_turn 0 (length l)
    least : runs_straight from new l ≡ false → (q : List ℕ) → FitAt from new l q → NotAfter list q
    marking : fire_all new from (steps_on l list) ≡ some r.marking.tokens

  module _ (short : length l ≤ 64) where
    fit_length : (p : List ℕ) → FitAt from new l p → length p ≤ 64
    fit_length p (inl s) = omega (arith, ap length s.whole, length-in_turn 0 (length l))
    fit_length p (inr k) = omega (
      arith,
      length-each_once 64 (kept_of new l) p
          (λ i h. omega (arith, kept-short new l i h)) k.once,
      count_most 64 (kept_of new l),
    )

    answer-gives : (kept : ℕ) → (runs_straight from new l ≡ true → kept ≡ below (length l))
        → (runs_straight from new l ≡ false → kept ≡ kept_of new l) → (p : List ℕ) → FitAt from new l p
        → (runs_straight from new l ≡ true → p ≡ in_turn 0 (length l))
        → (runs_straight from new l ≡ false → (q : List ℕ) → FitAt from new l q → NotAfter p q)
        → Gives (answer from new l kept p)
    unfolding answer
    answer-gives kept all sliced p f s least = record {
      kept = kept;
      list = p;
      is = refl;
      all = all;
      sliced = sliced;
      order = padded-order p (fit_length p f);
      fits = f;
      straight = s;
      least = least;
      marking = fit-fires from new l p f;
    }

    -- after row 12
    data Verdict (r : Judged) : Type 0 where
      moves : r.number ≡ 0 → Gives r → Verdict r
      stays : r.number ≡ 13 → ((p : List ℕ) → FitAt from new l p → ⊥) → Verdict r

    verdict : (line : ℕ) → KeptPass from new l
        → Verdict (cond (runs_straight from new l) (answer from new l (below (length l)) (in_turn 0 (length l)))
        (judge_found line from new l (first_fit from new l)))
    unfolding judge_found answer
    verdict line k = go (runs_straight from new l) refl (first_fit from new l) refl
      where
        go : (t : Bool) → runs_straight from new l ≡ t → (q : Option (List ℕ)) → first_fit from new l ≡ q
            → Verdict (cond t (answer from new l (below (length l)) (in_turn 0 (length l)))
            (judge_found line from new l q))
        go true h q e = moves refl (answer-gives (below (length l)) (λ s. refl) (λ n. absurd (true≢false (sym h ∙ n)))
            (in_turn 0 (length l)) (inl (record { whole = refl; runs = h })) (λ s. refl)
            (λ n. absurd (true≢false (sym h ∙ n))))
        go false h (some p) e = moves refl (answer-gives (kept_of new l) (λ s. absurd (true≢false (sym s ∙ h)))
            (λ n. refl) p (inr (first_fits from new l short k p e)) (λ s. absurd (true≢false (sym s ∙ h)))
            (λ n q f. first-least from new l short p e q (fit-kept from new l h q f)))
        go false h none e = stays refl (λ p f. first-none from new l short e p (fit-kept from new l h p f))

    -- rows 10 to 13
    rows-verdict : (line : ℕ) → KeptPass from new l → Verdict (judge_rows line from new l)
    unfolding judge_rows
    rows-verdict line k = rw (cond-zero (kept_rows line from new l).number _ _ (kept_rows-intro from new l short line k))
        (verdict line k)

    -- an answer 0 or 13 comes after row 12
    rows-number : (line : ℕ)
        → ((kept_rows line from new l).number ≡ 0) ⊎
        ((judge_rows line from new l).number ≡ (kept_rows line from new l).number)
    unfolding judge_rows
    rows-number line = go (ℕ_discrete (kept_rows line from new l).number 0)
      where
        go : Dec ((kept_rows line from new l).number ≡ 0)
            → ((kept_rows line from new l).number ≡ 0) ⊎
            ((judge_rows line from new l).number ≡ (kept_rows line from new l).number)
        go (yes e) = inl e
        go (no n) = inr (rw (ne_eqb (kept_rows line from new l).number 0 n))

    rows-give : (line : ℕ) → (judge_rows line from new l).number ≡ 0 → Gives (judge_rows line from new l)
    rows-give line e = go (rows-verdict line (kept_rows-elim from new l short line
        (⊎_elim (λ p. p) (λ s. sym s ∙ e) (rows-number line))))
      where
        go : Verdict (judge_rows line from new l) → Gives (judge_rows line from new l)
        go (moves n g) = g
        go (stays n f) = absurd (omega arith)

    rows-find : (line : ℕ) (p : List ℕ) → FitAt from new l p → (judge_rows line from new l).number ≡ 0
    rows-find line p f = go (rows-verdict line (fit-pass from new l p f))
      where
        go : Verdict (judge_rows line from new l) → (judge_rows line from new l).number ≡ 0
        go (moves n g) = n
        go (stays n h) = absurd (h p f)

    rows_none : (line : ℕ)
        → ((judge_rows line from new l).number ≡ 13) ↔ ((kept_rows line from new l).number ≡ 0)
        × ((p : List ℕ) → FitAt from new l p → ⊥)
    rows_none line = (
      λ e. (passed-12 e, λ p f. absurd (omega (arith, rows-find line p f))),
      λ h. go h.1 (rows-verdict line (kept_rows-elim from new l short line h.0)),
    )
      where
        passed-12 : (judge_rows line from new l).number ≡ 13 → (kept_rows line from new l).number ≡ 0
        passed-12 e = ⊎_elim (λ p. p) (λ s. absurd (omega (arith, s, kept_rows-most line from new l))) (rows-number line)

        go : ((p : List ℕ) → FitAt from new l p → ⊥) → Verdict (judge_rows line from new l)
            → (judge_rows line from new l).number ≡ 13
        go h (moves n g) = absurd (h g.list g.fits)
        go h (stays n f) = n

-- ---- the operation

-- 01 leaves no choice of what to give
pub given-one : (j : Job) (o q : List ℕ) → Given j o → Given j q → o ≡ q
given-one j o q a b = split (λ _. o ≡ q) (runs_straight (new_start j) j.new (occurrences_of j))
    (λ s. a.straight s ∙ sym (b.straight s)) (λ s. not_after-antisym (a.first s q b.fit) (b.first s o a.fit))

module _ (j : Job) (room : ℕ) (ok : Runs j) where
  abbrev rows : Judged
  rows = judge_rows (job_line j) (new_start j) j.new (occurrences_of j)

  judged-rows : 8192 ≤ room → judged j room ≡ rows
  unfolding judged
  judged-rows h = rw (le-leb 8192 room h) (cond-zero (ran j).number rows (judge_stopped (ran j).number (ran j).second)
      ok)

  -- an answer 0 had room enough, since else the number is 14
  roomy : (judged j room).number ≡ 0 → 8192 ≤ room
  unfolding judged
  roomy e = go (leb 8192 room) refl e
    where
      go : (t : Bool) → leb 8192 room ≡ t
          → (cond t (cond (eqb (ran j).number 0) rows (judge_stopped (ran j).number (ran j).second))
          (judge_stopped 14 0)).number ≡ 0
          → 8192 ≤ room
      go true h e = leb-true 8192 room h
      go false h e = absurd (omega arith)

  pub gives : (judged j room).number ≡ 0 → Gives (new_start j) j.new (occurrences_of j) (judged j room)
  gives e =
      let is = judged-rows (roomy e) in
      rw is (rows-give (new_start j) j.new (occurrences_of j) (steps-short j ok) (job_line j) (rw is at e))

  pub judge-second : (judged j room).number ≡ 0 → (judged j room).second ≡ 0
  unfolding answer
  judge-second e = ap (λ (r : Judged). r.second) (gives e).is

  pub judge-given : (judged j room).number ≡ 0 → Given j (ordered j room)
  judge-given e =
      let g = gives e in
      record {
        fit = record { positions = g.list; numbered = g.order; fits = g.fits };
        straight = λ s. g.order ∙ ap (map suc) (g.straight s ∙ ap (in_turn 0) (length-occurrences j));
        first = λ s q f. rw (g.order, f.numbered) (not_after-suc (g.least s f.positions f.fits));
      }

  pub judge-marking : (judged j room).number ≡ 0
      → fire_all j.new (new_start j) (steps_on (occurrences_of j) (positions (ordered j room)))
      ≡ some (judged j room).marking.tokens
  judge-marking e =
      let g = gives e in
      ap (λ (p : List ℕ). fire_all j.new (new_start j) (steps_on (occurrences_of j) p))
      (ap positions g.order ∙ positions-suc g.list) ∙ g.marking

  module _ (h : 8192 ≤ room) where
    pub judge-moves : ((judged j room).number ≡ 0) ↔ ((o : List ℕ) × FitFor j o)
    judge-moves = (
      λ e. (ordered j room, (judge-given e).fit),
      λ f. rw (judged-rows h) (rows-find (new_start j) j.new (occurrences_of j) (steps-short j ok) (job_line j)
          f.1.positions f.1.fits),
    )

    pub judge-refuses : ((judged j room).number ≡ 13) ↔
        ((kept_rows (job_line j) (new_start j) j.new (occurrences_of j)).number ≡ 0) × ((o : List ℕ) → FitFor j o → ⊥)
    judge-refuses =
        let e = rows_none (new_start j) j.new (occurrences_of j) (steps-short j ok) (job_line j) in (
          λ n. let (k, no-fit) = e.0 (rw (judged-rows h) at n) in (k, λ o f. no-fit f.positions f.fits),
          λ r. rw (judged-rows h) (e.1 (
            r.0,
            λ p f.
                r.1 (map suc p) (record { positions = p; numbered = refl; fits = f }),
          )),
        )
