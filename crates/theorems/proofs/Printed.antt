-- From bytes to bytes: print leaves the listing, which begins `(moved` exactly where the sheet's job can be moved, and
-- else `(refused`. The C form of try accepts exactly its fit orders.
use mathlib.Core.Path.{◌≡◌, refl, ap}
use mathlib.Core.Logic.{◌↔◌}
use mathlib.Core.Bool.{Bool, true, false, cond}
use mathlib.Core.List.{List, ◌++◌}
use Prim.Native.Nat.{ℕ, ◌≤◌}
use native.Mathlib.Omega.{arith}
use lib.Dec.{eqb, leb}
use lib.ListN.{length, get_or, drop}
use borrow.Author.Tests.{le-leb, eq-eqb, ne_eqb, eqb-true, eqb-false}
use Rattle.mask.proofs.Truth.{split}
use Rattle.refusal.proofs.Rows.{cond-zero, cond-zero-elim}
use Rattle.job.specs.Job.{Job}
use Rattle.running.specs.Run.{ran}
use Rattle.facts.specs.Facts.{read_of}
use Rattle.route.specs.Firing.{stopped}
use Rattle.trying.specs.Try.{tried}
use Rattle.route.specs.declared.Fired.{Fired}
use Rattle.judging.specs.Judge.{judged}
use Rattle.answering.specs.Answer.{judge_stopped}
use Rattle.answering.specs.declared.Judged.{Judged}
use Rattle.listing_lines.specs.Lines.{line, moved_line, refused_line}
use Rattle.listing.specs.Listing.{moved_text, listing}
use Rattle.out_slice.proofs.TextInSlice.{fits-answer, fits_out}
use Rattle.ops.specs.Print.{sheet_answer, listing_of, printed, out_printed}
use Rattle.ops.specs.SheetTry.{tried_facts, tried_sheet}
use Rattle.examples.specs.Table.{codes}
use Rattle.theorems.specs.Demand3.{Runs, FitFor}
use Rattle.theorems.specs.Sheets.{job_on, SheetRuns, Movable, Moved, Refused}
use Rattle.theorems.specs.Shows.{Shows}
use Rattle.theorems.proofs.Accepts.{try-fit}
use Rattle.theorems.proofs.Judge.{judge-moves}
use Rattle.theorems.proofs.Shown.{judge-shows}

-- ---- how a listing begins, whatever follows it

module _ (a : Judged) (r : List ℕ) where
  listing-moved : (Moved (listing a ++ r)) ↔ (a.number ≡ 0)
  unfolding listing moved_text moved_line refused_line line codes
  listing-moved = (
    split (λ (t : Bool). Moved (cond t (moved_text a) (refused_line a.number a.second) ++ r) → a.number ≡ 0)
        (eqb a.number 0)
        (λ e m. eqb-true a.number 0 e)
        (λ e m. absurd (let z : ◌≡◌ {A = ℕ} 114 109 = ap (λ (s : List ℕ). get_or s 1 0) m in omega arith)),
    λ e. rw (eq-eqb a.number 0 e),
  )

  listing-refused : (Refused (listing a ++ r)) ↔ (a.number ≡ 0 → ⊥)
  unfolding listing moved_text moved_line refused_line line codes
  listing-refused = (
    split (λ (t : Bool). Refused (cond t (moved_text a) (refused_line a.number a.second) ++ r) → a.number ≡ 0 → ⊥)
        (eqb a.number 0)
        (λ e m. absurd (let z : ◌≡◌ {A = ℕ} 109 114 = ap (λ (s : List ℕ). get_or s 1 0) m in omega arith))
        (λ e m. eqb-false a.number 0 e),
    λ n. rw (ne_eqb a.number 0 n),
  )

-- ---- print leaves the listing

module _ (s out : List ℕ) (work : ℕ) (enough : 8192 ≤ work) (room : length (listing_of s) ≤ length out) where
  pub print-answer : printed s work (length out) ≡ record { number = 0; second = 0; written = length (listing_of s) }
  unfolding printed
  print-answer = rw (le-leb 8192 work enough) (fits-answer (listing_of s) (length out) room)

  pub print-leaves : out_printed s work out ≡ listing_of s ++ drop (length (listing_of s)) out
  unfolding out_printed
  print-leaves = rw (le-leb 8192 work enough) (fits_out (listing_of s) out room)

-- ---- which sheets are moved

-- an answer 0 comes after row 9
judge-runs : (j : Job) (room : ℕ) → (judged j room).number ≡ 0 → Runs j
unfolding judged
judge-runs j room e = go (leb 8192 room) _ e
  where
    go : (t : Bool) (rows : Judged)
        → (cond t (cond (eqb (ran j).number 0) rows (judge_stopped (ran j).number (ran j).second)) (judge_stopped 14 0)
        ).number ≡ 0
        → Runs j
    go true rows e = (cond-zero-elim (λ (r : Judged). r.number) (ran j).number rows _ refl e).0
    go false rows e = absurd (omega arith)

module _ (s : List ℕ) where
  answer-is : (read_of s).number ≡ 0 → sheet_answer s ≡ judged (job_on s) 8192
  unfolding sheet_answer
  answer-is z = cond-zero (read_of s).number _ _ z

  answer-runs : (sheet_answer s).number ≡ 0 → SheetRuns s
  unfolding sheet_answer
  answer-runs e =
      let (z, is) = cond-zero-elim (λ (r : Judged). r.number) (read_of s).number (judged (job_on s) 8192)
      (judge_stopped (read_of s).number (read_of s).second) refl e in
      (z, judge-runs (job_on s) 8192 (rw is at e))

  answer-moves : ((sheet_answer s).number ≡ 0) ↔ Movable s
  answer-moves = (
    λ e. let runs = answer-runs e in (
      runs,
      (judge-moves (job_on s) 8192 runs.1 (omega arith)).0
          (rw (answer-is runs.0) at e),
    ),
    λ m. rw (answer-is m.0.0) ((judge-moves (job_on s) 8192 m.0.1 (omega arith)).1 m.1),
  )

module _ (s out : List ℕ) (work : ℕ) (enough : 8192 ≤ work) (room : length (listing_of s) ≤ length out) where
  pub print-moves : Moved (out_printed s work out) ↔ Movable s
  unfolding listing_of
  print-moves =
      let leaves = print-leaves s out work enough room in
      let begins = listing-moved (sheet_answer s) (drop (length (listing_of s)) out) in
      (λ m. (answer-moves s).0 (begins.0 (rw leaves at m)), λ m. rw leaves (begins.1 ((answer-moves s).1 m)))

  pub print-refuses : Refused (out_printed s work out) ↔ (Movable s → ⊥)
  unfolding listing_of
  print-refuses =
      let leaves = print-leaves s out work enough room in
      let begins = listing-refused (sheet_answer s) (drop (length (listing_of s)) out) in (
        λ r m. begins.0 (rw leaves at r) ((answer-moves s).1 m),
        λ n. rw leaves (begins.1 (λ e. n ((answer-moves s).0 e))),
      )

  -- a `(moved` listing shows what 01 says
  pub print-shows : Moved (out_printed s work out) → Shows (job_on s) (sheet_answer s)
  print-shows m =
      let movable = print-moves.0 m in
      let is = answer-is s movable.0.0 in
      rw is (judge-shows (job_on s) 8192 movable.0.1 (rw is at ((answer-moves s).1 movable)))

-- ---- try on bytes

try-runs : (j : Job) (o : List ℕ) → (tried j o).number ≡ 0 → Runs j
unfolding tried
try-runs j o e = (cond-zero-elim (λ (t : Fired). t.number) (ran j).number _
    (stopped (ran j).number (ran j).second) refl e).0

pub try-sheet : (s o : List ℕ) → ((tried_sheet s o).number ≡ 0) ↔ SheetRuns s × FitFor (job_on s) o
unfolding tried_sheet tried_facts
try-sheet s o = (
  λ e.
      let (z, is) = cond-zero-elim (λ (t : Fired). t.number) (read_of s).number (tried (job_on s) o) refused refl e in
      let runs = try-runs (job_on s) o (rw is at e) in
      ((z, runs), (try-fit (job_on s) runs o).0 (rw is at e)),
  λ h. rw (cond-zero (read_of s).number (tried (job_on s) o) refused h.0.0)
      ((try-fit (job_on s) h.0.1 o).1 h.1),
)
  where
    refused : Fired
    refused = stopped (read_of s).number (read_of s).second
