-- Each operation that runs a job answers 23 exactly where the rows of the job do: no row of its own is 23, and none
-- that goes before them. Read, write and the converter never answer it.
use mathlib.Core.Path.{◌≡◌, refl, sym, ap, ap₂, ◌∙◌}
use mathlib.Core.Logic.{◌↔◌, inl, inr}
use mathlib.Core.Bool.{Bool, true, false, cond}
use mathlib.Core.List.{List, [], ◌++◌}
use Prim.Native.Nat.{ℕ, ◌+◌, ◌≤◌, ◌/◌, ◌%◌}
use native.Mathlib.Omega.{arith}
use lib.Dec.{eqb, ltb, leb}
use lib.ListN.{length, get_or, drop}
use borrow.Author.Tests.{eqb-true, eq-eqb, ne_eqb, le-leb, ltb-true, ltb-false}
use Rattle.mask.proofs.Truth.{split}
use Rattle.refusal.specs.Rows.{refuse, first}
use Rattle.refusal.specs.declared.Outcome.{Outcome}
use Rattle.refusal.proofs.Rows.{first-number, unless-number, append-number}
use Rattle.route.specs.Firing.{stopped}
use Rattle.route.specs.declared.Fired.{Fired}
use Rattle.route.specs.declared.Route.{Route}
use Rattle.route.specs.declared.Step.{Step}
use Rattle.job.specs.Job.{Job, job_of, job_line, old_start, new_start}
use Rattle.job.specs.Lines.{line_rows, checked}
use Rattle.running.specs.Run.{ran, run_from}
use Rattle.occurrences.specs.Occurrences.{occurrences_of}
use Rattle.finding.specs.Comparisons.{comparisons, compared_stopped}
use Rattle.finding.specs.declared.Compared.{Compared}
use Rattle.slicing.specs.Slicing.{sliced, sliced_stopped}
use Rattle.slicing.specs.declared.Sliced.{Sliced}
use Rattle.trying.specs.Try.{tried}
use Rattle.answering.specs.Answer.{judge_stopped}
use Rattle.answering.specs.declared.Judged.{Judged}
use Rattle.judging.specs.Judge.{judged}
use Rattle.shelf.specs.Put.{stored, put_row}
use Rattle.shelf.specs.Judge.{judged_between}
use Rattle.shelf.specs.declared.Shelf.{Shelf}
use Rattle.version.specs.Limits.{scope, present}
use Rattle.version.specs.declared.Version.{Version}
use Rattle.facts.specs.Facts.{read_by, read_of}
use Rattle.facts.proofs.RowOne.{read-number}
use Rattle.out_slice.specs.OutSlice.{unwritten, whole, wrote_text, wrote_past}
use Rattle.out_slice.specs.declared.Wrote.{Wrote}
use Rattle.writer.specs.Written.{written}
use Rattle.writer.specs.Writes.{wrote}
use Rattle.converting.specs.Nets.{net_rows}
use Rattle.converting.specs.Up.{read_row, scope_job, up_row, up_text, raised}
use Rattle.converting.specs.Down.{present_job, down_row, down_text, lowered}
use Rattle.converting.specs.Either.{has_start_line, converted}
use Rattle.emit.specs.Numbers.{digits, decimal, entry, over}
use Rattle.emit.proofs.Decimals.{decimal-one, decimal-pair}
use Rattle.listing_lines.specs.Lines.{line, moved_line, refused_line}
use Rattle.listing.specs.Listing.{moved_text, listing}
use Rattle.ops.specs.Print.{sheet_answer, listing_of, out_printed}
use Rattle.ops.specs.SheetTry.{tried_facts, tried_sheet}
use Rattle.lent_reading.specs.Reading.{read_row as lists_row, counts, counted}
use Rattle.facts.specs.declared.Sheet.{Sheet}
use Rattle.reader.specs.Refused.{no_counts}
use Rattle.reader.specs.declared.Counts.{Counts}
use Rattle.theorems.specs.Editions.{Later}
use Rattle.theorems.specs.RoundTrip.{counts_read}
use Rattle.theorems.specs.Sheets.{job_on, BeginsWith}
use Rattle.examples.specs.Table.{codes}
use Rattle.theorems.specs.Unwritten.{RefusedBy23, SheetRefusedBy23, PutRefusedBy23, Is23}
use Rattle.theorems.proofs.RowNumbers.{Below, Most, none-below, net-below, lines-below, run-below, try-below}
use Rattle.theorems.proofs.RowNumbers.{judge-below, judged-most, past-number}
use Rattle.theorems.proofs.BetweenEditions.{Only22, rows-only}
use Rattle.theorems.proofs.EditionsJudged.{shelf-judges}
use Rattle.theorems.proofs.Printed.{print-leaves}
use Rattle.theorems.proofs.Unwritten.{refused-iff, put-refused-iff}

-- one after the other
chain : {A B C : Type 0} → (A ↔ B) → (B ↔ C) → (A ↔ C)
chain f g = (λ a. g.0 (f.0 a), λ c. f.1 (g.1 c))

outcome-23 : (o : Outcome) (at : ℕ) → Is23 o.number o.second at ↔ (o ≡ refuse 23 at)
outcome-23 o at = (
  λ h. ap₂ refuse h.0 h.1,
  λ e. (ap (λ (x : Outcome). x.number) e, ap (λ (x : Outcome). x.second) e),
)

-- ---- an answer a, or the refusal n at k

module _ {R : Type 0} (number second : R → ℕ) (stop : ℕ → ℕ → R)
    (tells : (n k : ℕ) → (number (stop n k) ≡ n) × (second (stop n k) ≡ k)) (a : R) (n k at : ℕ) where
  abbrev answer : R
  answer = cond (eqb n 0) a (stop n k)

  -- where a is no 23, it is the refusal's
  refused-23 : Below (number a) → (Is23 (number answer) (second answer) at ↔ Is23 n k at)
  refused-23 low = (to (eqb n 0) refl, from (eqb n 0) refl)
    where
      to : (t : Bool) → eqb n 0 ≡ t → Is23 (number (cond t a (stop n k))) (second (cond t a (stop n k))) at
          → Is23 n k at
      to true p h = absurd (omega (arith, low, h.0))
      to false p h = (omega (arith, h.0, (tells n k).0), omega (arith, h.1, (tells n k).1))

      from : (t : Bool) → eqb n 0 ≡ t → Is23 n k at
          → Is23 (number (cond t a (stop n k))) (second (cond t a (stop n k))) at
      from true p h = absurd (omega (arith, eqb-true n 0 p, h.0))
      from false p h = (omega (arith, h.0, (tells n k).0), omega (arith, h.1, (tells n k).1))

  -- where the refusal is no 23, it is a's
  passed-23 : Below n → (Is23 (number answer) (second answer) at ↔ ((n ≡ 0) × Is23 (number a) (second a) at))
  passed-23 low = (to (eqb n 0) refl, λ h. from (eqb n 0) refl h)
    where
      to : (t : Bool) → eqb n 0 ≡ t → Is23 (number (cond t a (stop n k))) (second (cond t a (stop n k))) at
          → (n ≡ 0) × Is23 (number a) (second a) at
      to true p h = (eqb-true n 0 p, h)
      to false p h = absurd (omega (arith, low, h.0, (tells n k).0))

      from : (t : Bool) → eqb n 0 ≡ t → (n ≡ 0) × Is23 (number a) (second a) at
          → Is23 (number (cond t a (stop n k))) (second (cond t a (stop n k))) at
      from true p h = h.1
      from false p h = absurd (let z : false ≡ true = sym p ∙ eq-eqb n 0 h.0 in cc)

-- ---- records

module _ (j : Job) (at : ℕ) where
  pub checked-23 : Is23 (checked j).number (checked j).second at ↔ RefusedBy23 j at
  checked-23 = chain (outcome-23 (checked j) at) (refused-iff j at)

  pub run-23 : Is23 (ran j).number (ran j).second at ↔ RefusedBy23 j at
  unfolding ran
  run-23 =
      chain
      (refused-23 (λ (t : Fired). t.number) (λ (t : Fired). t.second) stopped (λ n k. (refl, refl))
      (run_from j.old (old_start j) (job_line j + 1) j.done) (checked j).number (checked j).second at
      (run-below j.old (old_start j) (job_line j + 1) j.done))
      checked-23

  pub slice-23 : Is23 (sliced j).number (sliced j).second at ↔ RefusedBy23 j at
  unfolding sliced
  slice-23 =
      chain
      (refused-23 (λ (t : Sliced). t.number) (λ (t : Sliced). t.second) sliced_stopped (λ n k. (refl, refl)) _
      (ran j).number (ran j).second at (omega arith))
      run-23

  pub compare-23 : Is23 (comparisons j).number (comparisons j).second at ↔ RefusedBy23 j at
  unfolding comparisons
  compare-23 =
      chain
      (refused-23 (λ (t : Compared). t.number) (λ (t : Compared). t.second) compared_stopped (λ n k. (refl, refl)) _
      (ran j).number (ran j).second at (omega arith))
      run-23

  pub try-23 : (o : List ℕ) → Is23 (tried j o).number (tried j o).second at ↔ RefusedBy23 j at
  unfolding tried
  try-23 o =
      chain
      (refused-23 (λ (t : Fired). t.number) (λ (t : Fired). t.second) stopped (λ n k. (refl, refl)) _
      (ran j).number (ran j).second at (try-below (job_line j) (new_start j) j.new (occurrences_of j) o))
      run-23

  pub judge-23 : (room : ℕ) → 8192 ≤ room → Is23 (judged j room).number (judged j room).second at ↔ RefusedBy23 j at
  unfolding judged
  judge-23 room h =
      rw (le-leb 8192 room h) (chain
      (refused-23 (λ (t : Judged). t.number) (λ (t : Judged). t.second) judge_stopped (λ n k. (refl, refl)) _
      (ran j).number (ran j).second at (judge-below (job_line j) (new_start j) j.new (occurrences_of j)))
      run-23)

-- ---- sheets

read-below : (v : Version) (s : List ℕ) → Below (read_by v s).number
read-below = read-number Below (omega arith) (omega arith) (omega arith) (omega arith) (omega arith) (omega arith)

module _ (s : List ℕ) (at : ℕ) where
  within-read : {P Q R : Type 0} → (P ↔ ((read_of s).number ≡ 0) × Q) → (Q ↔ R) → (P ↔ ((read_of s).number ≡ 0) × R)
  within-read f g = (λ p. ((f.0 p).0, g.0 (f.0 p).1), λ h. f.1 (h.0, g.1 h.1))

  pub try-sheet-23 : (o : List ℕ) → Is23 (tried_sheet s o).number (tried_sheet s o).second at ↔ SheetRefusedBy23 s at
  unfolding tried_sheet tried_facts
  try-sheet-23 o =
      within-read
      (passed-23 (λ (t : Fired). t.number) (λ (t : Fired). t.second) stopped (λ n k. (refl, refl)) (tried (job_on s) o)
      (read_of s).number (read_of s).second at (read-below present s))
      (try-23 (job_on s) at o)

  pub print-23 : Is23 (sheet_answer s).number (sheet_answer s).second at ↔ SheetRefusedBy23 s at
  unfolding sheet_answer
  print-23 =
      within-read
      (passed-23 (λ (t : Judged). t.number) (λ (t : Judged). t.second) judge_stopped (λ n k. (refl, refl))
      (judged (job_on s) 8192) (read_of s).number (read_of s).second at (read-below present s))
      (judge-23 (job_on s) at 8192 (omega arith))

  pub lists-23 : SheetRefusedBy23 s at → listing_of s ≡ refused_line 23 at
  unfolding listing_of listing
  lists-23 h =
      let (number, second) = print-23.1 h in
      rw (ne_eqb (sheet_answer s).number 0 (λ e. omega (arith, number, e)), number, second)

-- ---- the listing in the out slice

-- how it begins, whatever follows it
module _ (a : Judged) (few : a.number ≤ 23) (r : List ℕ) where
  abbrev begins : List ℕ → Type 0
  begins s = BeginsWith "(refused 23 " s

  refused-begins : (n k : ℕ) → n ≤ 23 → begins (refused_line n k ++ r) → n ≡ 23
  unfolding refused_line line over entry codes
  refused-begins n k few m = go (ltb n 10) refl
    where
      go : (t : Bool) → ltb n 10 ≡ t → n ≡ 23
      go true e =
          let m' = rw (decimal-one n (ltb-true n 10 e)) at m in
          absurd (let z : ◌≡◌ {A = ℕ} 32 51 = ap (λ (s : List ℕ). get_or s 10 0) m' in omega arith)
      go false e =
          let m' = rw (decimal-pair n (ltb-false n 10 e) (omega (arith, few))) at m in
          let tens : 48 + n / 10 ≡ 50 = ap (λ (s : List ℕ). get_or s 9 0) m' in
          let ones : 48 + n % 10 ≡ 51 = ap (λ (s : List ℕ). get_or s 10 0) m' in
          omega (arith, tens, ones)

  shown : (k : ℕ) → begins (refused_line 23 k ++ r)
  unfolding refused_line line over entry decimal digits codes
  shown k = refl

  listing-23 : begins (listing a ++ r) ↔ (a.number ≡ 23)
  unfolding listing moved_text moved_line line codes
  listing-23 = (
    split (λ (t : Bool). begins (cond t (moved_text a) (refused_line a.number a.second) ++ r) → a.number ≡ 23)
        (eqb a.number 0)
        (λ e m. absurd (let z : ◌≡◌ {A = ℕ} 109 114 = ap (λ (s : List ℕ). get_or s 1 0) m in omega arith))
        (λ e m. refused-begins a.number a.second few m),
    λ e. rw (ne_eqb a.number 0 (λ z. omega (arith, e, z)), e) (shown a.second),
  )

sheet-most : (s : List ℕ) → (sheet_answer s).number ≤ 23
unfolding sheet_answer
sheet-most s =
    past-number Most (λ (r : Judged). r.number) (read_of s).number _ _ (judged-most (job_on s) 8192)
    (omega (arith, read-below present s))

module _ (s out : List ℕ) (work : ℕ) (enough : 8192 ≤ work) (room : length (listing_of s) ≤ length out) where
  pub print-begins-23 : BeginsWith "(refused 23 " (out_printed s work out) ↔ ((at : ℕ) × SheetRefusedBy23 s at)
  unfolding listing_of
  print-begins-23 =
      let shown = listing-23 (sheet_answer s) (sheet-most s) (drop (length (listing_of s)) out) in (
        λ b. (
          (sheet_answer s).second,
          (print-23 s _).0 (shown.0 (rw (print-leaves s out work enough room) at b), refl),
        ),
        λ h. rw (print-leaves s out work enough room) (shown.1 ((print-23 s h.0).1 h.1).0),
      )

-- ---- the shelf

pub put-23 : (s : Shelf) (n : ℕ) (r : Route) (at : ℕ)
    → Is23 (stored s n r).number (stored s n r).second at ↔ PutRefusedBy23 s n r at
unfolding stored
put-23 s n r at = chain (outcome-23 (put_row s n r) at) (put-refused-iff s n r at)

pub shelf-23 : (s : Shelf) (edition target : ℕ) (old new : Route) → Later s edition target old new → (done : List ℕ)
    → (room : ℕ) → 8192 ≤ room → (at : ℕ)
    → Is23 (judged_between s edition target done room).number (judged_between s edition target done room).second at
    ↔ RefusedBy23 (job_of old new done) at
shelf-23 s edition target old new later done room h at =
    rw (shelf-judges s edition target old new later done room) (judge-23 (job_of old new done) at room h)

-- ---- read, write and the converter

pub read-never : (s : List ℕ) → (read_of s).number ≡ 23 → ⊥
read-never s e = omega (arith, read-below present s, e)

lists-below : (s : List ℕ) (old new done : ℕ) → Below (lists_row (read_of s) old new done).number
unfolding lists_row
lists-below s old new done =
    first-number Below (refuse (read_of s).number (read_of s).second) _ (read-below present s)
    (first-number Below _ _ (unless-number Below _ 15 _ (omega arith) (omega arith))
    (first-number Below _ _ (unless-number Below _ 15 _ (omega arith) (omega arith))
    (first-number Below _ [] (unless-number Below _ 15 _ (omega arith) (omega arith)) none-below)))

counts-below : (z : Sheet) (o : Outcome) → Below o.number → Below (counts z o).number
unfolding counts
counts-below z o low =
    past-number Below (λ (c : Counts). c.number) o.number _ (no_counts o.number o.second) (omega arith) low

pub read-lists-never : (s : List ℕ) (old new : List Step) (done : List ℕ) → (counts_read s old new done).number ≡ 23 → ⊥
unfolding counted
read-lists-never s old new done e =
    omega (
      arith,
      e,
      counts-below (read_of s) (lists_row (read_of s) (length old) (length new) (length done))
          (lists-below s (length old) (length new) (length done)),
    )

written-below : (o : Outcome) (t : List ℕ) (room : ℕ) → Below o.number → Below (wrote_past o t room).number
unfolding wrote_past wrote_text
written-below o t room low = past-number Below (λ (w : Wrote). w.number) o.number _ _ (text (leb (length t) room)) low
  where
    text : (b : Bool) → Below (cond b (whole (length t)) (unwritten 15 (length t))).number
    text true = omega arith
    text false = omega arith

pub write-never : (j : Job) (room : ℕ) → (wrote j room).number ≡ 23 → ⊥
write-never j room e = omega (arith, written-below (first (line_rows j)) (written j) room (lines-below j), e)

nets-below : (v : Version) (j : Job) → Below (first (net_rows v j)).number
unfolding net_rows
nets-below v j =
    first-number Below _ _ (net-below _ _ j.old_places j.old)
    (first-number Below _ [] (net-below _ _ j.new_places j.new) none-below)

pub up-never : (s : List ℕ) (room : ℕ) → (raised s room).number ≡ 23 → ⊥
unfolding up_row
up-never s room e =
    omega (
      arith,
      e,
      written-below (up_row s) (up_text s) room
          (first-number Below (read_row (read_by scope s)) _ (read-below scope s) (nets-below scope (scope_job s))),
    )

pub down-never : (s : List ℕ) (room : ℕ) → (lowered s room).number ≡ 23 → ⊥
unfolding down_row
down-never s room e =
    omega (
      arith,
      e,
      written-below (down_row s) (down_text s) room
          (first-number Below (read_row (read_of s)) _ (read-below present s)
          (append-number Below (net_rows present (present_job s)) _ (nets-below present (present_job s))
          (few (rows-only (present_job s))))),
    )
  where
    few : {n : ℕ} → Only22 n → Below n
    few (inl e) = omega (arith, e)
    few (inr e) = omega (arith, e)

pub convert-never : (s : List ℕ) (room : ℕ) → (converted s room).number ≡ 23 → ⊥
unfolding converted
convert-never s room = go (has_start_line s)
  where
    go : (t : Bool) → (cond t (lowered s room) (raised s room)).number ≡ 23 → ⊥
    go true = down-never s room
    go false = up-never s room
