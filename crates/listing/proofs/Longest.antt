-- The listing of an answer of judge has at most 7,053 bytes: that of 64 occurrences, all kept, each of which comes
-- after all before it, with all places marked and 32 variables whose last writers have two digits. Where a search was
-- needed 16 are kept, and it is shorter by far. Assumes nothing.
use mathlib.Core.Path.{◌≡◌, refl, sym, ap, ◌∙◌}
use mathlib.Core.Bool.{Bool, true, false, cond, false≢true}
use mathlib.Core.List.{List, [], ◌∷◌, ◌++◌, map}
use mathlib.Core.Option
use mathlib.Core.Option.{Option, none, some}
use Prim.Native.Nat.{ℕ, zero, suc, ◌+◌, ◌-◌, ◌*◌, ◌≤◌, ◌<◌}
use native.Mathlib.Omega.{arith}
use native.Mathlib.Decide.{dec_lt}
use lib.Dec.{eqb, leb}
use lib.Bits.{bit_and}
use lib.ListN.{length, get_or, take, replicate, length-append, length-map, length-replicate}
use lib.Seq.{take-append-le, take_all, take-take, length-take-le}
use borrow.Author.Tests.{eqb-true}
use Rattle.mask.specs.Mask.{has, below, members_from, members, count}
use Rattle.mask.proofs.Truth.{split, both}
use Rattle.mask.proofs.Laws.{has-and, has-zero, has-ext}
use Rattle.mask.proofs.Count.{count_none}
use Rattle.emit.specs.Numbers.{digits, decimal, entry, over}
use Rattle.emit.proofs.Decimals.{entry_length}
use Rattle.emit.proofs.Over.{over-map}
use Rattle.route.specs.declared.Step.{Step}
use Rattle.job.specs.Job.{Job, job_line, new_start}
use Rattle.running.specs.Run.{ran}
use Rattle.occurrences.specs.Occurrences.{occurrences_of}
use Rattle.running.proofs.RunLine.{ran-fits}
use Rattle.slice.specs.Slice.{variables}
use Rattle.precedence.specs.Precedence.{row, comes_after}
use Rattle.precedence.specs.Order.{in_turn}
use Rattle.occurrences.proofs.DoneOccurrences.{length-occurrences}
use Rattle.precedence.proofs.InTurn.{get_or-map-in_turn}
use Rattle.precedence.proofs.Rows.{row-exact, not_after}
use Rattle.matching.specs.Straight.{fire_all, steps_on, runs_straight}
use Rattle.matching.specs.Fit.{kept_of}
use Rattle.matching.specs.KeptRows.{kept_rows}
use Rattle.matching.proofs.KeptRows.{limit-holds}
use Rattle.answering.specs.Answer.{padded, last_writer, after_of, writer_of, judge_stopped, answer}
use Rattle.candidates.specs.FirstFit.{first_fit}
use Rattle.judging.specs.Judge.{judge_found, judge_rows, judged}
use Rattle.answering.specs.declared.Judged.{Judged}
use Rattle.precedence.proofs.InTurn.{length-in_turn}
use Rattle.listing_lines.specs.Lines.{line, moved_line, after_word, after_line, after_lines, order_word, order_line}
use Rattle.listing_lines.specs.Lines.{marking_word, marking_line, value_word, value_line, value_lines, refused_line}
use Rattle.listing.specs.Listing.{moved_text, listing}
use Rattle.listing.proofs.Lengths.{size, size-cons, size-most, size-more, size-members, size-count}
use Rattle.listing.proofs.Lengths.{below-members}
use Rattle.listing.proofs.AnyRecord.{line-long, pair-long, row-long, moved_length, moved-long, order-long}
use Rattle.listing.proofs.AnyRecord.{marking-long, values-long, refused-long}

-- ---- the longest lines

abbrev occurrence : ℕ → List ℕ
occurrence i = entry (suc i)

-- an occurrence that comes after all before it; the first comes after none
unfoldable row_most : ℕ → List ℕ
row_most zero = []
row_most (suc i) = line after_word (suc (suc i) ∷ map suc (in_turn 0 (suc i)))

unfoldable value_most : ℕ → List ℕ
value_most v = line value_word (v ∷ 64 ∷ [])

rows-most : size row_most (in_turn 0 64) ≡ 6202
unfolding over in_turn row_most line entry decimal digits
rows-most = refl

numbers-most : size occurrence (in_turn 0 64) ≡ 183
unfolding over in_turn entry decimal digits
numbers-most = refl

places-most : size entry (in_turn 0 64) ≡ 182
unfolding over in_turn entry decimal digits
places-most = refl

values-most : size value_most (in_turn 0 32) ≡ 438
unfolding over in_turn value_most line entry decimal digits
values-most = refl

-- ---- a row whose members all stand before i

row-most : (i m : ℕ) → ((x : ℕ) → has m x ≡ true → x < i) → length (after_line i m) ≤ length (row_most i)
unfolding after_line row_most
row-most zero m h = rw (ap (λ (n : ℕ). eqb n 0) empty) (omega arith)
  where
    absent : (v : ℕ) → has m v ≡ false
    absent v = split (λ (t : Bool). has m v ≡ t → t ≡ false) (has m v) (λ e f. absurd (omega (arith, h v f)))
        (λ e f. refl) refl

    empty : m ≡ 0
    empty = has-ext m 0 (λ v. absent v ∙ sym (has-zero v))
row-most (suc i) m h =
    split (λ (t : Bool). length (cond t [] (line after_word (suc (suc i) ∷ map suc (members 64 m)))) ≤ length
    (row_most (suc i))) (eqb m 0)
    (λ e. omega arith)
    (λ e. omega (
      arith,
      line-long after_word (suc (suc i) ∷ map suc (members 64 m)),
      line-long after_word (suc (suc i) ∷ map suc (in_turn 0 (suc i))),
      size-cons entry (suc (suc i)) (map suc (members 64 m)),
      size-cons entry (suc (suc i)) (map suc (in_turn 0 (suc i))),
      ap length (over-map entry suc (members 64 m)),
      ap length (over-map entry suc (in_turn 0 (suc i))),
      others,
    ))
  where
    others : size occurrence (members 64 m) ≤ size occurrence (in_turn 0 (suc i))
    others = unfold members in size-members occurrence 64 0 (suc i) m (λ x p q. omega (arith, h x q))

module _ (l : List Step) (kept : ℕ) where
  after-inside : (i x : ℕ) → has (after_of l kept i) x ≡ true → x < i
  unfolding after_of
  after-inside i x e =
      split (λ (t : Bool). has (cond t (bit_and (row l i) kept) 0) x ≡ true → x < i) (has kept i)
      (λ p q. earlier (dec_lt x i) (sym (row-exact l i x)
      ∙ (both (has (row l i) x) (has kept x) (sym (has-and (row l i) kept x) ∙ q)).0))
      (λ p q. absurd (false≢true (sym (has-zero x) ∙ q)))
      e
    where
      earlier : Dec (x < i) → comes_after l i x ≡ true → x < i
      earlier (yes h) c = h
      earlier (no h) c = absurd (false≢true (sym (not_after l i x (omega arith)) ∙ c))

  abbrev rows : List ℕ
  rows = map (after_of l kept) (in_turn 0 64)

  after-most : length (after_lines kept rows) ≤ 6202
  unfolding after_lines members
  after-most =
      omega (
        arith,
        rows-most,
        size-members (λ (i : ℕ). after_line i (get_or rows i 0)) 64 0 64 kept (λ x p q. p),
        size-most (λ (i : ℕ). after_line i (get_or rows i 0)) row_most 0 64 (λ i p. each i (omega arith)),
      )
    where
      each : (i : ℕ) → i < 64 → length (after_line i (get_or rows i 0)) ≤ length (row_most i)
      each i p = row-most i (get_or rows i 0) (λ x q. after-inside i x (sym (ap (λ (m : ℕ). has m x) (at i p)) ∙ q))
        where
          at : (i : ℕ) → i < 64 → get_or rows i 0 ≡ after_of l kept i
          at i p = let here : 0 + i ≡ i = omega arith in get_or-map-in_turn (after_of l kept) 0 64 i p
              ∙ ap (after_of l kept) here

-- ---- the places, and the last writers

marking-most : (m : ℕ) → length (marking_line m) ≤ 192
unfolding marking_line members
marking-most m = omega (
  arith,
  line-long marking_word (members_from 0 64 m),
  size-members entry 64 0 64 m (λ x p q. p),
  places-most,
)

writer-most : (v i : ℕ) (l : List Step) → last_writer v i l ≤ i + length l
unfolding last_writer
writer-most v i [] = omega arith
writer-most v i (s ∷ l) =
    split (λ (t : Bool). cond t (cond (has s.writes v) (suc i) 0) (last_writer v (suc i) l) ≤ i + suc (length l))
    (eqb (last_writer v (suc i) l) 0)
    (λ e. split (λ (u : Bool). cond u (suc i) 0 ≤ i + suc (length l)) (has s.writes v) (λ f. omega arith)
    (λ f. omega arith))
    (λ e. omega (arith, writer-most v (suc i) l))

value-most : (v w : ℕ) → w ≤ 64 → length (value_line v w) ≤ length (value_most v)
unfolding value_line value_most
value-most v w h =
    split (λ (t : Bool). length (cond t [] (line value_word (v ∷ w ∷ []))) ≤ length (line value_word (v ∷ 64 ∷ [])))
    (eqb w 0)
    (λ e. omega arith)
    (λ e. omega (
      arith,
      pair-long value_word v w,
      pair-long value_word v 64,
      entry_length 1 w (omega arith),
      longest-entry,
    ))
  where
    longest-entry : length (entry 64) ≡ 3
    longest-entry = unfold entry decimal digits in refl

module _ (new l : List Step) (few : length l ≤ 64) where
  abbrev writers : List ℕ
  writers = map (writer_of new l) (in_turn 0 32)

  last-most : (v : ℕ) → writer_of new l v ≤ 64
  unfolding writer_of
  last-most v = split (λ (t : Bool). cond t (last_writer v 0 l) 0 ≤ 64) (has (variables new) v)
      (λ e. omega (arith, writer-most v 0 l)) (λ e. omega arith)

  writers-most : length (value_lines writers) ≤ 438
  unfolding value_lines
  writers-most = omega (
    arith,
    values-most,
    size-most (λ (v : ℕ). value_line v (get_or writers v 0)) value_most 0 32
        (λ v p. value-most v (get_or writers v 0) (at v (omega arith))),
  )
    where
      at : (v : ℕ) → v < 32 → get_or writers v 0 ≤ 64
      at v p = omega (arith, get_or-map-in_turn (writer_of new l) 0 32 v p, last-most (0 + v))

-- ---- all kept, in turn

module _ (n : ℕ) (few : n ≤ 64) where
  count-below : count 64 (below n) ≡ n
  unfolding count
  count-below = ap length (below-members n 64 few) ∙ length-in_turn 0 n

  straight-moved : length (moved_line (below n) (n - count 64 (below n))) ≤ 30
  straight-moved =
      let none : n - count 64 (below n) ≡ 0 = omega (arith, count-below) in
      omega (
        arith,
        moved_length (below n) (n - count 64 (below n)),
        entry_length 1 (count 64 (below n)) (omega (arith, count-below)),
        ap (λ (d : ℕ). length (entry d)) none,
        entry_length 0 0 (omega arith),
      )

  abbrev straight_order : List ℕ
  straight_order = map suc (in_turn 0 n)

  straight-order : length (order_line (length (in_turn 0 n)) (padded 64 straight_order)) ≤ 191
  unfolding order_line padded
  straight-order =
      let long : length straight_order ≡ n = length-map (in_turn 0 n) suc ∙ length-in_turn 0 n in
      let taken : take n (take 64 (straight_order ++ replicate 64 0)) ≡ straight_order =
      take-take n 64 (straight_order ++ replicate 64 0) few
      ∙ take-append-le n straight_order (replicate 64 0) (omega arith) ∙ take_all n straight_order (omega arith) in
      rw (length-in_turn 0 n, taken) (omega (
        arith,
        line-long order_word straight_order,
        ap length (over-map entry suc (in_turn 0 n)),
        size-more occurrence 0 n 64 few,
        numbers-most,
      ))

-- ---- a record of which at most 16 are kept

module _ (a : Judged) (few : count 64 a.kept ≤ 16) (full : length a.order ≡ 64) where
  few-after : length (after_lines a.kept a.after) ≤ 16 * 203
  unfolding after_lines members count
  few-after = omega (
    arith,
    few,
    size-count (λ (i : ℕ). after_line i (get_or a.after i 0)) 203 64 0 a.kept
        (λ x p. row-long x (get_or a.after x 0) (omega arith)),
  )

  few-kept : length (listing a) ≤ 7053
  unfolding listing moved_text
  few-kept =
      split (λ (t : Bool). length (cond t (moved_text a) (refused_line a.number a.second)) ≤ 7053)
      (eqb a.number 0)
      (λ e. simp length-append (omega (
        arith,
        moved-long a.kept a.dropped,
        few-after,
        order-long a full,
        marking-long a,
        values-long a,
      )))
      (λ e. omega (arith, refused-long a))

pub stopped-short : (n k : ℕ) → length (listing (judge_stopped n k)) ≤ 7053
stopped-short n k = few-kept (judge_stopped n k) (omega (arith, count_none 64)) (length-replicate {A = ℕ} 64 0)

-- ---- judge

module _ (from : ℕ) (new l : List Step) where
  straight-short : length l ≤ 64 → length (listing (answer from new l (below (length l)) (in_turn 0 (length l)))) ≤ 7053
  unfolding answer listing moved_text
  straight-short few =
      simp length-append
      (omega (
        arith,
        straight-moved (length l) few,
        after-most l (below (length l)),
        straight-order (length l) few,
        marking-most marked,
        writers-most new l few,
      ))
    where
      marked : ℕ
      marked = Option.get_or (fire_all new from (steps_on l (in_turn 0 (length l)))) 0

  padded-long : (x : List ℕ) → length (padded 64 x) ≡ 64
  unfolding padded
  padded-long x = length-take-le 64 (x ++ replicate 64 0)
      (omega (arith, length-append x (replicate 64 0), length-replicate {A = ℕ} 64 0))

  found-short : (line : ℕ) (q : Option (List ℕ)) → count 64 (kept_of new l) ≤ 16
      → length (listing (judge_found line from new l q)) ≤ 7053
  unfolding judge_found answer
  found-short line none few = stopped-short 13 line
  found-short line (some o) few = few-kept (answer from new l (kept_of new l) o) few (padded-long (map suc o))

  rows_short : (line : ℕ) → length l ≤ 64 → length (listing (judge_rows line from new l)) ≤ 7053
  unfolding judge_rows
  rows_short line few =
      split (λ (t : Bool). length (listing (cond t
      (cond (runs_straight from new l) (answer from new l (below (length l)) (in_turn 0 (length l)))
      (judge_found line from new l (first_fit from new l)))
      (judge_stopped (kept_rows line from new l).number (kept_rows line from new l).second))) ≤ 7053)
      (eqb (kept_rows line from new l).number 0)
      (λ e. split (λ (t : Bool). length (listing (cond t (answer from new l (below (length l)) (in_turn 0 (length l)))
      (judge_found line from new l (first_fit from new l)))) ≤ 7053) (runs_straight from new l)
      (λ s. straight-short few)
      (λ s. found-short line (first_fit from new l)
      (limit-holds line from new l (eqb-true (kept_rows line from new l).number 0 e) s)))
      (λ e. stopped-short _ _)

-- no answer of judge has a longer listing
pub longest : (j : Job) (room : ℕ) → length (listing (judged j room)) ≤ 7053
unfolding judged
longest j room =
    split (λ (t : Bool). length (listing (cond t (cond (eqb (ran j).number 0)
    (judge_rows (job_line j) (new_start j) j.new done) (judge_stopped (ran j).number (ran j).second))
    (judge_stopped 14 0))) ≤ 7053) (leb 8192 room)
    (λ e. split (λ (t : Bool). length (listing (cond t (judge_rows (job_line j) (new_start j) j.new done)
    (judge_stopped (ran j).number (ran j).second))) ≤ 7053) (eqb (ran j).number 0)
    (λ r. rows_short (new_start j) j.new done (job_line j)
    (omega (arith, length-occurrences j, (ran-fits j (eqb-true (ran j).number 0 r)).done-fit)))
    (λ r. stopped-short _ _))
    (λ e. stopped-short 14 0)
  where
    done : List Step
    done = occurrences_of j
