-- An answer 0 of judge shows what 01 says: kept and dropped, what comes after what, the order, the marking and the last
-- writers.
use mathlib.Core.Path.{◌≡◌, refl, sym, ap, ◌∙◌}
use mathlib.Core.Logic.{◌↔◌, ◌⊎◌, inl, inr}
use mathlib.Core.Bool.{Bool, true, false, cond, ◌&&◌}
use mathlib.Core.List.{List, map}
use Prim.Native.Nat.{ℕ, suc, ◌+◌, ◌<◌}
use native.Mathlib.Omega.{arith}
use native.Mathlib.Decide.{dec_lt}
use lib.Bits.{bit_and}
use lib.ListN.{length, get_or, length-map, get_or-eq_default}
use borrow.Author.Tests.{ltb-true, lt-ltb}
use Rattle.mask.specs.Mask.{has, count}
use Rattle.mask.proofs.Laws.{has-below, has-and, has-zero}
use Rattle.mask.proofs.Members.{count-few}
use Rattle.mask.proofs.Truth.{split, both}
use Rattle.route.specs.declared.Step.{Step}
use Rattle.job.specs.Job.{Job, new_start}
use Rattle.slice.specs.Slice.{LastWriter, variable, variables, writes_at}
use Rattle.precedence.specs.Precedence.{row, comes_after}
use Rattle.precedence.specs.Order.{in_turn}
use Rattle.slice.proofs.Closure.{kept-iff}
use Rattle.precedence.proofs.Rows.{row-exact}
use Rattle.precedence.proofs.InTurn.{length-in_turn, get_or-map-in_turn}
use Rattle.matching.specs.Straight.{runs_straight}
use Rattle.matching.specs.Fit.{kept_of}
use Rattle.answering.specs.Answer.{last_writer, after_of, writer_of, answer}
use Rattle.judging.specs.Judge.{judged}
use Rattle.answering.specs.declared.Judged.{Judged}
use Rattle.occurrences.specs.Occurrences.{occurrences_of}
use Rattle.theorems.specs.Demand3.{Runs}
use Rattle.theorems.specs.Shows.{Shows}
use Rattle.theorems.proofs.Runs.{steps-short}
use Rattle.occurrences.proofs.DoneOccurrences.{length-occurrences}
use Rattle.theorems.proofs.KeptRows.{kept-short}
use Rattle.theorems.proofs.Judge.{Gives, gives, judge-given, judge-marking}
use Rattle.theorems.proofs.LastWriter.{last_writer-elim, last_writer-none-elim, last_writer-intro}
use Rattle.theorems.proofs.LastWriter.{last_writer-none-intro}

-- a row shows exactly the kept that a kept one comes after
has-after_of : (l : List Step) (kept i j : ℕ)
    → has (after_of l kept i) j ≡ (has kept i && (has kept j && comes_after l i j))
unfolding after_of
has-after_of l kept i j = go (has kept i)
  where
    swap : (a b : Bool) → (a && b) ≡ (b && a)
    swap true true = refl
    swap true false = refl
    swap false true = refl
    swap false false = refl

    go : (t : Bool) → has (cond t (bit_and (row l i) kept) 0) j ≡ (t && (has kept j && comes_after l i j))
    go true = has-and (row l i) kept j ∙ ap (λ (b : Bool). b && has kept j) (row-exact l i j)
        ∙ swap (comes_after l i j) (has kept j)
    go false = has-zero j

module _ (new l : List Step) where
  -- ---- the writers

  writer-at : (v : ℕ) → v < 32 → get_or (map (writer_of new l) (in_turn 0 32)) v 0 ≡ writer_of new l v
  writer-at v h = get_or-map-in_turn (writer_of new l) 0 32 v h ∙ ap (writer_of new l) (omega arith)

  writer-iff : (v n : ℕ)
      → (writer_of new l v ≡ suc n) ↔ (has (variables new) v ≡ true) × LastWriter l (length l) (variable v) n
  unfolding writer_of
  writer-iff v n = (
    split (λ (t : Bool). cond t (last_writer v 0 l) 0 ≡ suc n → (t ≡ true) × LastWriter l (length l) (variable v) n)
        (has (variables new) v)
        (λ h e. (refl, last_writer-elim l v n e))
        (λ h e. absurd (omega arith)),
    λ w. rw w.0 (last_writer-intro l v n w.1),
  )

  -- no occurrence writes v
  abbrev Unwritten : ℕ → Type 0
  Unwritten v = (i : ℕ) → i < length l → writes_at l i (variable v) ≡ false

  blank-iff : (v : ℕ) → (writer_of new l v ≡ 0) ↔ (has (variables new) v ≡ false) ⊎ Unwritten v
  unfolding writer_of
  blank-iff v = (
    split (λ (t : Bool). cond t (last_writer v 0 l) 0 ≡ 0 → (t ≡ false) ⊎ Unwritten v) (has (variables new) v)
        (λ h e. inr (λ i b. last_writer-none-elim l v e i))
        (λ h e. inl refl),
    back,
  )
    where
      back : (has (variables new) v ≡ false) ⊎ Unwritten v → cond (has (variables new) v) (last_writer v 0 l) 0 ≡ 0
      back (inl h) = rw h
      back (inr h) =
          split (λ (t : Bool). cond t (last_writer v 0 l) 0 ≡ 0) (has (variables new) v)
          (λ e. last_writer-none-intro l v h)
          (λ e. refl)

  -- ---- what comes after what

  module _ (kept : ℕ) (low : (i : ℕ) → has kept i ≡ true → i < 64) where
    after-at : (i : ℕ) → get_or (map (after_of l kept) (in_turn 0 64)) i 0 ≡ after_of l kept i
    unfolding after_of
    after-at i = go (dec_lt i 64)
      where
        go : Dec (i < 64) → get_or (map (after_of l kept) (in_turn 0 64)) i 0 ≡ after_of l kept i
        go (yes h) = get_or-map-in_turn (after_of l kept) 0 64 i h ∙ ap (after_of l kept) (omega arith)
        go (no h) =
            get_or-eq_default (map (after_of l kept) (in_turn 0 64)) 0
            (omega (arith, length-map (in_turn 0 64) (after_of l kept), length-in_turn 0 64))
            ∙ split (λ (t : Bool). ◌≡◌ {A = ℕ} 0 (cond t (bit_and (row l i) kept) 0)) (has kept i)
            (λ e. absurd (h (low i e))) (λ e. refl)

    after-iff : (i k : ℕ)
        → (has (get_or (map (after_of l kept) (in_turn 0 64)) i 0) k ≡ true) ↔ (has kept i ≡ true) × (has kept k ≡ true)
        × (comes_after l i k ≡ true)
    after-iff i k =
        let is = ap (λ (m : ℕ). has m k) (after-at i) ∙ has-after_of l kept i k in (
          λ e. let (a, rest) = both (has kept i) _ (sym is ∙ e) in let (b, c) =
              both (has kept k) (comes_after l i k) rest in (a, b, c),
          λ h. is ∙ rw (h.0, h.1, h.2),
        )

-- ---- the answer

module _ (j : Job) (room : ℕ) (ok : Runs j) (moves : (judged j room).number ≡ 0) where
  abbrev l : List Step
  l = occurrences_of j

  abbrev given : Gives (new_start j) j.new l (judged j room)
  given = gives j room ok moves

  abbrev kept : ℕ
  kept = given.kept

  kept-is : (judged j room).kept ≡ kept
  unfolding answer
  kept-is = ap (λ (r : Judged). r.kept) given.is

  kept-below : (i : ℕ) → has kept i ≡ true → i < length l
  kept-below i h =
      split (λ _. i < length l) (runs_straight (new_start j) j.new l)
      (λ s. ltb-true i (length l) (sym (has-below (length l) i) ∙ ap (λ (m : ℕ). has m i) (sym (given.all s)) ∙ h))
      (λ n. kept-short j.new l i (ap (λ (m : ℕ). has m i) (sym (given.sliced n)) ∙ h))

  pub judge-shows : Shows j (judged j room)
  unfolding answer kept_of
  judge-shows =
      let is = given.is in
      let long = length-occurrences j in
      record {
        all = λ s i.
            let e = ap (λ (m : ℕ). has m i) (kept-is ∙ given.all s) ∙ has-below (length l) i in
            (λ h. omega (arith, ltb-true i (length l) (sym e ∙ h)), λ h. e ∙ lt-ltb i (length l) (omega arith));
        kept = λ n i. let e = ap (λ (m : ℕ). has m i) (kept-is ∙ given.sliced n) in rw e
            (kept-iff l (variables j.new) i);
        counts = omega (
          arith,
          ap (λ (r : Judged). count 64 r.kept + r.dropped) is,
          count-few 64 kept (length l) kept-below,
        );
        after = λ i k. rw is (after-iff j.new l kept (λ i h. omega (arith, kept-below i h, steps-short j ok)) i k);
        order = judge-given j room ok moves;
        marking = judge-marking j room ok moves;
        writer = λ v n b. rw (is, ← long, writer-at j.new l v b) (writer-iff j.new l v n);
        blank = λ v b. rw (is, ← long, writer-at j.new l v b) (blank-iff j.new l v);
      }
