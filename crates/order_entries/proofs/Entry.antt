-- Rows 17 and 18, entry by entry: what a loop over the order meets. An entry that may stand here and fires leaves the
-- rows of those after it.
use mathlib.Core.Path.{◌≡◌, refl, sym, ap, ap₂, ◌∙◌}
use mathlib.Core.Bool.{Bool, true, false, not, cond}
use mathlib.Core.List.{List}
use mathlib.Core.Option
use mathlib.Core.Option.{Option, none, some}
use Prim.Native.Nat.{ℕ, suc, ◌+◌, ◌-◌, ◌^◌, ◌≤◌, ◌<◌}
use native.Mathlib.Omega.{arith}
use native.Mathlib.Numerals.{add-one}
use lib.Dec.{leb}
use lib.Bits.{bit_and, bit_or}
use lib.ListN.{length, drop, get_or, drop_of_length-le}
use lib.Seq.{drop-cons}
use borrow.Author.Tests.{not-true, not-false}
use Rattle.mask.specs.Mask.{has, bit, within}
use Rattle.mask.proofs.Truth.{both}
use Rattle.route.specs.Steps.{blank}
use Rattle.route.specs.Firing.{can_fire, fire, if_fires, stopped}
use Rattle.route.specs.declared.Step.{Step}
use Rattle.route.specs.declared.Marking.{Marking}
use Rattle.route.proofs.IfFires.{if_fires-stuck, if_fires-can}
use Rattle.slice.specs.Slice.{variables}
use Rattle.precedence.specs.Precedence.{comes_after, row}
use Rattle.precedence.specs.Order.{none_of}
use Rattle.precedence.specs.Table.{table}
use Rattle.slice.proofs.Sweep.{kept-below}
use Rattle.precedence.proofs.InTurn.{get_or-map-in_turn}
use Rattle.matching.specs.Fit.{kept_of}
use Rattle.matching.specs.Straight.{same_data, same_step}
use Rattle.matching.proofs.Matched.{step_for, matched-at}
use Rattle.order_entries.specs.Entries.{is_kept, list_row, try_from}
use Rattle.order_entries.specs.inner.Replayable.{Replayable}
use Rattle.route.specs.declared.Fired.{Fired}
use Rattle.order_entries.proofs.Row16.{Passed, passed-at, kept-range}
use Rattle.order_entries.proofs.Row17.{positions, order-test}

-- a kept occurrence's step on the new route
matched-step : (new l : List Step) (i : ℕ) (s : Step) → i < length l → same_step new (get_or l i blank) ≡ true
    → s ≡ Option.get_or (step_for new l i) blank → step_for new l i ≡ some s
unfolding same_step same_data
matched-step new l i s h same e = go (step_for new l i) refl same
  where
    go : (q : Option Step) → step_for new l i ≡ q → same_data (get_or l i blank) q ≡ true → step_for new l i ≡ some s
    go none p t = cc
    go (some t) p u = p ∙ ap some (sym (e ∙ ap (λ (q : Option Step). Option.get_or q blank) p))

module _ (o : List ℕ) (kept : ℕ) (rows : List ℕ) (steps : List Step) (from : ℕ) where
  -- an answer to the whole order
  abbrev pub Answers : Fired → Type 0
  Answers r = (new l : List Step) → Replayable new l kept steps → rows ≡ table l
      → r ≡ try_from new l from 1 (positions o)

  -- the entries up to i are placed, and m is the marking after them: row 16 passes the others, and their rows answer
  -- for all
  pub record Placed (placed m i : ℕ) : Type 0 where
    pub lists : (list_row kept placed (i + 1) (drop i o)).number ≡ 0
    pub rest : (new l : List Step) → Replayable new l kept steps → rows ≡ table l
        → try_from new l m (i + 1) (positions (drop i o)) ≡ try_from new l from 1 (positions o)

  pub placed-done : (placed i : ℕ) (m : Marking) → Placed placed m.tokens i → length o ≤ i
      → Answers (record { number = 0; second = 0; marking = m })
  unfolding try_from
  placed-done placed i m inv h new l ready is =
      ap (λ (x : List ℕ). try_from new l m.tokens (i + 1) (positions x)) (sym (drop_of_length-le o {i = i} h))
      ∙ inv.rest new l ready is

  module _ (placed m i : ℕ) (inv : Placed placed m i) where
    module _ (h : i < length o) (wide : kept < 2 ^ 64) where
      abbrev k : ℕ
      k = get_or o i 0 - 1

      passed : Passed kept placed (i + 1) (get_or o i 0) (drop (i + 1) o)
      passed = passed-at kept placed i o h inv.lists

      pub entry_first : 1 ≤ get_or o i 0
      entry_first = (kept-range kept (get_or o i 0) wide passed.entry).0

      pub entry-below : k < 64
      entry-below = (kept-range kept (get_or o i 0) wide passed.entry).1

      there : has kept k ≡ true
      unfolding is_kept
      there = (both (leb 1 (get_or o i 0)) (has kept k) passed.entry).1

      pub entry-step : (n : ℕ) → ((j : ℕ) → has kept j ≡ true → j < n) → k < n
      entry-step n all = all k there

      -- t is the answer to row 17's test by the table
      module _ (t : Bool) (test : t ≡ within (bit_and (get_or rows k 0) kept) placed) where
        module _ (new l : List Step) (ready : Replayable new l kept steps) (is : rows ≡ table l) where
          row_is : get_or rows k 0 ≡ row l k
          unfolding table
          row_is = ap (λ (x : List ℕ). get_or x k 0) is ∙ get_or-map-in_turn (row l) 0 64 k entry-below
              ∙ ap (row l) (omega arith)

          test-is : none_of (comes_after l k) (positions (drop (suc i) o)) ≡ t
          test-is =
              order-test l kept placed (i + 1) (get_or o i 0) (drop (suc i) o)
              (ap (λ (x : List ℕ). (list_row kept placed (i + 1) x).number) (sym (drop-cons o i 0 h)) ∙ inv.lists)
              ∙ ap (λ (r : ℕ). within (bit_and r kept) placed) (sym row_is)
              ∙ sym test

          unfoldable next : Step → ℕ → Fired
          next s x = try_from new l x (i + 1 + 1) (positions (drop (suc i) o))

          tested : cond t (if_fires m (step_for new l k) (stopped 18 (i + 1)) (stopped 18 (i + 1)) next)
              (stopped 17 (i + 1)) ≡ try_from new l from 1 (positions o)
          unfolding try_from next
          tested =
              ap (λ (b : Bool). cond b (if_fires m (step_for new l k) (stopped 18 (i + 1)) (stopped 18 (i + 1))
              next) (stopped 17 (i + 1))) (sym test-is)
              ∙ ap (λ (x : List ℕ). try_from new l m (i + 1) (positions x)) (sym (drop-cons o i 0 h))
              ∙ inv.rest new l ready is

          step-for : (s : Step) → s ≡ get_or steps k blank → step_for new l k ≡ some s
          unfolding kept_of
          step-for s e =
              let below : k < length l = kept-below l (variables new) k
              (ap (λ (n : ℕ). has n k) (sym ready.kept-is) ∙ there) in
              matched-step new l k s below (ready.all_same k there)
              (e ∙ ap (λ (x : List Step). get_or x k blank) ready.matches-are ∙ matched-at new l k below)

          placed_on : t ≡ true → if_fires m (step_for new l k) (stopped 18 (i + 1)) (stopped 18 (i + 1)) next
              ≡ try_from new l from 1 (positions o)
          placed_on ok =
              ap (λ (b : Bool). cond b (if_fires m (step_for new l k) (stopped 18 (i + 1)) (stopped 18 (i + 1))
              next) (stopped 17 (i + 1))) (sym ok)
              ∙ tested

        pub placed-early : (r : Fired) → not t ≡ true → r ≡ stopped 17 (i + 1) → Answers r
        placed-early r off e new l ready is =
            e ∙ ap (λ (b : Bool). cond b (if_fires m (step_for new l k) (stopped 18 (i + 1)) (stopped 18 (i + 1))
            (next new l ready is)) (stopped 17 (i + 1))) (sym (not-true t off)) ∙ tested new l ready is

        module _ (ok : not t ≡ false) (s : Step) (s-is : s ≡ get_or steps k blank) (can : Bool)
            (can-is : can ≡ can_fire m s) where
          pub placed-stuck : (r : Fired) → not can ≡ true → r ≡ stopped 18 (i + 1) → Answers r
          placed-stuck r off e new l ready is = e
              ∙ sym (if_fires-stuck m (step_for new l k) _ _ (next new l ready is) s (step-for new l ready is s s-is)
              (sym can-is ∙ not-true can off)) ∙ placed_on new l ready is (not-false t ok)

          pub placed-step : (own m' : ℕ) → not can ≡ false → own ≡ bit k → m' ≡ fire m s
              → Placed (bit_or placed own) m' (i + 1)
          unfolding next
          placed-step own m' on own_is m-is =
              record {
                lists = ap (λ (x : ℕ). (list_row kept (bit_or placed x) (i + 1 + 1) (drop (i + 1) o)).number) own_is
                    ∙ passed.rest;
                rest = λ new l ready is.
                    ap₂ (λ (x n : ℕ). try_from new l x (i + 1 + 1) (positions (drop n o))) m-is (add-one i)
                    ∙ sym (if_fires-can m (step_for new l k) _ _ (next new l ready is) s (step-for new l ready is s s-is)
                    (sym can-is ∙ not-false can on))
                    ∙ placed_on new l ready is (not-false t ok);
              }
