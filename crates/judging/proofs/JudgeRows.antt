-- Judge after the rows to 12, branch by branch: what each answer of the code is by the definition.
use mathlib.Core.Path.{◌≡◌, refl, sym, ap, ◌∙◌, subst}
use mathlib.Core.Bool.{Bool, true, false, cond}
use mathlib.Core.List.{List, map}
use mathlib.Core.Option.{none, some, get_or}
use Prim.Native.Nat.{ℕ, suc, ◌≤◌, ◌<◌}
use native.Mathlib.Omega.{arith}
use lib.ListN.{length, take}
use borrow.Author.Tests.{eq-eqb}
use Rattle.std.specs.Prelude.{Option, Some, None, Ok}
use Rattle.mask.specs.Mask.{has, below, count}
use Rattle.mask.proofs.Members.{count-few}
use Rattle.route.specs.Steps.{blank}
use Rattle.route.specs.declared.Step.{Step}
use Rattle.route.specs.declared.Marking.{Marking}
use Rattle.slice.specs.Slice.{variables}
use Rattle.precedence.specs.Order.{in_turn}
use Rattle.precedence.specs.Table.{table}
use Rattle.precedence.proofs.InTurn.{length-in_turn, map-get_or-in_turn}
use Rattle.slice.proofs.Sweep.{kept-below}
use Rattle.matching.specs.Straight.{fire_all, steps_on, runs_straight}
use Rattle.matching.specs.Fit.{kept_of}
use Rattle.matching.specs.KeptRows.{kept_rows}
use Rattle.matching.specs.inner.Matched.{matched, straight_end}
use Rattle.preparing.specs.declared.Prepared.{Prepared}
use Rattle.matching.proofs.Matched.{length-matched}
use Rattle.matching.proofs.KeptRows.{limit-holds, members-same}
use Rattle.answering.specs.Answer.{padded, judge_stopped, judged_of, answer}
use Rattle.search.specs.Candidates.{first_order, sequence}
use Rattle.candidates.specs.FirstFit.{first_fit}
use Rattle.candidates.specs.inner.Columns.{ColumnsOf, Packed, positions, placed_by}
use Rattle.candidates.specs.declared.Columns.{Columns}
use Rattle.judging.specs.Judge.{judge_found, judge_rows}
use Rattle.answering.specs.inner.Listed.{placed_on, AnswersList}
use Rattle.answering.specs.declared.Placed.{Placed}
use Rattle.answering.specs.declared.Moved.{Moved}
use Rattle.judging.specs.inner.Passing.{Passing}
use Rattle.candidates.proofs.CandidateColumns.{AllSame}
use Rattle.candidates.proofs.FirstFit.{Found, none-fit, order-fit}

-- all occurrences in turn, and where they end
pub straight-list :
    (from : ℕ) (new l : List Step) (len : ℕ) (order : List ℕ) (marking : Marking)
    → len ≡ length l
    → order ≡ padded 64 (map suc (in_turn 0 len))
    → marking.tokens ≡ get_or (fire_all new from l) 0
    → record { len = len; order = order; marking = marking } ≡ placed_on from new l (in_turn 0 (length l))
unfolding steps_on
straight-list from new l len order marking p q r =
    λ i. record {
      len = (p ∙ sym (length-in_turn 0 (length l))) i;
      order = (q ∙ ap (λ (k : ℕ). padded 64 (map suc (in_turn 0 k))) p) i;
      marking = record {
        tokens = (r ∙ ap (λ (x : List Step). get_or (fire_all new from x) 0) (sym (map-get_or-in_turn blank l)))
            i;
      };
    }

-- ---- where the straight list ends

module _ (from : ℕ) (new l : List Step) (f : Option Marking) (is : f ≡ straight_end from new l) where
  straight-at :
      (m : Marking)
      → f ≡ Some m
      → (runs_straight from new l ≡ true) × (m.tokens ≡ get_or (fire_all new from l) 0)
  unfolding straight_end
  straight-at m e = go (runs_straight from new l) (sym e ∙ is)
    where
      go :
          (t : Bool)
          → Some m ≡ cond t (Some (record { tokens = get_or (fire_all new from l) 0 })) None
          → (t ≡ true) × (m.tokens ≡ get_or (fire_all new from l) 0)
      go true h = let same : m ≡ record { tokens = get_or (fire_all new from l) 0 } =
          cc in (refl, ap (λ (x : Marking). x.tokens) same)
      go false h = (cc, cc)

  straight-stuck : f ≡ None → runs_straight from new l ≡ false
  unfolding straight_end
  straight-stuck e = go (runs_straight from new l) (sym e ∙ is)
    where
      go :
          (t : Bool)
          → ◌≡◌ {A = Option Marking} None (cond t (Some (record { tokens = get_or (fire_all new from l) 0 })) None)
          → t ≡ false
      go true h = cc
      go false h = refl

-- ---- the first fit list

module _ (line from : ℕ) (new l : List Step) where
  pub fit-answer :
      (kept : ℕ) (q : List ℕ)
      → kept ≡ kept_of new l
      → first_fit from new l ≡ some q
      → answer from new l kept q ≡ judge_found line from new l (first_fit from new l)
  unfolding judge_found
  fit-answer kept q is e = ap (λ (k : ℕ). answer from new l k q) is ∙ ap (judge_found line from new l) (sym e)

  pub none-answer : first_fit from new l ≡ none → judge_stopped 13 line ≡ judge_found line from new l (first_fit from new l)
  unfolding judge_found
  none-answer e = ap (judge_found line from new l) (sym e)

  -- rows 10 to 13, where those to 12 pass
  module _ (passes : (kept_rows line from new l).number ≡ 0) where
    rows_pass :
        cond (runs_straight from new l) (answer from new l (below (length l)) (in_turn 0 (length l)))
        (judge_found line from new l (first_fit from new l)) ≡ judge_rows line from new l
    unfolding judge_rows
    rows_pass =
        ap
        (λ (t : Bool). cond t (cond (runs_straight from new l)
        (answer from new l (below (length l)) (in_turn 0 (length l)))
        (judge_found line from new l (first_fit from new l)))
        (judge_stopped (kept_rows line from new l).number (kept_rows line from new l).second))
        (sym (eq-eqb (kept_rows line from new l).number 0 passes))

    pub rows-straight :
        runs_straight from new l ≡ true
        → answer from new l (below (length l)) (in_turn 0 (length l)) ≡ judge_rows line from new l
    rows-straight e =
        ap
        (λ (t : Bool). cond t (answer from new l (below (length l)) (in_turn 0 (length l)))
        (judge_found line from new l (first_fit from new l)))
        (sym e)
        ∙ rows_pass

    pub rows-search :
        runs_straight from new l ≡ false
        → judge_found line from new l (first_fit from new l) ≡ judge_rows line from new l
    rows-search e =
        ap
        (λ (t : Bool). cond t (answer from new l (below (length l)) (in_turn 0 (length l)))
        (judge_found line from new l (first_fit from new l)))
        (sym e)
        ∙ rows_pass

-- ---- a job that no row to 12 refuses

module _ {p : Prepared} {l t : List Step} (k : Passing p l t) where
  pub passing-straight :
      (m : Marking)
      → p.straight ≡ Some m
      → (runs_straight p.start.tokens k.new l ≡ true)
      × (m.tokens ≡ get_or (fire_all k.new p.start.tokens l) 0)
  passing-straight = straight-at p.start.tokens k.new l p.straight k.straight-is

  pub passing-stuck : p.straight ≡ None → runs_straight p.start.tokens k.new l ≡ false
  passing-stuck = straight-stuck p.start.tokens k.new l p.straight k.straight-is

  pub passing-below : (i : ℕ) → has p.kept i ≡ true → i < length l
  unfolding kept_of
  passing-below i h = kept-below l (variables k.new) i (ap (λ (m : ℕ). has m i) (sym k.kept-is) ∙ h)

  -- each of the kept has its step among the new route's
  pub passing-matched : (i : ℕ) → has p.kept i ≡ true → i < length t
  passing-matched i h = omega (arith, passing-below i h, ap length k.matches-are, length-matched k.new l)

  pub passing-few : count 64 p.kept ≤ length l
  passing-few = count-few 64 p.kept (length l) passing-below

  pub passing-limit : p.straight ≡ None → count 64 p.kept ≤ 16
  passing-limit e = rw k.kept-is (limit-holds p.line p.start.tokens k.new l k.passes (passing-stuck e))

  pub passing-same : AllSame k.new l p.kept
  passing-same = rw k.kept-is (members-same p.line p.start.tokens k.new l k.passes)

-- ---- the search over the kept

module _ {p : Prepared} {l t : List Step} (k : Passing p l t) (rows : List ℕ) (c : Columns)
    (cols : ColumnsOf p.kept rows t c) where
  columns-are : ColumnsOf p.kept rows (matched k.new l) c
  columns-are = subst (λ (x : List Step). ColumnsOf p.kept rows x c) k.matches-are cols

  module _ (table_is : rows ≡ table l) (r : Option ℕ)
      (e : r ≡ sequence (first_order (take c.candidates.len c.candidates.ins) (take c.candidates.len c.candidates.outs) (take c.candidates.len c.candidates.before)
      p.start.tokens)) where
    pub none-judged : r ≡ None
        → judge_stopped 13 p.line ≡ judge_found p.line p.start.tokens k.new l (first_fit p.start.tokens k.new l)
    none-judged f =
        none-answer p.line p.start.tokens k.new l
        (none-fit k.new l p.kept rows c k.kept-is (passing-same k) table_is columns-are p.start.tokens
        r e f)

    module _ (x : ℕ) (of : r ≡ Some x) (q : Placed)
        (placed : (o : List ℕ) → Packed x c.candidates.len o → q ≡ placed_by c p.start.tokens o) where
      found : Found k.new l c p.start.tokens x
      found = order-fit k.new l p.kept rows c k.kept-is (passing-same k) table_is columns-are
          p.start.tokens r e x of

      pub order-short : q.len ≤ 64
      order-short = omega (
        arith,
        ap (λ (y : Placed). y.len) (placed found.order found.packed),
        found.packed.long,
        c.candidates.sixteen.few,
      )

      pub order-judged : (z : Moved) → AnswersList rows p.vars p.kept q l z
          → judged_of (Ok z) ≡ judge_found p.line p.start.tokens k.new l (first_fit p.start.tokens k.new l)
      order-judged z answers =
          answers p.start.tokens k.new (positions c found.order) table_is k.vars-are
          (placed found.order found.packed ∙ found.placed-is)
          ∙ fit-answer p.line p.start.tokens k.new l p.kept (positions c found.order) k.kept-is
          found.fit
