-- Rows 6 and 7 in turn, on the written places and what a pass over the steps found.
use mathlib.Core.Path.{◌≡◌, refl, sym, ap, ap₂, ◌∙◌}
use mathlib.Core.Bool.{Bool, true, false, not}
use mathlib.Core.List.{List, []}
use Prim.Native.Nat.{ℕ}
use lib.Dec.{eqb}
use lib.Bits.{bit_or}
use borrow.Author.Tests.{not-true, not-false, eq-eqb, ne_eqb}
use Rattle.mask.specs.Mask.{below, without, within}
use Rattle.route.specs.Steps.{union}
use Rattle.route.specs.Firing.{implied_start, implied_places}
use Rattle.opening.specs.Gathered.{GatheredFrom}
use Rattle.refusal.specs.Rows.{pass, refuse}
use Rattle.opening.specs.Net.{net_row_at}
use Rattle.route.specs.declared.Places.{Places}
use Rattle.route.specs.declared.Step.{Step}
use Rattle.opening.specs.declared.Gathered.{Gathered}
use Rattle.refusal.specs.declared.Outcome.{Outcome}
use Rattle.refusal.proofs.Rows.{row-passes, row-passed, row-refuses, rows_end}

module _ (head start : ℕ) (places : Places) (l : List Step) (e : Gathered) (all : ℕ) (held : Bool)
    (ends : GatheredFrom l e) (places-are : all ≡ below places.count)
    (held-is : held ≡ within all (bit_or e.ins e.outs)) where
  covered : held
      ≡ within (below places.count) (bit_or (union (λ (s : Step). s.ins) l) (union (λ (s : Step). s.outs) l))
  covered = held-is ∙ ap₂ within places-are (ap₂ bit_or ends.ins ends.outs)

  pub net-six : not held ≡ true → refuse 6 head ≡ net_row_at head start places l
  unfolding net_row_at
  net-six t = sym (row-refuses _ 6 head _ (sym covered ∙ not-true held t) refl)

  pub net-seven : not held ≡ false → places.start ≡ 0 → refuse 7 start ≡ net_row_at head start places l
  unfolding net_row_at
  net-seven t z =
      sym (row-refuses (not (eqb places.start 0)) 7 start []
      (ap (λ (x : Bool). not x) (eq-eqb places.start 0 z)) refl)
      ∙ sym (row-passes _ 6 head _ (sym covered ∙ not-false held t))

  pub net-neither : not held ≡ false → (places.start ≡ 0 → ⊥) → pass ≡ net_row_at head start places l
  unfolding net_row_at
  net-neither t z =
      sym rows_end
      ∙ sym (row-passes (not (eqb places.start 0)) 7 start []
      (ap (λ (x : Bool). not x) (ne_eqb places.start 0 z)))
      ∙ sym (row-passes _ 6 head _ (sym covered ∙ not-false held t))

-- a route that passes rows 6 and 7 passes them wherever it stands
pub net-anywhere : (a b head start : ℕ) (places : Places) (l : List Step)
    → eqb (net_row_at a b places l).number 0 ≡ true → eqb (net_row_at head start places l).number 0 ≡ true
unfolding net_row_at
net-anywhere a b head start places l e =
    let (all, rest) = row-passed _ 6 a _ refl e in
    let (begins, _) = row-passed _ 7 b [] refl rest in
    ap (λ (o : Outcome). eqb o.number 0)
    (row-passes _ 6 head _ all ∙ row-passes _ 7 start [] begins ∙ rows_end)

-- the places that a pass over the steps implies
pub implied_are : (count : ℕ) (l : List Step) (e : Gathered) (all start : ℕ) → GatheredFrom l e → all ≡ below count
    → start ≡ without all e.outs → record { count = count; start = start } ≡ implied_places count l
unfolding implied_start
implied_are count l e all start ends all-is is =
    ap (λ (m : ℕ). record { count = count; start = m }) (is ∙ ap₂ without all-is ends.outs)
