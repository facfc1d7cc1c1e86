-- Rows 17 and 18 pass exactly when the list is in order and fires in turn: the rows ask the same of each entry.
use mathlib.Core.Path.{◌≡◌, refl, sym, ap, ap₂, ◌∙◌}
use mathlib.Core.Bool.{Bool, true, false, cond, ◌&&◌}
use mathlib.Core.List.{List, [], ◌∷◌}
use mathlib.Core.Option.{Option, none, some, some-injective}
use Prim.Native.Nat.{ℕ, ◌+◌}
use native.Mathlib.Omega.{arith}
use lib.ListN.{get_or}
use Rattle.route.specs.Steps.{blank, lookup}
use Rattle.route.specs.Firing.{fire, if_fires, stopped, reached}
use Rattle.route.specs.declared.Step.{Step}
use Rattle.route.proofs.IfFires.{if_fires-can, if_fires-elim}
use Rattle.precedence.specs.Precedence.{comes_after}
use Rattle.precedence.specs.Order.{none_of, in_order}
use Rattle.matching.specs.Straight.{fire_all, steps_on}
use Rattle.order_entries.specs.Entries.{try_from}
use Rattle.route.specs.declared.Fired.{Fired}
use Rattle.theorems.proofs.Fires.{fire_all-cons}
use Rattle.theorems.proofs.Entries.{in_order-cons}

module _ (new l : List Step) where
  pub try_from-intro : (m at e : ℕ) (p : List ℕ) → in_order l p ≡ true → fire_all new m (steps_on l p) ≡ some e
      → try_from new l m at p ≡ reached e
  unfolding try_from if_fires fire_all steps_on
  try_from-intro m at e [] a h = ap reached (some-injective m e h)
  try_from-intro m at e (i ∷ p) a h =
      let (n, b) = in_order-cons l i p a in
      let r = fire_all-cons new m e (get_or l i blank) (steps_on l p) h in
      rw (n, r.there, r.can) (try_from-intro (fire m r.step) (at + 1) e p b r.onward)

  -- what a list has that no row refuses
  pub record InTurn (m : ℕ) (p : List ℕ) (t : Fired) : Type 0 where
    pub second : t.second ≡ 0
    pub order : in_order l p ≡ true
    pub fires : fire_all new m (steps_on l p) ≡ some t.marking.tokens

  pub try_from-elim : (m at : ℕ) (p : List ℕ) → (try_from new l m at p).number ≡ 0 → InTurn m p (try_from new l m at p)
  unfolding try_from fire_all steps_on in_order
  try_from-elim m at [] e = record { second = refl; order = refl; fires = refl }
  try_from-elim m at (i ∷ p) e = go (none_of (comes_after l i) p) refl e (λ m'. try_from-elim m' (at + 1) p)
    where
      q : Option Step
      q = lookup (get_or l i blank).name new

      next : Step → ℕ → Fired
      next s m' = try_from new l m' (at + 1) p

      fired : Fired
      fired = if_fires m q (stopped 18 at) (stopped 18 at) next

      go : (b : Bool) → none_of (comes_after l i) p ≡ b → (cond b fired (stopped 17 at)).number ≡ 0
          → ((m' : ℕ) → (try_from new l m' (at + 1) p).number ≡ 0 → InTurn m' p (try_from new l m' (at + 1) p))
          → InTurn m (i ∷ p) (cond b fired (stopped 17 at))
      go true n e ih =
          let f = if_fires-elim (λ (t : Fired). t.number ≡ 0) m q (stopped 18 at) (stopped 18 at) next
          (λ x. omega arith) (λ x. omega arith) e in
          let r = ih (fire m f.step) f.onward in
          let on : fired ≡ next f.step (fire m f.step) = if_fires-can m q _ _ next f.step f.there f.can in
          record {
            second = ap (λ (t : Fired). t.second) on ∙ r.second;
            order = ap₂ (λ (x y : Bool). x && y) n r.order;
            fires = if_fires-can m q none none _ f.step f.there f.can ∙ r.fires
                ∙ ap (λ (t : Fired). some t.marking.tokens) (sym on);
          }
      go false n e ih = absurd (omega arith)
