-- An occurrence took the token of another exactly when that one is the last before it that put a token on a place that
-- it took from.
use mathlib.Core.Path.{◌≡◌, sym, ap, ap₂, ◌∙◌}
use mathlib.Core.Logic.{◌↔◌}
use mathlib.Core.Bool.{Bool, true, not, ◌&&◌}
use mathlib.Core.List.{List}
use Prim.Native.Nat.{ℕ, zero, suc, ◌+◌, ◌-◌, ◌<◌}
use native.Mathlib.Omega.{arith}
use lib.ListN.{get_or}
use borrow.Author.Tests.{not-true}
use Rattle.mask.specs.Mask.{has}
use Rattle.mask.proofs.Laws.{meets-some, some-meets}
use Rattle.mask.proofs.Truth.{both}
use Rattle.route.specs.Steps.{blank}
use Rattle.route.specs.declared.Step.{Step}
use Rattle.precedence.specs.Precedence.{puts_until, put_for}
use Rattle.precedence.proofs.Putters.{puts-last, puts-on}
use Rattle.slice.specs.Slice.{token, reads_at, writes_at, wants, makes, LastWriter}
use Rattle.slice.proofs.Closure.{still-last}

module _ (l : List Step) where
  abbrev Last : ℕ → ℕ → ℕ → Type 0
  Last i p j = LastWriter l i (token p) j

  module _ (p : ℕ) where
    put-last : (d i j : ℕ) → i ≡ suc j + d → has (puts_until l i j) p ≡ true → Last i p j
    unfolding writes_at makes
    put-last zero i j e h =
        let here : i ≡ suc j = omega (arith, e) in
        record {
          earlier = omega arith;
          writer = sym (puts-last l p j) ∙ ap (λ (n : ℕ). has (puts_until l n j) p) (sym here) ∙ h;
          last = λ k a b. absurd (omega (arith, here));
        }
    put-last (suc d) zero j e h = absurd (omega (arith, e))
    put-last (suc d) (suc i) j e h =
        let (a, b) = both (has (puts_until l i j) p) (not (has (get_or l i blank).outs p))
        (sym (puts-on l p i j (omega (arith, e))) ∙ h)
        in
        still-last l i (token p) j (not-true (has (get_or l i blank).outs p) b) (put-last d i j (omega (arith, e)) a)

    last-put : (d i j : ℕ) → i ≡ suc j + d → Last i p j → has (puts_until l i j) p ≡ true
    unfolding writes_at makes
    last-put zero i j e so =
        let here : i ≡ suc j = omega (arith, e) in
        ap (λ (n : ℕ). has (puts_until l n j) p) here ∙ puts-last l p j ∙ so.writer
    last-put (suc d) zero j e so = absurd (omega (arith, e))
    last-put (suc d) (suc i) j e so =
        puts-on l p i j (omega (arith, e))
        ∙ ap₂ (λ (x y : Bool). x && not y)
        (last-put d i j (omega (arith, e))
        (record { earlier = omega (arith, e); writer = so.writer; last = λ k a b. so.last k a (omega arith) }))
        (so.last i (omega (arith, e)) (omega arith))

  -- 02: "it needs the occurrence that put the token there"
  pub put_for-iff : (i j : ℕ) → j < i
      → (put_for l i j ≡ true) ↔ ((p : ℕ) × (reads_at l i (token p) ≡ true) × LastWriter l i (token p) j)
  unfolding put_for reads_at wants
  put_for-iff i j h = (out, back)
    where
      far : i ≡ suc j + (i - suc j)
      far = omega (arith, h)

      out : put_for l i j ≡ true → (p : ℕ) × (reads_at l i (token p) ≡ true) × LastWriter l i (token p) j
      out e =
          let (p, a, b) = meets-some (get_or l i blank).ins (puts_until l i j) e in
          (p, a, put-last p (i - suc j) i j far b)

      back : (p : ℕ) × (reads_at l i (token p) ≡ true) × LastWriter l i (token p) j → put_for l i j ≡ true
      back (p, a, w) = some-meets (get_or l i blank).ins (puts_until l i j) p a (last-put p (i - suc j) i j far w)
