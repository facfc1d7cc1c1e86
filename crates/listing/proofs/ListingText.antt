-- The whole text in the parts that calls write, and the room that it takes.
-- Assumes nothing.
use mathlib.Core.Path.{◌≡◌, sym, ap}
use mathlib.Core.List.{List, [], ◌∷◌, ◌++◌, append-nil}
use Prim.Native.Nat.{ℕ, ◌≤◌}
use native.Mathlib.Omega.{arith}
use lib.ListN.{length}
use borrow.Author.Tests.{eq-eqb, ne_eqb}
use Rattle.answering.specs.declared.Judged.{Judged}
use Rattle.emit.proofs.Chains.{parts, First, Second, Third, Two, Three, first-room, second-room, third-room, two-emits}
use Rattle.emit.proofs.Chains.{three-emits, room_as}
use Rattle.listing_lines.specs.Lines.{moved_line, after_lines, order_line, marking_line, value_lines, refused_line}
use Rattle.listing.specs.Listing.{moved_text, listing}

abbrev pub first_lines : Judged → List ℕ
first_lines a = moved_line a.kept a.dropped ++ after_lines a.kept a.after

abbrev pub last_lines : Judged → List ℕ
last_lines a = order_line a.len a.order ++ (marking_line a.marking.tokens ++ value_lines a.writers)

module _ (a : Judged) where
  pub refusal_is : (a.number ≡ 0 → ⊥) → listing a ≡ refused_line a.number a.second
  unfolding listing
  refusal_is some = rw (ne_eqb a.number 0 some)

  success-parts : a.number ≡ 0 → listing a ≡ parts (first_lines a ∷ last_lines a ∷ [])
  unfolding listing moved_text parts
  success-parts none = rw (eq-eqb a.number 0 none)
      (ap (λ (t : List ℕ). first_lines a ++ t) (sym (append-nil (last_lines a))))

  pub refusal-room : (a.number ≡ 0 → ⊥) → First (listing a) (refused_line a.number a.second)
  refusal-room some o n r = room_as r (refusal_is some)

  pub success-first : a.number ≡ 0 → First (listing a) (first_lines a)
  success-first none = first-room _ _ _ (success-parts none)

  pub success-second : a.number ≡ 0 → Second (listing a) (first_lines a) (last_lines a)
  success-second none = second-room _ _ _ _ (success-parts none)

  pub success-whole : a.number ≡ 0 → Two (listing a) (first_lines a) (last_lines a)
  success-whole none = two-emits _ _ _ (success-parts none)

-- the last lines, in three parts
module _ (s t u : List ℕ) where
  three-parts : s ++ (t ++ u) ≡ parts (s ∷ t ∷ u ∷ [])
  unfolding parts
  three-parts = ap (λ (x : List ℕ). s ++ (t ++ x)) (sym (append-nil u))

  pub three-first : First (s ++ (t ++ u)) s
  three-first = first-room _ _ _ three-parts

  pub three-second : Second (s ++ (t ++ u)) s t
  three-second = second-room _ _ _ _ three-parts

  pub three_third : Third (s ++ (t ++ u)) s t u
  three_third = third-room _ _ _ _ _ three-parts

  pub three-whole : Three (s ++ (t ++ u)) s t u
  three-whole = three-emits _ _ _ _ three-parts

-- ---- a slice with room for any answer's listing

pub listing-fits : (a : Judged) (o : List ℕ) → length (listing a) ≤ 7053 → 7053 ≤ length o
    → length (listing a) ≤ length o
listing-fits a o short long = omega (arith, short, long)
