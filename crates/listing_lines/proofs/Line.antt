-- Each line in the parts that its calls write.
-- Assumes nothing.
use mathlib.Core.Path.{◌≡◌, refl, sym, ap, ◌∙◌}
use mathlib.Core.List.{List, [], ◌∷◌, ◌++◌, append_assoc, append-nil}
use Prim.Native.Nat.{ℕ, ◌+◌, ◌≤◌, min}
use native.Mathlib.Omega.{arith}
use native.Mathlib.Decide.{dec_le}
use lib.ListN.{length, take}
use lib.Seq.{take_all, length-take-le}
use Rattle.mask.specs.Mask.{members, count}
use Rattle.emit.specs.Numbers.{entry, over}
use Rattle.emit.proofs.Chains.{parts, First, Second, Third, Three, first-room, second-room, third-room, three-emits}
use Rattle.emit.proofs.Over.{from_zero}
use Rattle.listing_lines.specs.Lines.{close, line, moved_word, dropped_word, moved_end, moved_line, order_word}
use Rattle.listing_lines.specs.Lines.{order_line, marking_word, marking_line, refused_word, refused_line}

module _ (w : List ℕ) where
  line-parts : (l : List ℕ) → line w l ≡ parts (w ∷ over entry l ∷ close ∷ [])
  unfolding line parts
  line-parts l = refl

  -- the word with the first entry
  pub first-parts : (a : ℕ) (l : List ℕ) → line w (a ∷ l) ≡ parts ((w ++ entry a) ∷ over entry l ∷ close ∷ [])
  unfolding line parts over
  first-parts a l = simp append_assoc

  pub pair_parts : (a b : ℕ) → line w (a ∷ b ∷ []) ≡ parts ((w ++ entry a) ∷ entry b ∷ close ∷ [])
  unfolding over
  pair_parts a b = first-parts a (b ∷ []) ∙ ap (λ (t : List ℕ). parts ((w ++ entry a) ∷ t ∷ close ∷ []))
      (append-nil (entry b))

moved-parts : (kept dropped c : ℕ) → c ≡ count 64 kept
    → moved_line kept dropped ≡ parts ((moved_word ++ entry c) ∷ (dropped_word ++ entry dropped) ∷ moved_end ∷ [])
unfolding moved_line parts
moved-parts kept dropped c e = rw e

-- an order that is longer than its list has the list's entries
order-parts : (len c : ℕ) (order : List ℕ) → c ≡ min len 64 → length order ≡ 64
    → order_line len order ≡ parts (order_word ∷ over entry (take c order) ∷ close ∷ [])
unfolding order_line
order-parts len c order e full = line-parts order_word (take len order)
    ∙ ap (λ (l : List ℕ). parts (order_word ∷ over entry l ∷ close ∷ [])) (cut (dec_le len 64))
  where
    cut : Dec (len ≤ 64) → take len order ≡ take c order
    cut (yes h) = let all : len ≡ c = omega arith in rw all
    cut (no h) = take_all len order (omega arith) ∙ sym (take_all c order (omega arith))

marking-parts : (m : ℕ) → marking_line m ≡ parts (marking_word ∷ over (λ (v : ℕ). entry (0 + v)) (members 64 m) ∷ close
    ∷ [])
unfolding marking_line
marking-parts m = line-parts marking_word (members 64 m)
    ∙ ap (λ (t : List ℕ). parts (marking_word ∷ t ∷ close ∷ [])) (sym (from_zero (members 64 m)))

refused-parts : (number second : ℕ) → refused_line number second
    ≡ parts ((refused_word ++ entry number) ∷ entry second ∷ close ∷ [])
unfolding refused_line
refused-parts number second = pair_parts refused_word number second

-- ---- the room that their calls have

module _ (number second : ℕ) where
  pub refused-first : First (refused_line number second) (refused_word ++ entry number)
  refused-first = first-room _ _ _ (refused-parts number second)

  pub refused-second : Second (refused_line number second) (refused_word ++ entry number) (entry second)
  refused-second = second-room _ _ _ _ (refused-parts number second)

  pub refused-third : Third (refused_line number second) (refused_word ++ entry number) (entry second) close
  refused-third = third-room _ _ _ _ _ (refused-parts number second)

  pub refused-whole : Three (refused_line number second) (refused_word ++ entry number) (entry second) close
  refused-whole = three-emits _ _ _ _ (refused-parts number second)

module _ (kept dropped c : ℕ) (e : c ≡ count 64 kept) where
  pub moved-first : First (moved_line kept dropped) (moved_word ++ entry c)
  moved-first = first-room _ _ _ (moved-parts kept dropped c e)

  pub moved-second : Second (moved_line kept dropped) (moved_word ++ entry c) (dropped_word ++ entry dropped)
  moved-second = second-room _ _ _ _ (moved-parts kept dropped c e)

  pub moved-third : Third (moved_line kept dropped) (moved_word ++ entry c) (dropped_word ++ entry dropped) moved_end
  moved-third = third-room _ _ _ _ _ (moved-parts kept dropped c e)

  pub moved-whole : Three (moved_line kept dropped) (moved_word ++ entry c) (dropped_word ++ entry dropped) moved_end
  moved-whole = three-emits _ _ _ _ (moved-parts kept dropped c e)

module _ (len c : ℕ) (order : List ℕ) (e : c ≡ min len 64) (full : length order ≡ 64) where
  pub order-long : c ≡ length (take c order)
  order-long = sym (length-take-le c order (omega arith))

  pub order-first : First (order_line len order) order_word
  order-first = first-room _ _ _ (order-parts len c order e full)

  pub order-second : Second (order_line len order) order_word (over entry (take c order))
  order-second = second-room _ _ _ _ (order-parts len c order e full)

  pub order-third : Third (order_line len order) order_word (over entry (take c order)) close
  order-third = third-room _ _ _ _ _ (order-parts len c order e full)

  pub order-whole : Three (order_line len order) order_word (over entry (take c order)) close
  order-whole = three-emits _ _ _ _ (order-parts len c order e full)

module _ (m : ℕ) where
  pub marking-first : First (marking_line m) marking_word
  marking-first = first-room _ _ _ (marking-parts m)

  pub marking-second : Second (marking_line m) marking_word (over (λ (v : ℕ). entry (0 + v)) (members 64 m))
  marking-second = second-room _ _ _ _ (marking-parts m)

  pub marking-third : Third (marking_line m) marking_word (over (λ (v : ℕ). entry (0 + v)) (members 64 m)) close
  marking-third = third-room _ _ _ _ _ (marking-parts m)

  pub marking-whole : Three (marking_line m) marking_word (over (λ (v : ℕ). entry (0 + v)) (members 64 m)) close
  marking-whole = three-emits _ _ _ _ (marking-parts m)
