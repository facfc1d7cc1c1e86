-- The lines of the listing, as bytes.
use Rattle.std.specs.Prelude.{cond, List, [], ◌∷◌, ◌++◌, map, ℕ, suc, eqb, get_or, take}
use Rattle.mask.specs.Mask.{members, count}
use Rattle.emit.specs.Numbers.{entry, over}
use Rattle.precedence.specs.Order.{in_turn}

-- the fixed texts: `(moved (kept`, `) (dropped`, `))` and LF, `(after`, `(order`, `(marking`, `(value`, `(refused`, `)`
-- and LF
abbrev pub moved_word : List ℕ
moved_word = 40 ∷ 109 ∷ 111 ∷ 118 ∷ 101 ∷ 100 ∷ 32 ∷ 40 ∷ 107 ∷ 101 ∷ 112 ∷ 116 ∷ []

abbrev pub dropped_word : List ℕ
dropped_word = 41 ∷ 32 ∷ 40 ∷ 100 ∷ 114 ∷ 111 ∷ 112 ∷ 112 ∷ 101 ∷ 100 ∷ []

abbrev pub moved_end : List ℕ
moved_end = 41 ∷ 41 ∷ 10 ∷ []

abbrev pub after_word : List ℕ
after_word = 40 ∷ 97 ∷ 102 ∷ 116 ∷ 101 ∷ 114 ∷ []

abbrev pub order_word : List ℕ
order_word = 40 ∷ 111 ∷ 114 ∷ 100 ∷ 101 ∷ 114 ∷ []

abbrev pub marking_word : List ℕ
marking_word = 40 ∷ 109 ∷ 97 ∷ 114 ∷ 107 ∷ 105 ∷ 110 ∷ 103 ∷ []

abbrev pub value_word : List ℕ
value_word = 40 ∷ 118 ∷ 97 ∷ 108 ∷ 117 ∷ 101 ∷ []

abbrev pub refused_word : List ℕ
refused_word = 40 ∷ 114 ∷ 101 ∷ 102 ∷ 117 ∷ 115 ∷ 101 ∷ 100 ∷ []

-- "Each line ends with LF"
abbrev pub close : List ℕ
close = 41 ∷ 10 ∷ []

-- a line: its opening bracket and word, its entries, its end
unfoldable pub line : List ℕ → List ℕ → List ℕ
line word l = word ++ (over entry l ++ close)

-- `(moved (kept K) (dropped D))`: "The `moved` line counts kept and dropped occurrences"
unfoldable pub moved_line : ℕ → ℕ → List ℕ
moved_line kept dropped =
    (moved_word ++ entry (count 64 kept))
    ++ ((dropped_word ++ entry dropped) ++ moved_end)

-- `(after I J ..)`: "An `after` line gives a kept occurrence and all kept ones that it comes after, if any". Occurrence
-- k is bit k - 1.
unfoldable pub after_line : ℕ → ℕ → List ℕ
after_line i row =
    cond (eqb row 0) []
    (line after_word (suc i ∷ map suc (members 64 row)))

unfoldable pub after_lines : ℕ → List ℕ → List ℕ
after_lines kept rows = over (λ (i : ℕ). after_line i (get_or rows i 0)) (members 64 kept)

-- `(order ..)`: "`order` is the list given"
unfoldable pub order_line : ℕ → List ℕ → List ℕ
order_line len order = line order_word (take len order)

-- `(marking ..)`: "`marking` the places with a token"
unfoldable pub marking_line : ℕ → List ℕ
marking_line m = line marking_word (members 64 m)

-- `(value V W)`: "a `value` line a new-route variable and its last writer", and "a blank variable" has none
unfoldable pub value_line : ℕ → ℕ → List ℕ
value_line v writer = cond (eqb writer 0) [] (line value_word (v ∷ writer ∷ []))

unfoldable pub value_lines : List ℕ → List ℕ
value_lines writers = over (λ (v : ℕ). value_line v (get_or writers v 0)) (in_turn 0 32)

-- "A refusal prints `(refused NUMBER SECOND)`."
unfoldable pub refused_line : ℕ → ℕ → List ℕ
refused_line number second = line refused_word (number ∷ second ∷ [])
