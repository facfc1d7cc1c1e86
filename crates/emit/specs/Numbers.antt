-- The texts of numbers and of lists of them: 48 is the digit 0, 32 the space.
use Rattle.std.specs.Prelude.{cond, List, [], ◌∷◌, ◌++◌, ℕ, zero, suc, ◌+◌, ◌/◌, ◌%◌, ltb}

-- "Numbers are written in base ten": the last digit of n stands after those of its tenth, k digits at most
unfoldable pub digits : ℕ → ℕ → List ℕ
digits zero n = []
digits (suc k) n = cond (ltb n 10) ((48 + n) ∷ []) (digits k (n / 10) ++ ((48 + n % 10) ∷ []))

-- no number of 64 bits has more than 20
unfoldable pub decimal : ℕ → List ℕ
decimal n = digits 20 n

-- the two last digits of a number below 100, also where the first is 0
abbrev pub pair_text : ℕ → List ℕ
pair_text n = (48 + n / 10) ∷ (48 + n % 10) ∷ []

-- an entry of a list: one space, and the number
unfoldable pub entry : ℕ → List ℕ
entry n = 32 ∷ decimal n

-- the texts of all in turn
unfoldable pub over : (ℕ → List ℕ) → List ℕ → List ℕ
over f [] = []
over f (x ∷ l) = f x ++ over f l
