-- A refusal is a number and a second number; 0 and 0 refuse nothing. "Rows go in this order": the first that refuses is
-- the answer.
use Rattle.std.specs.Prelude.{◌≡◌, Bool, cond, List, [], ◌∷◌, ℕ, ◌+◌, eqb}
use Rattle.refusal.specs.declared.Outcome.{Outcome}

abbrev pub pass : Outcome
pass = record { number = 0; second = 0 }

abbrev pub refuse : ℕ → ℕ → Outcome
refuse n k = record { number = n; second = k }

-- the refusal n at k unless the test holds
unfoldable pub unless : Bool → ℕ → ℕ → Outcome
unless t n k = cond t pass (refuse n k)

-- the first refusal, where rows go in turn
unfoldable pub first : List Outcome → Outcome
first [] = pass
first (o ∷ l) = cond (eqb o.number 0) (first l) o

-- rows in turn refuse nothing
abbrev pub AllPass : List Outcome → Type 0
AllPass rows = (first rows).number ≡ 0

-- the refusal n at each line whose entry fails the test, top down; the first is on `line`
unfoldable pub each_line : {A : Type 0} → (A → Bool) → ℕ → ℕ → List A → List Outcome
each_line test n line [] = []
each_line test n line (x ∷ l) = unless (test x) n line ∷ each_line test n (line + 1) l
