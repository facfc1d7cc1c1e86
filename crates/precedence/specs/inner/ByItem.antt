-- Occurrences by item, which is a variable or a place: what a mask of items for each occurrence is, read the other way
-- round.
use Rattle.std.specs.Prelude.{◌≡◌, List, ℕ, ◌+◌, ◌<◌, length, get_or}
use Rattle.mask.specs.Mask.{has, bit, meets, collect}
use Rattle.route.specs.Steps.{blank}
use Rattle.route.specs.declared.Step.{Step}
use Rattle.precedence.specs.Precedence.{puts_until}

-- the entry at each item below the width holds the occurrences below n whose mask f has the item
pub record ByItem (width : ℕ) (f : ℕ → ℕ) (n : ℕ) (by : List ℕ) : Type 0 where
  pub room : length by ≡ width
  pub entry : (v : ℕ) → v < width → get_or by v 0 ≡ collect (λ (j : ℕ). has (f j) v) n

-- the occurrences below n whose mask f has one of the items
unfoldable pub meeting : (ℕ → ℕ) → ℕ → ℕ → ℕ
meeting f items n = collect (λ (j : ℕ). meets (f j) items) n

-- the entries at the items, taken together
pub record Gathers (width : ℕ) (by : List ℕ) (items r : ℕ) : Type 0 where
  pub union : (f : ℕ → ℕ) (n : ℕ) → ByItem width f n by → r ≡ meeting f items n

-- one more occurrence, `own`, at each of the items
pub record Joins (width : ℕ) (by : List ℕ) (items own : ℕ) (by' : List ℕ) : Type 0 where
  pub more : (f : ℕ → ℕ) (n : ℕ) → ByItem width f n by → items ≡ f n → own ≡ bit n → ByItem width f (n + 1) by'

-- one more occurrence, `own`, is the last putter of each of the places
pub record Puts (by : List ℕ) (places own : ℕ) (by' : List ℕ) : Type 0 where
  pub more : (l : List Step) (n : ℕ) → ByItem 64 (puts_until l n) n by → places ≡ (get_or l n blank).outs
      → own ≡ bit n → ByItem 64 (puts_until l (n + 1)) (n + 1) by'
