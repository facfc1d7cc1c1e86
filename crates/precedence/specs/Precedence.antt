-- Precedence: which occurrence must not be put before which. `l` is the list of the occurrences: the ins of each are
-- the shared places that it took from, its outs those that it put a token on.
use Rattle.std.specs.Prelude.{Bool, ◌&&◌, ◌||◌, List, ℕ, suc, ◌-◌, ltb, take, drop, get_or}
use Rattle.std.specs.Int.Bits.{bit_or}
use Rattle.mask.specs.Mask.{without, meets, collect}
use Rattle.route.specs.Steps.{blank, union}
use Rattle.route.specs.declared.Step.{Step}

-- "one writes a variable that the other reads or writes"
unfoldable pub clash : Step → Step → Bool
clash a b = meets a.writes (bit_or b.reads b.writes) || meets b.writes (bit_or a.reads a.writes)

-- two occurrences that keep their order: they clash, or both cut cloth
unfoldable pub tied : Step → Step → Bool
tied a b = clash a b || (a.cloth && b.cloth)

-- the places where the occurrence at j put a token, and none between it and i did
unfoldable pub puts_until : List Step → ℕ → ℕ → ℕ
puts_until l i j = without (get_or l j blank).outs (union (λ (s : Step). s.outs) (take (i - suc j) (drop (suc j) l)))

-- 02: of the tokens that the occurrence at i took, the one at j "put the token there"
unfoldable pub put_for : List Step → ℕ → ℕ → Bool
put_for l i j = meets (get_or l i blank).ins (puts_until l i j)

-- "Of two occurrences, the later comes after the earlier when one writes a variable that the other reads or writes."
-- 02: "of two cloth occurrences the later comes after the earlier", and an occurrence that took a token "comes after"
-- the one that put it
unfoldable pub comes_after : List Step → ℕ → ℕ → Bool
comes_after l i j = ltb j i && (tied (get_or l i blank) (get_or l j blank) || put_for l i j)

-- a row of the table: all occurrences that the one at i comes after
unfoldable pub row : List Step → ℕ → ℕ
row l i = collect (comes_after l i) i
