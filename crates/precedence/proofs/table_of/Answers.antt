-- `precedence::table_of`: the rows so far are filled, and the readers and writers of each variable, the last putter of
-- each place, and those that cut cloth, are those of the occurrences so far.
use mathlib.Core.Path.{◌≡◌, refl, ap, ◌∙◌}
use mathlib.Core.Bool.{cond}
use mathlib.Core.List.{List}
use Prim.Native.Nat.{ℕ, ◌+◌, ◌-◌, ◌≤◌, ◌<◌}
use native.Mathlib.Omega.{arith}
use borrow.Author.Rules.{rules}
use lib.Bits.{bit_and, bit_or}
use lib.ListN.{length, get_or, set}
use Rattle.mask.specs.Mask.{bit, collect}
use Rattle.route.specs.Steps.{blank}
use Rattle.flat.specs.Flat.{steps_in}
use Rattle.flat.proofs.InTurn.{turn-on, turn-at, turn-inside, turns-done, turns-init}
use Rattle.route.specs.declared.Step.{Step}
use Rattle.precedence.specs.Precedence.{puts_until, row}
use Rattle.precedence.specs.Table.{table}
use Rattle.precedence.specs.inner.ByItem.{ByItem, meeting, Gathers, Joins, Puts}
use Rattle.precedence.proofs.ByItem.{by-none, meeting-or}
use Rattle.precedence.proofs.Filled.{Filled, filled_none, filled_more, filled-all}
use Rattle.precedence.proofs.Rows.{row-past}
use Rattle.precedence.proofs.RowByItem.{read_by, written_by, cut_by, cut-more, row_by}
use Rattle.precedence.proofs.table_of.Goals as goal

abbrev GathersBoth : List ℕ → List ℕ → ℕ → ℕ → Type 0
GathersBoth by by' vars m = (f g : ℕ → ℕ) (n : ℕ) → ByItem 32 f n by → ByItem 32 g n by'
    → m ≡ bit_or (meeting f vars n) (meeting g vars n)

-- an occurrence's row and entries

module _ (l : List Step) (i : ℕ) (s : Step) (is : s ≡ get_or l i blank) where
  writers-more : (by by' : List ℕ) (own : ℕ) → own ≡ bit i → ByItem 32 (written_by l) i by
      → Joins 32 by s.writes own by' → ByItem 32 (written_by l) (i + 1) by'
  writers-more by by' own e h j = j.more (written_by l) i h (ap (λ (x : Step). x.writes) is) e

  readers-more : (by by' : List ℕ) (own : ℕ) → own ≡ bit i → ByItem 32 (read_by l) i by
      → Joins 32 by s.reads own by' → ByItem 32 (read_by l) (i + 1) by'
  readers-more by by' own e h j = j.more (read_by l) i h (ap (λ (x : Step). x.reads) is) e

  putters-more : (by by' : List ℕ) (own : ℕ) → own ≡ bit i → ByItem 64 (puts_until l i) i by → Puts by s.outs own by'
      → ByItem 64 (puts_until l (i + 1)) (i + 1) by'
  putters-more by by' own e h j = j.more l i h (ap (λ (x : Step). x.outs) is) e

  row_more :
      (own cut : ℕ) (rows readers writers writers' putters : List ℕ) (a b c d : ℕ)
      → length l ≤ 64
      → i < length l
      → Filled (row l) i rows
      → length rows ≡ 64
      → own ≡ bit i
      → cut ≡ collect (cut_by l) i
      → ByItem 32 (read_by l) i readers
      → ByItem 32 (written_by l) i writers
      → ByItem 64 (puts_until l i) i putters
      → Joins 32 writers s.writes own writers'
      → GathersBoth readers writers s.writes a
      → Gathers 32 writers' s.reads b
      → c ≡ cond s.cloth cut 0
      → Gathers 64 putters s.ins d
      → Filled (row l) (i + 1) (set rows i (bit_and (bit_or (bit_or (bit_or a b) c) d) (own - 1)))
  row_more own cut rows readers writers writers' putters a b c d short h filled room e so r w t j p q o g =
      filled_more (row l) i (bit_and (bit_or (bit_or (bit_or a b) c) d) (own - 1)) rows filled (omega arith)
      (row_by l i s own cut a b c d is e so
      (p (read_by l) (written_by l) i r w ∙ meeting-or (read_by l) (written_by l) s.writes i)
      (q.union (written_by l) (i + 1) (writers-more writers writers' own e w j)) o
      (g.union (puts_until l i) i t))

all-rows : (l : List Step) (i : ℕ) (rows : List ℕ) → i ≡ length l → length rows ≡ 64 → Filled (row l) i rows
    → rows ≡ table l
unfolding table
all-rows l i rows past room filled = filled-all (row l) i 64 rows room filled (λ k h. row-past l k (omega arith))

none-cut : (l : List Step) → 0 ≡ collect (cut_by l) 0
unfolding collect
none-cut l = refl

pub loop-i-init : goal.loop-i-init
loop-i-init c =
    let start : c.into_iter-i-iterator.result.count ≡ 0 = search rules in
    rw start (
      search (rules, turns-init),
      (
        refl,
        (filled_none _ 64, (by-none 32 _, (by-none 32 _, (by-none 64 _, none-cut (steps_in _))))),
      ),
    )

pub loop-i-preserved : goal.loop-i-preserved
loop-i-preserved c =
    let (next, at, on, _) = c.in-Some.ensures.steps in
    let own : c.bit-own.result ≡ bit c.loop-i.i-iterator.count = c.bit-own.ensures ∙ ap bit at in
    let (turns, (room, (filled, (writers, (readers, (putters, cut)))))) = c.loop-i.invariant in
    let is = turn-at turns next in
    let users = c.after_writes-users.ensures in
    let sources = c.after_reads-sources.ensures in
    let from = c.after_takes-from.ensures in
    rw (on, at) (
      search (rules, turn-on),
      (
        search rules,
        (
          row_more _ _ _ is _ _ _ _ _ _ _ _ _ _ _ c.requires
              (turn-inside turns next) filled room own cut readers writers
              putters users.joins users.by_index sources.gathers c.only-cuts.ensures from.gathers,
          (
            search (rules, writers-more, turn-at),
            (
              readers-more _ _ _ is _ _ _ own readers sources.joins,
              (putters-more _ _ _ is _ _ _ own putters from.puts, cut-more _ _ _ _ _ _ is own cut c.only-cut.ensures),
            ),
          ),
        ),
      ),
    )

pub returns : goal.returns
returns c =
    let (turns, (room, (filled, _))) = c.loop-i.invariant in
    all-rows _ _ _ (turns-done turns c.in-None.ensures.steps.0.0) room filled
