-- A row of the table from the occurrences by variable and by place, and those that cut cloth: the earlier writers of
-- what the occurrence reads, the earlier users of what it writes, where it cuts the earlier that cut, and the last
-- putters of the tokens that it took.
use mathlib.Core.Path.{◌≡◌, refl, sym, ap, ap₂, ◌∙◌}
use mathlib.Core.Bool.{Bool, true, false, cond, ◌&&◌, ◌||◌, and-true, and-false, or_comm}
use mathlib.Core.List.{List}
use Prim.Native.Nat.{ℕ, ◌+◌, ◌-◌}
use native.Mathlib.Omega.{arith}
use lib.Dec.{ltb}
use borrow.Author.Tests.{lt-ltb, ltb-true}
use lib.Bits.{bit_and, bit_or, or_zero_r}
use lib.ListN.{get_or}
use Rattle.mask.specs.Mask.{has, bit, meets, collect}
use Rattle.mask.proofs.Laws.{has-or, has-and, has-ext, has-below, has-zero, has-collect, meets-or}
use Rattle.mask.proofs.Laws.{collect-hit, collect-miss}
use Rattle.mask.proofs.Sets.{meets-comm, or-meets}
use Rattle.route.specs.Steps.{blank}
use Rattle.route.specs.declared.Step.{Step}
use Rattle.precedence.specs.Precedence.{clash, tied, puts_until, put_for, comes_after, row}
use Rattle.precedence.specs.inner.ByItem.{meeting}
use Rattle.precedence.proofs.Rows.{row-exact}

-- what each occurrence reads, what it writes, and both
abbrev pub read_by : List Step → ℕ → ℕ
read_by l j = (get_or l j blank).reads

abbrev pub written_by : List Step → ℕ → ℕ
written_by l j = (get_or l j blank).writes

abbrev pub used_by : List Step → ℕ → ℕ
used_by l j = bit_or (get_or l j blank).reads (get_or l j blank).writes

-- whether it cuts cloth
abbrev pub cut_by : List Step → ℕ → Bool
cut_by l j = (get_or l j blank).cloth

-- one clashes with the other: a write meets a read, or a use meets a write
clash-by : (a b : Step) → clash a b ≡ (meets b.writes a.reads || meets (bit_or b.reads b.writes) a.writes)
unfolding clash
clash-by a b =
    ap₂ (λ (x y : Bool). x || y) (meets-comm a.writes (bit_or b.reads b.writes))
    (meets-or b.writes a.reads a.writes)
    ∙ ap (λ (t : Bool). t || (meets b.writes a.reads || meets b.writes a.writes)) used
    ∙ table (meets b.reads a.writes) (meets b.writes a.writes) (meets b.writes a.reads)
    ∙ ap (λ (t : Bool). meets b.writes a.reads || t) (sym used)
  where
    used : meets (bit_or b.reads b.writes) a.writes
        ≡ (meets b.reads a.writes || meets b.writes a.writes)
    used = or-meets b.reads b.writes a.writes

    table : (x y z : Bool) → ((x || y) || (z || y)) ≡ (z || (x || y))
    table true y true = refl
    table true y false = refl
    table false true true = refl
    table false true false = refl
    table false false true = refl
    table false false false = refl

-- one more occurrence, where it cuts
pub cut-more : (l : List Step) (i : ℕ) (s : Step) (own cut b : ℕ) → s ≡ get_or l i blank → own ≡ bit i
    → cut ≡ collect (cut_by l) i → b ≡ cond s.cloth own 0 → bit_or cut b ≡ collect (cut_by l) (i + 1)
cut-more l i s own cut b is e inv gives = ap (bit_or cut) gives ∙ go s.cloth (ap (λ (x : Step). x.cloth) is)
  where
    go : (t : Bool) → t ≡ cut_by l i → bit_or cut (cond t own 0) ≡ collect (cut_by l) (i + 1)
    go true h = ap (bit_or cut) e ∙ collect-hit (cut_by l) i cut inv (sym h)
    go false h = or_zero_r cut ∙ collect-miss (cut_by l) i cut inv (sym h)

-- its own bit is taken off, since it has written when its sources are gathered
pub row_by :
    (l : List Step) (i : ℕ) (s : Step) (own cut a b c d : ℕ)
    → s ≡ get_or l i blank
    → own ≡ bit i
    → cut ≡ collect (cut_by l) i
    → a ≡ meeting (used_by l) s.writes i
    → b ≡ meeting (written_by l) s.reads (i + 1)
    → c ≡ cond s.cloth cut 0
    → d ≡ meeting (puts_until l i) s.ins i
    → bit_and (bit_or (bit_or (bit_or a b) c) d) (own - 1) ≡ row l i
unfolding meeting comes_after tied put_for
row_by l i s own cut a b c d is e inv p q o r =
    has-ext (bit_and (bit_or (bit_or (bit_or a b) c) d) (own - 1)) (row l i) each
  where
    first : (j : ℕ) → has a j ≡ (ltb j i && meets (used_by l j) s.writes)
    first j = ap (λ (x : ℕ). has x j) p ∙ has-collect (λ (j : ℕ). meets (used_by l j) s.writes) i j

    second : (j : ℕ) → has b j ≡ (ltb j (i + 1) && meets (written_by l j) s.reads)
    second j = ap (λ (x : ℕ). has x j) q ∙ has-collect (λ (j : ℕ). meets (written_by l j) s.reads) (i + 1) j

    third : (j : ℕ) → has c j ≡ (ltb j i && (s.cloth && cut_by l j))
    third j = ap (λ (x : ℕ). has x j) o ∙ go s.cloth
      where
        go : (t : Bool) → has (cond t cut 0) j ≡ (ltb j i && (t && cut_by l j))
        go true = ap (λ (x : ℕ). has x j) inv ∙ has-collect (cut_by l) i j
        go false = has-zero j ∙ sym (and-false (ltb j i))

    fourth : (j : ℕ) → has d j ≡ (ltb j i && meets (puts_until l i j) s.ins)
    fourth j = ap (λ (x : ℕ). has x j) r ∙ has-collect (λ (j : ℕ). meets (puts_until l i j) s.ins) i j

    earlier : (j : ℕ) → has (own - 1) j ≡ ltb j i
    earlier j = ap (λ (x : ℕ). has (x - 1) j) e ∙ has-below i j

    table : (t u x y z w : Bool) → (t ≡ true → u ≡ true)
        → (((((t && x) || (u && y)) || (t && z)) || (t && w)) && t) ≡ (t && (((y || x) || z) || w))
    table true u x y z w h = rw (h refl) (swap x y)
      where
        swap : (x y : Bool) → ((((x || y) || z) || w) && true) ≡ (((y || x) || z) || w)
        swap x y = and-true (((x || y) || z) || w) ∙ ap (λ (t : Bool). (t || z) || w) (or_comm x y)
    table false u x y z w h = and-false (((u && y) || false) || false)

    each : (j : ℕ) → has (bit_and (bit_or (bit_or (bit_or a b) c) d) (own - 1)) j ≡ has (row l i) j
    each j =
        has-and (bit_or (bit_or (bit_or a b) c) d) (own - 1) j
        ∙ ap₂ (λ (x y : Bool). x && y)
        (has-or (bit_or (bit_or a b) c) d j ∙ ap₂ (λ (x y : Bool). x || y)
        (has-or (bit_or a b) c j ∙ ap₂ (λ (x y : Bool). x || y)
        (has-or a b j ∙ ap₂ (λ (x y : Bool). x || y) (first j) (second j)) (third j)) (fourth j)) (earlier j)
        ∙ table (ltb j i) (ltb j (i + 1)) (meets (used_by l j) s.writes) (meets (written_by l j) s.reads)
        (s.cloth && cut_by l j) (meets (puts_until l i j) s.ins) (λ h. lt-ltb j (i + 1) (omega (arith, ltb-true j i h)))
        ∙ ap₂ (λ (t u : Bool). ltb j i && ((t || (s.cloth && cut_by l j)) || u)) (sym (clash-by s (get_or l j blank)))
        (meets-comm (puts_until l i j) s.ins)
        ∙ ap (λ (x : Step). ltb j i && (tied x (get_or l j blank) || meets x.ins (puts_until l i j))) is
        ∙ sym (row-exact l i j)
