-- What reading into lists answers on each of its ways, by the tests that it made; and what `read_counted` promises.
use mathlib.Core.Path.{◌≡◌, refl, sym, ap, ap₂, ◌∙◌}
use mathlib.Core.Bool.{true, false}
use mathlib.Core.List.{List}
use Prim.Native.Nat.{ℕ, ◌≤◌, ◌<◌}
use native.Mathlib.Omega.{arith}
use lib.Dec.{eqb, leb}
use lib.ListN.{take}
use borrow.Author.Tests.{lt-leb, le-leb, eq-eqb}
use Rattle.std.specs.Prelude.{Ok, Err}
use Rattle.refusal.specs.Rows.{unless, first}
use Rattle.refusal.specs.Refusal.{number_of}
use Rattle.refusal.specs.declared.Refusal.{Refusal}
use Rattle.refusal.proofs.Answered.{number-some}
use Rattle.facts.specs.Facts.{read_of}
use Rattle.facts.specs.declared.Sheet.{Sheet}
use Rattle.reader.specs.inner.Read.{ReadTo}
use Rattle.reader.specs.declared.Lengths.{Lengths}
use Rattle.lent_reading.specs.Reading.{read_row, counts, counted}
use Rattle.reader.specs.Refused.{no_counts, counts_of}
use Rattle.lent_reading.specs.inner.Counted.{Counted}

-- where it reads, and the lists are long enough
pub count-all : (s : Sheet) (a b d : ℕ) → s.number ≡ 0 → s.old.len ≤ a → s.new.len ≤ b → s.done_len ≤ d
    → record {
      number = 0;
      second = 0;
      old_places = s.old.places;
      old_len = s.old.len;
      new_places = s.new.places;
      new_len = s.new.len;
      done_len = s.done_len;
    } ≡ counted s a b d
unfolding counted counts read_row first unless
count-all s a b d t h h' h'' = rw (
  eq-eqb s.number 0 t,
  le-leb s.old.len a h,
  le-leb s.new.len b h',
  le-leb s.done_len d h'',
)

-- ---- what `read_counted` promises, on each of its ways: t is what it was told of the numbers

module _ (s a b d : List ℕ) (x y z : ℕ) where
  pub told-refused : (e : Refusal) → ReadTo s (counts_of (Err e)) a b d
      → no_counts (number_of e.row) e.second ≡ counted (read_of s) x y z
  unfolding counted counts read_row first
  told-refused e t =
      let test : eqb (read_of s).number 0 ≡ false = ap (λ (n : ℕ). eqb n 0) (sym t.number) ∙ number-some e.row in
      rw (test, test) (ap₂ no_counts t.number t.second)

  module _ (l : Lengths) (t : ReadTo s (counts_of (Ok l)) a b d) where
    reads : eqb (read_of s).number 0 ≡ true
    reads = ap (λ (n : ℕ). eqb n 0) (sym t.number)

    pub told-old : x < l.old_len → no_counts 15 l.old_len ≡ counted (read_of s) x y z
    unfolding counted counts read_row first unless
    told-old h = rw (reads, lt-leb (read_of s).old.len x (omega (arith, t.old-len))) (ap (no_counts 15) t.old-len)

    module _ (fits : l.old_len ≤ x) where
      old_row : leb (read_of s).old.len x ≡ true
      old_row = le-leb _ x (omega (arith, t.old-len))

      pub told-new : y < l.new_len → no_counts 15 l.new_len ≡ counted (read_of s) x y z
      unfolding counted counts read_row first unless
      told-new h = rw (reads, old_row, lt-leb (read_of s).new.len y (omega (arith, t.new-len)))
          (ap (no_counts 15) t.new-len)

      pub told-done : l.new_len ≤ y → z < l.done_len → no_counts 15 l.done_len ≡ counted (read_of s) x y z
      unfolding counted counts read_row first unless
      told-done h h' = rw (
        reads,
        old_row,
        le-leb (read_of s).new.len y (omega (arith, t.new-len)),
        lt-leb (read_of s).done_len z (omega (arith, t.done-len)),
      ) (ap (no_counts 15) t.done-len)

      pub told-all : l.new_len ≤ y → l.done_len ≤ z → counts_of (Ok l) ≡ counted (read_of s) x y z
      told-all h h' = (λ i. record {
        number = 0;
        second = 0;
        old_places = t.old-places i;
        old_len = t.old-len i;
        new_places = t.new-places i;
        new_len = t.new-len i;
        done_len = t.done-len i;
      }) ∙ count-all (read_of s) x y z (sym t.number) (omega (arith, t.old-len)) (omega (arith, t.new-len))
          (omega (arith, t.done-len))

      pub told-lists : l.new_len ≤ y → l.done_len ≤ z → Counted s x y z l a b d
      told-lists h h' = record {
        old-fits = (t.old-few, fits);
        new-fits = (t.new-few, h);
        done-fits = (t.done-few, h');
        old-steps = ap (take l.old_len) (t.old-steps refl);
        new-steps = ap (take l.new_len) (t.new-steps refl);
        done-names = ap (take l.done_len) (t.done-names refl);
      }
