-- Loops over the items of a mask in turn: the union of the entries there, and one more occurrence at each.
use mathlib.Core.Path.{◌≡◌, refl, sym, ap, ap₂, ◌∙◌}
use mathlib.Core.Bool.{Bool, true, false, not, cond, ◌&&◌, ◌||◌, or-false, and-false, and-or_distrib_left}
use mathlib.Core.List.{List}
use Prim.Native.Nat.{ℕ, ◌+◌, ◌<◌}
use lib.Dec.{eqb, ltb}
use lib.Bits.{bit_and, bit_or, and_zero_r}
use lib.ListN.{length, get_or, replicate, length-replicate}
use Rattle.mask.specs.Mask.{has, bit, meets, collect}
use Rattle.mask.specs.Members.{Takes}
use Rattle.mask.proofs.Laws.{has-or, has-zero, has-ext, has-collect, collect-hit, collect-miss}
use Rattle.mask.proofs.Lowest.{meets-less}
use Rattle.mask.proofs.Sets.{or-meets}
use Rattle.precedence.specs.inner.ByItem.{ByItem, meeting, Gathers, Joins}
use Rattle.precedence.proofs.Changing.{Joining, Untouched, changed}
use Rattle.precedence.proofs.Filled.{zeros-at}

-- what is gathered so far, and the entries at the items that are left
pub record Gathering (width : ℕ) (by : List ℕ) (items left m : ℕ) : Type 0 where
  pub union : (f : ℕ → ℕ) (n : ℕ) → ByItem width f n by → (j : ℕ)
      → (has m j || (ltb j n && meets (f j) left)) ≡ (ltb j n && meets (f j) items)

-- at first all are left
module _ (items left : ℕ) (all : left ≡ items) where
  pub gathering-init : (width : ℕ) (by : List ℕ) → Gathering width by items left 0
  gathering-init width by =
      rw all record { union = λ f n is j. ap (λ (t : Bool). t || (ltb j n && meets (f j) items)) (has-zero j) }

pub gathering-done : (width : ℕ) (by : List ℕ) (items left m : ℕ) → left ≡ 0 → Gathering width by items left m
    → Gathers width by items m
unfolding meeting
gathering-done width by items left m e inv =
    record {
      union = λ f n is. has-ext m (meeting f items n)
          (λ j. sym (none f n j) ∙ inv.union f n is j ∙ sym (has-collect (λ (j : ℕ). meets (f j) items) n j));
    }
  where
    none : (f : ℕ → ℕ) (n j : ℕ) → (has m j || (ltb j n && meets (f j) left)) ≡ has m j
    none f n j =
        let apart : meets (f j) left ≡ false = ap (λ (x : ℕ). not (eqb x 0)) (ap (bit_and (f j)) e
        ∙ and_zero_r (f j)) in
        simp (apart, and-false, or-false)

pub meeting-or : (f g : ℕ → ℕ) (items n : ℕ) → bit_or (meeting f items n) (meeting g items n)
    ≡ meeting (λ (j : ℕ). bit_or (f j) (g j)) items n
unfolding meeting
meeting-or f g items n = has-ext (bit_or (meeting f items n) (meeting g items n))
    (meeting (λ (j : ℕ). bit_or (f j) (g j)) items n) each
  where
    each : (j : ℕ) → has (bit_or (meeting f items n) (meeting g items n)) j
        ≡ has (meeting (λ (j : ℕ). bit_or (f j) (g j)) items n) j
    each j =
        has-or (meeting f items n) (meeting g items n) j
        ∙ ap₂ (λ (x y : Bool). x || y) (has-collect (λ (j : ℕ). meets (f j) items) n j)
        (has-collect (λ (j : ℕ). meets (g j) items) n j)
        ∙ sym (and-or_distrib_left (ltb j n) (meets (f j) items) (meets (g j) items))
        ∙ ap (λ (t : Bool). ltb j n && t) (sym (or-meets (f j) (g j) items))
        ∙ sym (has-collect (λ (j : ℕ). meets (bit_or (f j) (g j)) items) n j)

pub gathering-both :
    (by by' : List ℕ) (items left a b r : ℕ)
    → left ≡ 0
    → Gathering 32 by items left a
    → Gathering 32 by' items left b
    → r ≡ bit_or a b
    → (f g : ℕ → ℕ) (n : ℕ)
    → ByItem 32 f n by
    → ByItem 32 g n by'
    → r ≡ bit_or (meeting f items n) (meeting g items n)
gathering-both by by' items left a b r e p q is f g n x y =
    is ∙ ap₂ bit_or ((gathering-done 32 by items left a e p).union f n x)
    ((gathering-done 32 by' items left b e q).union g n y)

-- the item k is taken of those that are left
module _ (width left k left' : ℕ) (took : Takes width left k left') where
  pub gathering-step : (by : List ℕ) (items m : ℕ) → Gathering width by items left m
      → Gathering width by items left' (bit_or m (get_or by k 0))
  gathering-step by items m inv = record { union = each }
    where
      here : (f : ℕ → ℕ) (n : ℕ) → ByItem width f n by → (j : ℕ) → has (get_or by k 0) j ≡ (ltb j n && has (f j) k)
      here f n is j = ap (λ (x : ℕ). has x j) (is.entry k took.low) ∙ has-collect (λ (j : ℕ). has (f j) k) n j

      table : (a t x y : Bool) → ((a || (t && x)) || (t && y)) ≡ (a || (t && (x || y)))
      table true t x y = refl
      table false true x y = refl
      table false false x y = refl

      each : (f : ℕ → ℕ) (n : ℕ) → ByItem width f n by → (j : ℕ)
          → (has (bit_or m (get_or by k 0)) j || (ltb j n && meets (f j) left')) ≡ (ltb j n && meets (f j) items)
      each f n is j =
          ap (λ (t : Bool). t || (ltb j n && meets (f j) left'))
          (has-or m (get_or by k 0) j ∙ ap (λ (t : Bool). has m j || t) (here f n is j))
          ∙ table (has m j) (ltb j n) (has (f j) k) (meets (f j) left')
          ∙ ap (λ (t : Bool). has m j || (ltb j n && t)) (sym (meets-less (f j) left left' k took.held took.rest))
          ∙ inv.union f n is j

  -- where the entries are joined as they are gathered, those at the items that are left are as they were
  pub gathering-joined : (by₀ by : List ℕ) (items m : ℕ) → Untouched left by₀ by → Gathering width by₀ items left m
      → Gathering width by₀ items left' (bit_or m (get_or by k 0))
  gathering-joined by₀ by items m same inv = rw (same k took.held) (gathering-step by₀ items m inv)

-- one more occurrence joins the entries at the items of its mask
pub joining-done :
    (width : ℕ) (by₀ by : List ℕ) (items own left : ℕ)
    → length by ≡ length by₀
    → left ≡ 0
    → Joining width by₀ items own left by
    → Joins width by₀ items own by
joining-done width by₀ by items own left same e inv = record { more = more }
  where
    more : (f : ℕ → ℕ) (n : ℕ) → ByItem width f n by₀ → items ≡ f n → own ≡ bit n → ByItem width f (n + 1) by
    more f n is all one =
        record {
          room = same ∙ is.room;
          entry = λ v b.
              changed width (λ (x : ℕ). bit_or x own) by₀ by items left e is.room inv v b ∙ go v b (has items v) refl;
        }
      where
        go : (v : ℕ) → v < width → (t : Bool) → has items v ≡ t
            → cond t (bit_or (get_or by₀ v 0) own) (get_or by₀ v 0) ≡ collect (λ (j : ℕ). has (f j) v) (n + 1)
        go v b true h = ap (bit_or (get_or by₀ v 0)) one
            ∙ collect-hit (λ (j : ℕ). has (f j) v) n (get_or by₀ v 0) (is.entry v b) (ap (λ (x : ℕ). has x v)
            (sym all) ∙ h)
        go v b false h = collect-miss (λ (j : ℕ). has (f j) v) n (get_or by₀ v 0) (is.entry v b)
            (ap (λ (x : ℕ). has x v) (sym all) ∙ h)

-- before the first occurrence
pub by-none : (width : ℕ) (f : ℕ → ℕ) → ByItem width f 0 (replicate width 0)
unfolding collect
by-none width f = record { room = length-replicate width 0; entry = λ v b. zeros-at width v }
