-- The sweep finds exactly what 01 and 02 keep. Sound: the last writer of a live item is kept, since by going on to the
-- end one comes to a kept reader of that item or, at the end, to the new route. Complete: what the new route or a kept
-- occurrence reads stays live back to its last writer.
use mathlib.Core.Path.{◌≡◌, refl, sym, ap, ◌∙◌}
use mathlib.Core.Logic.{◌↔◌, ⊎_elim}
use mathlib.Core.Bool.{Bool, true, false}
use mathlib.Core.List.{List}
use Prim.Native.Nat.{ℕ, zero, suc, ◌+◌, ◌-◌, ◌≤◌, ◌<◌}
use native.Mathlib.Omega.{arith}
use native.Mathlib.Decide.{dec_lt}
use lib.ListN.{length, get_or}
use Rattle.mask.specs.Mask.{has}
use Rattle.mask.proofs.Laws.{has-zero}
use Rattle.route.specs.Steps.{blank}
use Rattle.route.specs.declared.Step.{Step}
use Rattle.slice.specs.Slice.{Item, variable, token, makes, reads_at, writes_at, cuts_at, LastWriter}
use Rattle.slice.specs.Slice.{Kept, final, cut, needed, kept_mask}
use Rattle.slice.proofs.Sweep.{live_at, written_below, live_end, none-taken, live-stays, live-read, live-cases}
use Rattle.slice.proofs.Sweep.{kept_writer, cut-kept, kept-cases}

-- a writer is the last one before the next position, and stays the last one where the next position does not write
own-last : (l : List Step) (i : ℕ) (x : Item) → writes_at l i x ≡ true → LastWriter l (suc i) x i
own-last l i x w = record { earlier = omega arith; writer = w; last = λ k a b. absurd (omega arith) }

pub still-last : (l : List Step) (i : ℕ) (x : Item) (j : ℕ) → writes_at l i x ≡ false → LastWriter l i x j
    → LastWriter l (suc i) x j
still-last l i x j w p = record { earlier = omega arith; writer = p.writer; last = λ k a b. go k a b (dec_lt k i) }
  where
    go : (k : ℕ) → j < k → k < suc i → Dec (k < i) → writes_at l k x ≡ false
    go k a b (yes h) = p.last k a h
    go k a b (no h) = let here : k ≡ i = omega arith in rw here w

module _ (l : List Step) (vars : ℕ) where
  -- n bounds how far the end is
  live-source : (n i : ℕ) (x : Item) (j : ℕ) → length l ≤ i + n → live_at l vars i x ≡ true → LastWriter l i x j
      → Kept l vars j
  live-source zero i (variable v) j end h p = final v (sym (live_end l vars i v (omega arith)) ∙ h)
      (record {
        earlier = written_below l j (variable v) p.writer;
        writer = p.writer;
        last = λ k a b. p.last k a (omega arith);
      })
  live-source zero i (token q) j end h p =
      absurd (let z : false ≡ true = sym (none-taken l vars i q (omega arith)) ∙ h in cc)
  live-source (suc n) i x j end h p =
      ⊎_elim
      (λ s. live-source n (suc i) x j (omega arith) s.0 (still-last l i x j s.1 p))
      (λ r. needed
      (⊎_elim cut (λ s. live-source n (suc i) s.0 i (omega arith) s.2 (own-last l i s.0 s.1))
      (kept-cases l vars i r.0))
      (record { item = x; reader = r.1; source = p }))
      (live-cases l vars i x h)

  pub kept-sound : (i : ℕ) → has (kept_mask l vars) i ≡ true → Kept l vars i
  kept-sound i h =
      ⊎_elim cut
      (λ s. live-source (length l) (suc i) s.0 i (omega arith) s.2 (own-last l i s.0 s.1))
      (kept-cases l vars i h)

  -- d is how far back the writer is
  live_back : (d i n : ℕ) (x : Item) → i + d ≡ n → live_at l vars n x ≡ true
      → ((k : ℕ) → i ≤ k → k < n → writes_at l k x ≡ false) → live_at l vars i x ≡ true
  live_back zero i n x e h s = let here : i ≡ n = omega arith in rw here h
  live_back (suc d) i n x e h s = live-stays l vars i x
      (live_back d (suc i) n x (omega arith) h (λ k a b. s k (omega arith) b)) (s i (omega arith) (omega arith))

  source-kept : (n : ℕ) (x : Item) (j : ℕ) → live_at l vars n x ≡ true → LastWriter l n x j
      → has (kept_mask l vars) j ≡ true
  source-kept n x j h p = let near : j < n = p.earlier in kept_writer l vars j x p.writer
      (live_back (n - suc j) (suc j) n x (omega arith) h p.last)

  pub kept-complete : (i : ℕ) → Kept l vars i → has (kept_mask l vars) i ≡ true
  kept-complete i (final v h p) = source-kept (length l) (variable v) i
      (live_end l vars (length l) v (omega arith) ∙ h) p
  kept-complete i (cut h) = cut-kept l vars i h
  kept-complete i (needed {i = k} r p) = source-kept k p.item i
      (live-read l vars k p.item (kept-complete k r) p.reader) p.source

pub kept-iff : (l : List Step) (vars i : ℕ) → (has (kept_mask l vars) i ≡ true) ↔ Kept l vars i
kept-iff l vars i = (kept-sound l vars i, kept-complete l vars i)

-- an unmarked occurrence that writes nothing, and puts no token that a kept one took, is never kept
pub silent-not-kept : (l : List Step) (vars i : ℕ) → cuts_at l i ≡ false → (get_or l i blank).writes ≡ 0
    → ((k p : ℕ) → has (kept_mask l vars) k ≡ true → reads_at l k (token p) ≡ true → LastWriter l k (token p) i → ⊥)
    → has (kept_mask l vars) i ≡ false
unfolding writes_at makes
silent-not-kept l vars i unmarked silent none = go (has (kept_mask l vars) i) refl
  where
    unwritten : (v : ℕ) → writes_at l i (variable v) ≡ true → ⊥
    unwritten v w = let z : false ≡ true = sym (has-zero v) ∙ ap (λ (m : ℕ). has m v) (sym silent) ∙ w in cc

    needless : (k : ℕ) → Kept l vars k → (x : Item) → reads_at l k x ≡ true → LastWriter l k x i → ⊥
    needless k r (variable v) a p = unwritten v p.writer
    needless k r (token q) a p = none k q (kept-complete l vars k r) a p

    why : Kept l vars i → ⊥
    why (final v h p) = unwritten v p.writer
    why (cut h) = let z : false ≡ true = sym unmarked ∙ h in cc
    why (needed {i = k} r n) = needless k r n.item n.reader n.source

    go : (t : Bool) → has (kept_mask l vars) i ≡ t → t ≡ false
    go true h = absurd (why (kept-sound l vars i h))
    go false h = refl
