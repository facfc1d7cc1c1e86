-- The sweep, one position at a time. A position past the end holds a blank step, which writes nothing, so that the same
-- step holds at every position and no law here asks for a bound. The laws on `live_at` are all that the proofs above
-- this one need.
use mathlib.Core.Path.{◌≡◌, refl, sym, ap, ap₂, ◌∙◌}
use mathlib.Core.Logic.{◌⊎◌, inl, inr, ⊎_elim}
use mathlib.Core.Bool.{Bool, true, false, not, cond, ◌&&◌, ◌||◌, or-false, or-true, and-true, and-false}
use mathlib.Core.List.{List, [], ◌∷◌}
use Prim.Native.Nat.{ℕ, zero, suc, ◌≤◌, ◌<◌}
use native.Mathlib.Omega.{arith}
use native.Mathlib.Decide.{dec_lt}
use lib.Dec.{eqb}
use lib.ListN.{length, get_or, drop, drop_of_length-le, get_or-eq_default}
use lib.Seq.{drop-cons}
use lib.Bits.{bit_or}
use borrow.Author.Tests.{eq-eqb, ne_eqb}
use Rattle.mask.specs.Mask.{has, bit, without, meets}
use Rattle.mask.proofs.Laws.{has-or, has-without, has-bit, has-zero, meets-some, meets-none}
use Rattle.mask.proofs.Truth.{both}
use Rattle.route.specs.Steps.{blank}
use Rattle.route.specs.declared.Step.{Step}
use Rattle.slice.specs.Slice.{Item, variable, token, wants, makes, reads_at, writes_at, cuts_at, Sweep, keeps}
use Rattle.slice.specs.Slice.{sweep_step, sweep, kept_mask}

-- the sweep from position i on
abbrev pub sweep_from : List Step → ℕ → ℕ → Sweep
sweep_from l vars i = sweep vars i (drop i l)

-- an item is live
is_live : Sweep → Item → Bool
is_live w (variable v) = has w.live v
is_live w (token p) = has w.tokens p

-- an item is live before position i
pub live_at : List Step → ℕ → ℕ → Item → Bool
live_at l vars i x = is_live (sweep_from l vars i) x

-- past the end nothing is written and nothing is cut
blank-past : (l : List Step) (i : ℕ) → length l ≤ i → get_or l i blank ≡ blank
blank-past l i h = get_or-eq_default l blank h

blank-makes : (x : Item) → makes blank x ≡ false
unfolding makes
blank-makes (variable v) = has-zero v
blank-makes (token p) = has-zero p

-- what a blank step doesn't have, only occurrences have
below : (P : Step → Bool) → P blank ≡ false → (l : List Step) (i : ℕ) → P (get_or l i blank) ≡ true → i < length l
below P none l i w = go (dec_lt i (length l))
  where
    go : Dec (i < length l) → i < length l
    go (yes h) = h
    go (no h) =
        let z : ◌≡◌ {A = ℕ} 0 1 = cc (none, w, ap P (blank-past l i (omega arith))) in
        absurd (omega arith)

pub written_below : (l : List Step) (i : ℕ) (x : Item) → writes_at l i x ≡ true → i < length l
unfolding writes_at
written_below l i x w = below (λ s. makes s x) (blank-makes x) l i w

cut_below : (l : List Step) (i : ℕ) → cuts_at l i ≡ true → i < length l
unfolding cuts_at
cut_below l i w = below (λ s. s.cloth) refl l i w

pub sweep-end : (l : List Step) (vars i : ℕ) → length l ≤ i
    → sweep_from l vars i ≡ record { live = vars; tokens = 0; kept = 0 }
unfolding sweep
sweep-end l vars i h = ap (λ (k : List Step). sweep vars i k) (drop_of_length-le l h)

pub sweep-on : (l : List Step) (vars i : ℕ) → sweep_from l vars i
    ≡ sweep_step i (get_or l i blank) (sweep_from l vars (suc i))
unfolding sweep
sweep-on l vars i = go (dec_lt i (length l))
  where
    still : (w : Sweep) → sweep_step i blank w ≡ w
    still w = unfold sweep_step keeps in refl

    go : Dec (i < length l) → sweep_from l vars i ≡ sweep_step i (get_or l i blank) (sweep_from l vars (suc i))
    go (yes h) = ap (λ (k : List Step). sweep vars i k) (drop-cons l i blank h)
    go (no h) =
        let past : length l ≤ i = omega arith in
        sweep-end l vars i past ∙ sym (sweep-end l vars (suc i) (omega arith)) ∙ sym (still (sweep_from l vars (suc i)))
        ∙ ap (λ (s : Step). sweep_step i s (sweep_from l vars (suc i))) (sym (blank-past l i past))

-- what a kept step makes of the sweep
abbrev taken : ℕ → Step → Sweep → Sweep
taken i s w =
    record {
      live = bit_or (without w.live s.writes) s.reads;
      tokens = bit_or (without w.tokens s.outs) s.ins;
      kept = bit_or w.kept (bit i);
    }

-- one step of the sweep: the kept, and the live
kept_step : (i k : ℕ) (s : Step) (w : Sweep) → has (sweep_step i s w).kept k
    ≡ (has w.kept k || (keeps s w && eqb k i))
unfolding sweep_step
kept_step i k s w = go (keeps s w)
  where
    go : (t : Bool) → has (cond t (taken i s w) w).kept k ≡ (has w.kept k || (t && eqb k i))
    go true = has-or w.kept (bit i) k ∙ ap (λ (t : Bool). has w.kept k || t) (has-bit i k)
    go false = sym (or-false (has w.kept k))

-- what is not kept makes nothing that is live, so what makes something live is kept
spares : (s : Step) (w : Sweep) (x : Item) → keeps s w ≡ false → (makes s x && is_live w x) ≡ false
unfolding keeps makes is_live
spares s w x e = of x (none s.cloth (meets s.writes w.live) (meets s.outs w.tokens) e)
  where
    none : (c m n : Bool) → (c || (m || n)) ≡ false → (m ≡ false) × (n ≡ false)
    none false false n e = (refl, e)
    none false true n e = cc
    none true m n e = cc

    of : (x : Item) → (meets s.writes w.live ≡ false) × (meets s.outs w.tokens ≡ false)
        → (makes s x && is_live w x) ≡ false
    of (variable v) h = meets-none s.writes w.live h.0 v
    of (token p) h = meets-none s.outs w.tokens h.1 p

kept_for : (s : Step) (w : Sweep) (x : Item) → makes s x ≡ true → is_live w x ≡ true → keeps s w ≡ true
kept_for s w x m h = go (keeps s w) refl
  where
    go : (t : Bool) → keeps s w ≡ t → t ≡ true
    go true e = refl
    go false e = sym (spares s w x e) ∙ ap₂ (λ (a b : Bool). a && b) m h

-- why something is kept
why : (s : Step) (w : Sweep) → keeps s w ≡ true
    → (s.cloth ≡ true) ⊎ ((x : Item) × (makes s x ≡ true) × (is_live w x ≡ true))
unfolding keeps makes is_live
why s w e = go s.cloth (meets s.writes w.live) refl e
  where
    go : (c m : Bool) → meets s.writes w.live ≡ m → (c || (m || meets s.outs w.tokens)) ≡ true
        → (c ≡ true) ⊎ ((x : Item) × (makes s x ≡ true) × (is_live w x ≡ true))
    go true m h e = inl refl
    go false true h e = let (v, a, b) = meets-some s.writes w.live h in inr (variable v, a, b)
    go false false h e = let (p, a, b) = meets-some s.outs w.tokens e in inr (token p, a, b)

live-step : (i : ℕ) (x : Item) (s : Step) (w : Sweep) → is_live (sweep_step i s w) x
    ≡ (is_live w x && not (makes s x) || (keeps s w && wants s x))
unfolding sweep_step
live-step i x s w = go (keeps s w) refl
  where
    apart : (x y : Bool) → (x && y) ≡ false → y ≡ (y && not x || false)
    apart true true e = cc
    apart true false e = refl
    apart false true e = refl
    apart false false e = refl

    kept : (x : Item) → is_live (taken i s w) x ≡ (is_live w x && not (makes s x) || wants s x)
    kept (variable v) = unfold makes wants is_live in
        has-or (without w.live s.writes) s.reads v
        ∙ ap (λ (t : Bool). t || has s.reads v) (has-without w.live s.writes v)
    kept (token p) = unfold makes wants is_live in
        has-or (without w.tokens s.outs) s.ins p
        ∙ ap (λ (t : Bool). t || has s.ins p) (has-without w.tokens s.outs p)

    go : (t : Bool) → keeps s w ≡ t
        → is_live (cond t (taken i s w) w) x ≡ (is_live w x && not (makes s x) || (t && wants s x))
    go true e = kept x
    go false e = apart (makes s x) (is_live w x) (spares s w x e)

-- the sweep from i on keeps nothing before i
none_before : (l : List Step) (vars i k : ℕ) → k < i → has (sweep vars i l).kept k ≡ false
unfolding sweep
none_before [] vars i k h = has-zero k
none_before (s ∷ l) vars i k h =
    kept_step i k s (sweep vars (suc i) l)
    ∙ ap₂ (λ (x y : Bool). x || (keeps s (sweep vars (suc i) l) && y))
    (none_before l vars (suc i) k (omega arith)) (ne_eqb k i (omega arith))
    ∙ and-false (keeps s (sweep vars (suc i) l))

module _ (l : List Step) (vars : ℕ) where
  kept_on : (i k : ℕ) → has (sweep_from l vars i).kept k
      ≡ (has (sweep_from l vars (suc i)).kept k || (keeps (get_or l i blank) (sweep_from l vars (suc i)) && eqb k i))
  kept_on i k = ap (λ (w : Sweep). has w.kept k) (sweep-on l vars i)
      ∙ kept_step i k (get_or l i blank) (sweep_from l vars (suc i))

  -- and the positions before i keep nothing from i on
  all_from : (i k : ℕ) → i ≤ k → has (kept_mask l vars) k ≡ has (sweep_from l vars i).kept k
  unfolding kept_mask
  all_from zero k h = refl
  all_from (suc i) k h =
      all_from i k (omega arith)
      ∙ kept_on i k
      ∙ ap (λ (t : Bool). has (sweep_from l vars (suc i)).kept k ||
      (keeps (get_or l i blank) (sweep_from l vars (suc i)) && t)) (ne_eqb k i (omega arith))
      ∙ table (has (sweep_from l vars (suc i)).kept k) (keeps (get_or l i blank) (sweep_from l vars (suc i)))
    where
      table : (x y : Bool) → (x || (y && false)) ≡ x
      table x y = simp (and-false, or-false)

  -- an occurrence is kept as the sweep that has come down to it says
  pub kept-is : (i : ℕ) → has (kept_mask l vars) i ≡ keeps (get_or l i blank) (sweep_from l vars (suc i))
  kept-is i =
      all_from i i (omega arith)
      ∙ kept_on i i
      ∙ ap₂ (λ (x y : Bool). x || (keeps (get_or l i blank) (sweep_from l vars (suc i)) && y))
      (none_before (drop (suc i) l) vars (suc i) i (omega arith)) (eq-eqb i i refl)
      ∙ and-true (keeps (get_or l i blank) (sweep_from l vars (suc i)))

  -- an item is live before an occurrence when it is live after it and not made there, or when the occurrence is kept
  -- and wants it
  pub live_on : (i : ℕ) (x : Item) → live_at l vars i x
      ≡ (live_at l vars (suc i) x && not (writes_at l i x) || (has (kept_mask l vars) i && reads_at l i x))
  unfolding live_at reads_at writes_at
  live_on i x =
      ap (λ (w : Sweep). is_live w x) (sweep-on l vars i)
      ∙ live-step i x (get_or l i blank) (sweep_from l vars (suc i))
      ∙ ap (λ (t : Bool). live_at l vars (suc i) x && not (writes_at l i x) || (t && reads_at l i x)) (sym (kept-is i))

  -- at the end the new route's variables are live, and no token
  pub live_end : (i v : ℕ) → length l ≤ i → live_at l vars i (variable v) ≡ has vars v
  unfolding live_at is_live
  live_end i v h = ap (λ (w : Sweep). has w.live v) (sweep-end l vars i h)

  pub none-taken : (i p : ℕ) → length l ≤ i → live_at l vars i (token p) ≡ false
  unfolding live_at is_live
  none-taken i p h = ap (λ (w : Sweep). has w.tokens p) (sweep-end l vars i h) ∙ has-zero p

  pub live-stays : (i : ℕ) (x : Item) → live_at l vars (suc i) x ≡ true → writes_at l i x ≡ false
      → live_at l vars i x ≡ true
  live-stays i x h w = rw (live_on i x, h, w)

  pub live-read : (i : ℕ) (x : Item) → has (kept_mask l vars) i ≡ true → reads_at l i x ≡ true → live_at l vars i x ≡ true
  live-read i x h r = rw (live_on i x, h, r) (or-true (live_at l vars (suc i) x && not (writes_at l i x)))

  pub live-cases : (i : ℕ) (x : Item) → live_at l vars i x ≡ true
      → ((live_at l vars (suc i) x ≡ true) × (writes_at l i x ≡ false)) ⊎
      ((has (kept_mask l vars) i ≡ true) × (reads_at l i x ≡ true))
  live-cases i x h = table (live_at l vars (suc i) x) (writes_at l i x) (has (kept_mask l vars) i) (reads_at l i x)
      (sym (live_on i x) ∙ h)
    where
      table : (a w k r : Bool) → (a && not w || (k && r)) ≡ true
          → ((a ≡ true) × (w ≡ false)) ⊎ ((k ≡ true) × (r ≡ true))
      table true false k r e = inl (refl, refl)
      table true true k r e = inr (both k r e)
      table false w k r e = inr (both k r e)

  pub kept_writer : (i : ℕ) (x : Item) → writes_at l i x ≡ true → live_at l vars (suc i) x ≡ true
      → has (kept_mask l vars) i ≡ true
  unfolding writes_at live_at
  kept_writer i x w h = kept-is i ∙ kept_for (get_or l i blank) (sweep_from l vars (suc i)) x w h

  -- every cloth occurrence is kept
  pub cut-kept : (i : ℕ) → cuts_at l i ≡ true → has (kept_mask l vars) i ≡ true
  unfolding cuts_at keeps
  cut-kept i h = kept-is i ∙ rw h

  -- why an occurrence is kept
  pub kept-cases : (i : ℕ) → has (kept_mask l vars) i ≡ true
      → (cuts_at l i ≡ true) ⊎ ((x : Item) × (writes_at l i x ≡ true) × (live_at l vars (suc i) x ≡ true))
  unfolding writes_at cuts_at live_at
  kept-cases i h = why (get_or l i blank) (sweep_from l vars (suc i)) (sym (kept-is i) ∙ h)

-- only occurrences are kept
pub kept-below : (l : List Step) (vars i : ℕ) → has (kept_mask l vars) i ≡ true → i < length l
kept-below l vars i h =
    ⊎_elim (cut_below l i) (λ s. written_below l i s.0 s.1) (kept-cases l vars i h)
