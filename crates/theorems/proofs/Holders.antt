-- The last earlier occurrence that has a place among its out-places and not among its in-places is the one whose token
-- lies there: a place is held exactly when it has a token, and who holds it is the last that filled it.
use mathlib.Core.Path.{◌≡◌, refl, sym, ap, ap₂, subst, ◌∙◌}
use mathlib.Core.Logic.{◌↔◌, inr}
use mathlib.Core.Bool.{Bool, true, false, not, cond, ◌&&◌, ◌||◌, and-true}
use mathlib.Core.List.{List, [], ◌∷◌}
use mathlib.Core.Option
use mathlib.Core.Option.{Option}
use Prim.Native.Nat.{ℕ, zero, suc, ◌+◌, ◌<◌}
use native.Mathlib.Omega.{arith}
use native.Mathlib.Decide.{dec_lt}
use lib.ListN.{length, get_or}
use Rattle.mask.specs.Mask.{has, without, within}
use Rattle.mask.proofs.Laws.{has-and, has-or, has-without, within_all}
use Rattle.mask.proofs.Truth.{both}
use Rattle.route.specs.Firing.{can_fire, fire}
use Rattle.route.specs.Steps.{blank, lookup}
use Rattle.route.specs.declared.Step.{Step}
use Rattle.job.specs.Job.{Job, job_line, old_start}
use Rattle.route.specs.declared.Fired.{Fired}
use Rattle.running.specs.Run.{run_from, performed}
use Rattle.route.proofs.IfFires.{Fires}
use Rattle.running.proofs.DoneNames.{first-fires, ran-is}
use Rattle.slice.specs.Slice.{token, reads_at, writes_at, wants, makes, LastWriter, needed, kept_mask}
use Rattle.slice.proofs.Closure.{kept-iff}
use Rattle.occurrences.specs.Occurrences.{shared, occurrence, occurrences_of}
use Rattle.occurrences.proofs.DoneOccurrences.{occurrence-at}
use Rattle.theorems.specs.Demand3.{Runs}
use Rattle.theorems.specs.Holders.{Held, nothing, from_start, put_by, fills, empties, held_from, held}
use Rattle.theorems.specs.Holders.{marking_from, marking_before}
use Rattle.precedence.specs.Precedence.{comes_after}
use Rattle.theorems.proofs.ComesAfter.{comes_after-iff}
use Rattle.theorems.proofs.LastWriter.{one_last}

-- ---- by the list alone

-- the last before n that fills p, or none
data Filler (l : List Step) (n p : ℕ) : Held → Type 0 where
  none-fills : ((k : ℕ) → k < n → fills (get_or l k blank) p ≡ false) → Filler l n p from_start
  last-fills : (j : ℕ) → j < n → fills (get_or l j blank) p ≡ true
      → ((k : ℕ) → j < k → k < n → fills (get_or l k blank) p ≡ false) → Filler l n p (put_by j)

-- one that doesn't fill p changes nothing
still : (l : List Step) (n p : ℕ) (h : Held) → fills (get_or l n blank) p ≡ false → Filler l n p h
    → Filler l (suc n) p h
still l n p nothing f x = elim x [ ]
still l n p from_start f (none-fills h) = none-fills (λ k b. go k b (dec_lt k n))
  where
    go : (k : ℕ) → k < suc n → Dec (k < n) → fills (get_or l k blank) p ≡ false
    go k b (yes a) = h k a
    go k b (no a) = let here : k ≡ n = omega arith in rw here f
still l n p (put_by j) f (last-fills _ a w h) = last-fills j (omega arith) w (λ k b c. go k b c (dec_lt k n))
  where
    go : (k : ℕ) → j < k → k < suc n → Dec (k < n) → fills (get_or l k blank) p ≡ false
    go k b c (yes d) = h k b d
    go k b c (no d) = let here : k ≡ n = omega arith in rw here f

is_held : Held → Bool
is_held nothing = false
is_held from_start = true
is_held (put_by k) = true

module _ (m : ℕ) (l : List Step) (p : ℕ) where
  -- a place is held exactly when it has a token
  held-where-marked : (n : ℕ) → has (marking_from m l n) p ≡ is_held (held_from m l n p)
  unfolding marking_from held_from fills empties fire is_held
  held-where-marked zero = table (has m p)
    where
      table : (t : Bool) → t ≡ is_held (cond t from_start nothing)
      table true = refl
      table false = refl
  held-where-marked (suc n) =
      has-or (without (marking_from m l n) (without s.ins s.outs)) (without s.outs s.ins) p
      ∙ ap₂ (λ (a b : Bool). a || b)
      (has-without (marking_from m l n) (without s.ins s.outs) p
      ∙ ap₂ (λ (a b : Bool). a && not b) (held-where-marked n) (has-without s.ins s.outs p))
      (has-without s.outs s.ins p)
      ∙ table (has s.ins p) (has s.outs p) (held_from m l n p)
    where
      s : Step
      s = get_or l n blank

      table : (i o : Bool) (h : Held) → (is_held h && not (i && not o) || (o && not i))
          ≡ is_held (cond (o && not i) (put_by n) (cond (i && not o) nothing h))
      table true true nothing = refl
      table true true from_start = refl
      table true true (put_by k) = refl
      table true false nothing = refl
      table true false from_start = refl
      table true false (put_by k) = refl
      table false true nothing = refl
      table false true from_start = refl
      table false true (put_by k) = refl
      table false false nothing = refl
      table false false from_start = refl
      table false false (put_by k) = refl

  -- and who holds it is the last that filled it
  filler : (n : ℕ) (h : Held) → held_from m l n p ≡ h → is_held h ≡ true → Filler l n p h
  unfolding held_from is_held
  filler zero h e t = go (has m p) h e t
    where
      go : (b : Bool) (h : Held) → cond b from_start nothing ≡ h → is_held h ≡ true → Filler l 0 p h
      go true h e t = subst (Filler l 0 p) e (none-fills (λ k b. absurd (omega arith)))
      go false h e t = absurd (let z : false ≡ true = ap is_held e ∙ t in cc)
  filler (suc n) h e t = go (fills (get_or l n blank) p) (empties (get_or l n blank) p) refl e (filler n h)
    where
      go : (f b : Bool) → fills (get_or l n blank) p ≡ f → cond f (put_by n) (cond b nothing (held_from m l n p)) ≡ h
          → (held_from m l n p ≡ h → is_held h ≡ true → Filler l n p h) → Filler l (suc n) p h
      go true b d e ih = subst (Filler l (suc n) p) e
          (last-fills n (omega arith) d (λ k a b. absurd (omega arith)))
      go false true d e ih = absurd (let z : false ≡ true = ap is_held e ∙ t in cc)
      go false false d e ih = still l n p h d (ih e t)

-- ---- each step done can fire where it stands

shift : (m : ℕ) (s : Step) (l : List Step) (k : ℕ) → marking_from m (s ∷ l) (suc k) ≡ marking_from (fire m s) l k
unfolding marking_from
shift m s l zero = refl
shift m s l (suc k) = ap (λ (x : ℕ). fire x (get_or l k blank)) (shift m s l k)

fires-at : (steps : List Step) (m line : ℕ) (done : List ℕ) → (run_from steps m line done).number ≡ 0 → (i : ℕ)
    → i < length done
    → can_fire (marking_from m (performed steps done) i) (get_or (performed steps done) i blank) ≡ true
unfolding performed
fires-at steps m line [] e i b = absurd (omega arith)
fires-at steps m line (n ∷ d) e i b = go i b (fires-at steps (fire m r.step) (line + 1) d r.onward)
  where
    r : Fires m (lookup n steps) (λ s m'. run_from steps m' (line + 1) d) (λ (r : Fired). r.number ≡ 0)
    r = first-fires steps m line n d e

    own : Step
    own = Option.get_or (lookup n steps) blank

    same : own ≡ r.step
    same = ap (λ (q : Option Step). Option.get_or q blank) r.there

    go : (i : ℕ) → i < suc (length d)
        → ((k : ℕ) → k < length d
        → can_fire (marking_from (fire m r.step) (performed steps d) k) (get_or (performed steps d) k blank) ≡ true)
        → can_fire (marking_from m (own ∷ performed steps d) i) (get_or (own ∷ performed steps d) i blank) ≡ true
    go zero b ih = unfold marking_from in ap (can_fire m) same ∙ r.can
    go (suc k) b ih =
        ap (λ (x : ℕ). can_fire x (get_or (performed steps d) k blank))
        (shift m own (performed steps d) k ∙ ap (λ (s : Step). marking_from (fire m s) (performed steps d) k) same)
        ∙ ih k (omega arith)

-- ---- a job's occurrences

module _ (j : Job) where
  abbrev step_at : ℕ → Step
  step_at i = get_or (performed j.old j.done) i blank

  -- "To take from a place is to have it among the in-places"
  pub occurrence-takes : (i p : ℕ) → reads_at (occurrences_of j) i (token p)
      ≡ (has (get_or (performed j.old j.done) i blank).ins p && has (shared j.old) p)
  unfolding reads_at wants occurrence
  occurrence-takes i p = ap (λ (s : Step). has s.ins p) (occurrence-at j i) ∙ has-and (step_at i).ins (shared j.old) p

  pub occurrence-puts : (i p : ℕ) → writes_at (occurrences_of j) i (token p)
      ≡ (fills (get_or (performed j.old j.done) i blank) p && has (shared j.old) p)
  unfolding writes_at makes occurrence fills
  occurrence-puts i p =
      ap (λ (s : Step). has s.outs p) (occurrence-at j i)
      ∙ has-and (without (step_at i).outs (step_at i).ins) (shared j.old) p
      ∙ ap (λ (t : Bool). t && has (shared j.old) p) (has-without (step_at i).outs (step_at i).ins p)

  module _ (ok : Runs j) (i p : ℕ) (b : i < length j.done) (t : reads_at (occurrences_of j) i (token p) ≡ true) where
    both-so : (has (step_at i).ins p ≡ true) × (has (shared j.old) p ≡ true)
    both-so = both (has (step_at i).ins p) (has (shared j.old) p) (sym (occurrence-takes i p) ∙ t)

    puts : (k : ℕ) → writes_at (occurrences_of j) k (token p) ≡ fills (step_at k) p
    puts k = occurrence-puts k p ∙ ap (λ (x : Bool). fills (step_at k) p && x) both-so.1
        ∙ and-true (fills (step_at k) p)

    -- a token lies there
    taken : is_held (held j i p) ≡ true
    unfolding can_fire
    taken =
        sym (held-where-marked (old_start j) (performed j.old j.done) p i)
        ∙ within_all (step_at i).ins (marking_from (old_start j) (performed j.old j.done) i)
        (both (within (step_at i).ins (marking_from (old_start j) (performed j.old j.done) i)) _
        (fires-at j.old (old_start j) (job_line j + 1) j.done
        (ap (λ (r : Fired). r.number) (ran-is j ok) ∙ ok) i b)).0
        p both-so.0

    who : Filler (performed j.old j.done) i p (held j i p)
    who = filler (old_start j) (performed j.old j.done) p i (held j i p) refl taken

    last-put : (k : ℕ) → Filler (performed j.old j.done) i p (put_by k) → LastWriter (occurrences_of j) i (token p) k
    last-put k (last-fills _ a w h) = record { earlier = a; writer = puts k ∙ w; last = λ n c d. puts n ∙ h n c d }

    -- "the occurrence that put the token there"
    pub putter-iff : (k : ℕ) → LastWriter (occurrences_of j) i (token p) k ↔ (held j i p ≡ put_by k)
    putter-iff k = (
      λ w. go w (held j i p) refl who,
      λ e. last-put k (subst (Filler
          (performed j.old j.done) i p) e who),
    )
      where
        go : LastWriter (occurrences_of j) i (token p) k → (h : Held) → held j i p ≡ h
            → Filler (performed j.old j.done) i p h → held j i p ≡ put_by k
        go w nothing e f = elim f [ ]
        go w from_start e (none-fills h) =
            absurd (let z : true ≡ false = sym w.writer ∙ puts k ∙ h k w.earlier in cc)
        go w (put_by n) e f = e ∙ ap put_by (one_last (occurrences_of j) i (token p) n k (last-put n f) w)

    -- "start tokens have none"
    pub start-iff : ((k : ℕ) → LastWriter (occurrences_of j) i (token p) k → ⊥) ↔ (held j i p ≡ from_start)
    start-iff = (
      λ none. go none (held j i p) refl who,
      λ e k w.
          let z : from_start ≡ put_by k = sym e ∙ (putter-iff k).0 w in absurd (apart z),
    )
      where
        apart : {k : ℕ} → from_start ≡ put_by k → ⊥
        apart e = cc

        go : ((k : ℕ) → LastWriter (occurrences_of j) i (token p) k → ⊥) → (h : Held) → held j i p ≡ h
            → Filler (performed j.old j.done) i p h → held j i p ≡ from_start
        go none nothing e f = elim f [ ]
        go none from_start e f = e
        go none (put_by n) e f = absurd (none n (last-put n f))

-- ---- what follows for a job that runs

-- a place is free exactly where it has no token
pub nothing-iff : (j : Job) (i p : ℕ) → (has (marking_before j i) p ≡ false) ↔ (held j i p ≡ nothing)
unfolding is_held
nothing-iff j i p = (λ e. go (held j i p) (sym so ∙ e), λ e. so ∙ ap is_held e)
  where
    so : has (marking_before j i) p ≡ is_held (held j i p)
    so = held-where-marked (old_start j) (performed j.old j.done) p i

    go : (h : Held) → is_held h ≡ false → h ≡ nothing
    go nothing e = refl
    go from_start e = cc
    go (put_by k) e = cc

-- who took a token comes after the one that put it, and is kept with it
pub needs-its-putter : (j : Job) → Runs j → (i p k : ℕ) → i < length j.done
    → has (get_or (performed j.old j.done) i blank).ins p ≡ true → has (shared j.old) p ≡ true → held j i p ≡ put_by k
    → (comes_after (occurrences_of j) i k ≡ true)
    × ((vars : ℕ) → has (kept_mask (occurrences_of j) vars) i ≡ true → has (kept_mask (occurrences_of j) vars) k ≡ true)
needs-its-putter j ok i p k b t s h = (
  (comes_after-iff l i k).1 (source.earlier, inr (inr (p, takes, source))),
  λ vars kept. (kept-iff l vars k).1
      (needed ((kept-iff l vars i).0 kept) (record { item = token p; reader = takes; source = source })),
)
  where
    l : List Step
    l = occurrences_of j

    takes : reads_at l i (token p) ≡ true
    takes = occurrence-takes j i p ∙ ap₂ (λ (x y : Bool). x && y) t s

    source : LastWriter l i (token p) k
    source = (putter-iff j ok i p b takes k).1 h
