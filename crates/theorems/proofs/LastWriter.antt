-- The number that is shown for a variable is that of its last writer, and 0 exactly when no occurrence writes it.
use mathlib.Core.Path.{◌≡◌, refl, ap, sym, ◌∙◌}
use mathlib.Core.Bool.{Bool, true, false, cond, true≢false}
use mathlib.Core.List.{List, [], ◌∷◌}
use Prim.Native.Nat.{ℕ, zero, suc, ◌+◌, ◌<◌}
use native.Mathlib.Omega.{arith}
use native.Mathlib.Decide.{dec_lt}
use lib.Dec.{eqb}
use lib.ListN.{length, get_or}
use borrow.Author.Tests.{eqb-true, eqb-false}
use Rattle.mask.specs.Mask.{has}
use Rattle.mask.proofs.Laws.{has-zero}
use Rattle.route.specs.Steps.{blank}
use Rattle.route.specs.declared.Step.{Step}
use Rattle.slice.specs.Slice.{Item, variable, makes, writes_at, LastWriter}
use Rattle.answering.specs.Answer.{last_writer}

-- ---- the last writer

none_from : (v i : ℕ) (l : List Step) → last_writer v i l ≡ 0 → (k : ℕ) → writes_at l k (variable v) ≡ false
unfolding last_writer writes_at makes
none_from v i [] e k = has-zero v
none_from v i (s ∷ l) e k = go (eqb later 0) (has s.writes v) refl refl e k (none_from v (suc i) l)
  where
    later : ℕ
    later = last_writer v (suc i) l

    go : (q w : Bool) → eqb later 0 ≡ q → has s.writes v ≡ w → cond q (cond w (suc i) 0) later ≡ 0 → (k : ℕ)
        → (later ≡ 0 → (k : ℕ) → has (get_or l k blank).writes v ≡ false)
        → has (get_or (s ∷ l) k blank).writes v ≡ false
    go true true p h e k ih = absurd (omega arith)
    go true false p h e zero ih = h
    go true false p h e (suc k) ih = ih (eqb-true later 0 p) k
    go false w p h e k ih = absurd (eqb-false later 0 p e)

some-from : (v i : ℕ) (l : List Step) (j : ℕ) → last_writer v i l ≡ suc j
    → (d : ℕ) × (j ≡ i + d) × LastWriter l (length l) (variable v) d
unfolding last_writer writes_at makes
some-from v i [] j e = absurd (omega arith)
some-from v i (s ∷ l) j e = go (eqb later 0) (has s.writes v) refl refl e (some-from v (suc i) l j)
  where
    later : ℕ
    later = last_writer v (suc i) l

    onwards : (d : ℕ) → LastWriter l (length l) (variable v) d
        → LastWriter (s ∷ l) (suc (length l)) (variable v) (suc d)
    onwards d w = record { earlier = omega (arith, w.earlier); writer = w.writer; last = rest }
      where
        rest : (k : ℕ) → suc d < k → k < suc (length l) → writes_at (s ∷ l) k (variable v) ≡ false
        rest zero a b = absurd (omega arith)
        rest (suc k) a b = w.last k (omega arith) (omega arith)

    here : has s.writes v ≡ true → later ≡ 0 → LastWriter (s ∷ l) (suc (length l)) (variable v) 0
    here h z = record { earlier = omega arith; writer = h; last = rest }
      where
        rest : (k : ℕ) → 0 < k → k < suc (length l) → writes_at (s ∷ l) k (variable v) ≡ false
        rest zero a b = absurd (omega arith)
        rest (suc k) a b = none_from v (suc i) l z k

    go : (q w : Bool) → eqb later 0 ≡ q → has s.writes v ≡ w → cond q (cond w (suc i) 0) later ≡ suc j
        → (later ≡ suc j → (d : ℕ) × (j ≡ suc i + d) × LastWriter l (length l) (variable v) d)
        → (d : ℕ) × (j ≡ i + d) × LastWriter (s ∷ l) (suc (length l)) (variable v) d
    go true true p h e ih = (0, omega arith, here h (eqb-true later 0 p))
    go true false p h e ih = absurd (omega arith)
    go false w p h e ih = let (d, a, r) = ih e in (suc d, omega arith, onwards d r)

pub one_last : (l : List Step) (n : ℕ) (x : Item) (i j : ℕ) → LastWriter l n x i → LastWriter l n x j → i ≡ j
one_last l n x i j a b = go (dec_lt i j) (dec_lt j i)
  where
    go : Dec (i < j) → Dec (j < i) → i ≡ j
    go (yes h) d = absurd (true≢false (sym b.writer ∙ a.last j h b.earlier))
    go (no h) (yes d) = absurd (true≢false (sym a.writer ∙ b.last i d a.earlier))
    go (no h) (no d) = omega arith

module _ (l : List Step) (v : ℕ) where
  -- a number that is shown is that of the last writer
  pub last_writer-elim : (j : ℕ) → last_writer v 0 l ≡ suc j → LastWriter l (length l) (variable v) j
  last_writer-elim j e = let (d, a, w) = some-from v 0 l j e in let same : d ≡ j = omega arith in rw same at w

  pub last_writer-none-elim : last_writer v 0 l ≡ 0 → (i : ℕ) → writes_at l i (variable v) ≡ false
  last_writer-none-elim = none_from v 0 l

  -- the last writer is shown
  pub last_writer-intro : (j : ℕ) → LastWriter l (length l) (variable v) j → last_writer v 0 l ≡ suc j
  last_writer-intro j w = go (last_writer v 0 l) refl
    where
      go : (n : ℕ) → last_writer v 0 l ≡ n → n ≡ suc j
      go zero e = absurd (let z : ◌≡◌ {A = ℕ} 0 1 = cc (last_writer-none-elim e j, w.writer) in omega arith)
      go (suc i) e = ap suc (one_last l (length l) (variable v) i j (last_writer-elim i e) w)

  pub last_writer-none-intro : ((i : ℕ) → i < length l → writes_at l i (variable v) ≡ false) → last_writer v 0 l ≡ 0
  last_writer-none-intro h = go (last_writer v 0 l) refl
    where
      go : (n : ℕ) → last_writer v 0 l ≡ n → n ≡ 0
      go zero e = refl
      go (suc i) e = let w = last_writer-elim i e in absurd
          (let z : ◌≡◌ {A = ℕ} 0 1 = cc (h i w.earlier, w.writer) in omega arith)
