-- Each byte that the layout has keeps what has been read: by the point, then by the word.
-- Assumes nothing.
use mathlib.Core.Path.{◌≡◌, refl, sym, ap, ap₂, ◌∙◌, subst}
use mathlib.Core.Logic.{inl, inr, ⊎_elim}
use mathlib.Core.Bool.{Bool, true, false, cond, ◌&&◌, false≢true}
use mathlib.Core.List.{List, [], ◌∷◌, ◌++◌, reverse}
use Prim.Native.Nat.{ℕ, suc, ◌+◌, ◌-◌, ◌*◌, ◌^◌, ◌/◌, ◌%◌, ◌≤◌, ◌<◌}
use native.Mathlib.Nat.{pow-suc}
use native.Mathlib.Numerals.{add-one}
use native.Mathlib.Omega.{arith}
use lib.Dec.{eqb, ltb, leb}
use lib.ListN.{length, get_or, take}
use lib.Seq.{take-suc, take_all, append_snoc}
use borrow.Author.Tests.{eqb-true, eqb-false, ltb-true, lt-ltb, le-ltb, leb-true}
use Rattle.version.specs.Limits.{Limits}
use Rattle.version.specs.declared.Version.{Version}
use Rattle.version.proofs.Tens.{tens-mono}
use Rattle.version.proofs.Limits.{low-short}
use Rattle.layout.specs.Words.{spelling}
use Rattle.layout.specs.Text.{Lines, digits, number, entries, listed, marked, step_line, word_line, start_line}
use Rattle.layout.specs.Text.{job_line, Short, Shorts, ShortForm, ShortStart, ShortLines}
use Rattle.layout.specs.Points.{digit, alive, expect, chosen, spelt, list_end, in_list, past_word, first}
use Rattle.layout.specs.Points.{ended, more, closed, past_head, past_line, next}
use Rattle.layout.specs.Parse.{Line, no_line, with_num, grown, stored, took, form_of, put_step, put_start}
use Rattle.layout.specs.Parse.{put_line, keep}
use Rattle.layout.specs.declared.Word.{Word}
use Rattle.layout.specs.declared.Word.TheVariants.{Old, New, Job, Done, Step, In, Out, Read, Write, Cloth, Start}
use Rattle.layout.specs.declared.Part.{Part}
use Rattle.layout.specs.declared.Part.TheVariants.{OldRoute, NewRoute, JobPart}
use Rattle.layout.specs.declared.Point.{Point}
use Rattle.layout.specs.declared.Point.TheVariants.{Top, Open, Choice, Letters, Past, Digit, Digits, Gap}
use Rattle.layout.specs.declared.Point.TheVariants.{Closed, Lf, Stuck}
use Rattle.layout.proofs.Numbers.{digits-enough}
use Rattle.layout.proofs.Reversed.{entries_back, steps_back, dones_back, entries-back, shorts-back}
use Rattle.layout.proofs.Prefix.{rest, headed, above, gap_in, gap_out, gap_read, gap_write, gap_cloth, gap, list_of}
use Rattle.layout.proofs.Prefix.{upto, line_end, sofar, routed, goes, closes, From, After, Wide, Shape, ShortLine}
use Rattle.layout.proofs.Prefix.{Onward}
use Rattle.mask.proofs.Truth.{both}

-- ---- tests that hold

pub never : alive Stuck ≡ true → ⊥
unfolding alive
never h = let z : ◌≡◌ {A = ℕ} 0 1 = cc in omega arith

pub expected : (P : ℕ → Point → Type 0) (b k : ℕ) (q : Point) → P k q → alive (expect b k q) ≡ true → P b (expect b k q)
unfolding expect
expected P b k q h = go (eqb b k) refl
  where
    go : (x : Bool) → eqb b k ≡ x → alive (cond x q Stuck) ≡ true → P b (cond x q Stuck)
    go true e l = subst (λ (m : ℕ). P m q) (sym (eqb-true b k e)) h
    go false e l = absurd (never l)

pub either : (P : ℕ → Point → Type 0) (b k : ℕ) (q r : Point) → P k q → (eqb b k ≡ false → alive r ≡ true → P b r)
    → alive (cond (eqb b k) q r) ≡ true → P b (cond (eqb b k) q r)
either P b k q r h other = go (eqb b k) refl
  where
    go : (x : Bool) → eqb b k ≡ x → alive (cond x q r) ≡ true → P b (cond x q r)
    go true e l = subst (λ (m : ℕ). P m q) (sym (eqb-true b k e)) h
    go false e l = other e l

-- where y says whether the byte k is one that the layout has
pub either-where : (P : ℕ → Point → Type 0) (b k : ℕ) (y : Bool) (q r : Point) → (y ≡ true → P k q)
    → (alive r ≡ true → P b r) → alive (cond (eqb b k && y) q r) ≡ true → P b (cond (eqb b k && y) q r)
either-where P b k y q r h other = go (eqb b k) refl y refl
  where
    go : (x : Bool) → eqb b k ≡ x → (z : Bool) → y ≡ z → alive (cond (x && z) q r) ≡ true → P b (cond (x && z) q r)
    go true e true d l = subst (λ (m : ℕ). P m q) (sym (eqb-true b k e)) (h d)
    go true e false d l = other l
    go false e z d l = other l

-- past a head: at its start line's bracket, or at the first step where the version has no start line
pub at_head : (v : Version) (p : Part) (P : Point → Type 0) → (v.starts ≡ true → P (Gap Start p))
    → (v.starts ≡ false → P (Open p)) → P (past_head v p)
unfolding past_head
at_head v p P one other = go v.starts refl
  where
    go : (x : Bool) → v.starts ≡ x → P (cond x (Gap Start p) (Open p))
    go true e = one e
    go false e = other e

pub head-alive : (v : Version) (p : Part) → alive (past_head v p) ≡ true
unfolding alive
head-alive v p = at_head v p (λ q. alive q ≡ true) (λ has. refl) (λ lacks. refl)

-- ---- numbers

pub digit-bounds : (b : ℕ) → digit b ≡ true → (48 ≤ b) × (b ≤ 57)
unfolding digit
digit-bounds b d = let (low, high) = both (leb 48 b) (leb b 57) d in (leb-true 48 b low, leb-true b 57 high)

grows : (n b : ℕ) (s : List ℕ) → 1 ≤ n → n < 10 ^ 19 → digit b ≡ true → number (grown n b) s ≡ number n (b ∷ s)
unfolding number digits
grows n b s low high d =
    let bounds = digit-bounds b d in
    let high-digits : grown n b / 10 ≡ n = omega (arith, bounds.0, bounds.1) in
    let low_digit : 48 + grown n b % 10 ≡ b = omega (arith, bounds.0, bounds.1) in
    ap (λ (x : Bool). cond x ((48 + grown n b) ∷ s) (digits 19 (grown n b / 10) ((48 + grown n b % 10) ∷ s)))
    (le-ltb (grown n b) 10 (omega (arith, bounds.0)))
    ∙ ap₂ (λ (m e : ℕ). digits 19 m (e ∷ s)) high-digits low_digit
    ∙ sym (digits-enough 19 18 n (b ∷ s) (omega arith) high)

single : (b : ℕ) (s : List ℕ) → digit b ≡ true → number (b - 48) s ≡ b ∷ s
unfolding number digits
single b s d =
    let bounds = digit-bounds b d in
    ap (λ (x : Bool). cond x ((48 + (b - 48)) ∷ s) (digits 19 ((b - 48) / 10) ((48 + (b - 48) % 10) ∷ s)))
    (lt-ltb (b - 48) 10 (omega (arith, bounds.0, bounds.1)))
    ∙ ap (λ (m : ℕ). m ∷ s) (omega (arith, bounds.0))

-- ---- the points

module _ (v : Version) (limits : Limits v) (c : Line) (t : Lines) (line : ShortLine v (rest c))
    (lines : ShortLines v t) where
  at-start : (b : ℕ) → alive (next v Top b) ≡ true → Onward v Top b c t (next v Top b) c t
  unfolding next sofar gap
  at-start b = expected (λ x q. Onward v Top x c t q c t) b 40 (Letters Old OldRoute 0)
      (record { same = λ s. refl; shape = (unfold goes in refl, tt); line = line; lines = lines })

  at_open : (p : Part) (b : ℕ) → Shape v (Open p) c → alive (next v (Open p) b) ≡ true
      → Onward v (Open p) b c t (next v (Open p) b) c t
  unfolding next sofar
  at_open p b h = expected (λ x q. Onward v (Open p) x c t q c t) b 40 (Choice p)
      (record { same = λ s. refl; shape = h; line = line; lines = lines })

  at-choice : (p : Part) (b : ℕ) → Shape v (Choice p) c → alive (next v (Choice p) b) ≡ true
      → Onward v (Choice p) b c t (next v (Choice p) b) c t
  unfolding next chosen sofar gap spelling goes routed
  at-choice OldRoute b h =
      either (λ x q. Onward v (Choice OldRoute) x c t q c t) b 115 (Letters Step OldRoute 1)
      (expect b 110 (Letters New NewRoute 1))
      (record { same = λ s. refl; shape = (refl, h); line = line; lines = lines })
      (λ far. expected (λ x q. Onward v (Choice OldRoute) x c t q c t) b 110 (Letters New NewRoute 1)
      (record { same = λ s. refl; shape = (refl, tt); line = line; lines = lines }))
  at-choice NewRoute b h =
      either (λ x q. Onward v (Choice NewRoute) x c t q c t) b 115 (Letters Step NewRoute 1)
      (expect b 106 (Letters Job JobPart 1))
      (record { same = λ s. refl; shape = (refl, h); line = line; lines = lines })
      (λ far. expected (λ x q. Onward v (Choice NewRoute) x c t q c t) b 106 (Letters Job JobPart 1)
      (record { same = λ s. refl; shape = (refl, tt); line = line; lines = lines }))
  at-choice JobPart b h = expected (λ x q. Onward v (Choice JobPart) x c t q c t) b 100 (Letters Done JobPart 1)
      (record { same = λ s. refl; shape = (refl, tt); line = line; lines = lines })

  from-after : (w : Word) → From w (rest c) → After w (rest c)
  from-after Old h = h
  from-after New h = h
  from-after Job h = h
  from-after Done h = h
  from-after Step h = h
  from-after In h = h.1
  from-after Out h = h.1
  from-after Read h = h.1
  from-after Write h = tt
  from-after Cloth h = tt
  from-after Start h = tt

  from_empty : (w : Word) → From w (rest c) → list_of w (rest c) ≡ []
  unfolding list_of
  from_empty Old h = refl
  from_empty New h = refl
  from_empty Job h = refl
  from_empty Done h = refl
  from_empty Step h = refl
  from_empty In h = h.0
  from_empty Out h = h.0
  from_empty Read h = h.0
  from_empty Write h = h
  from_empty Cloth h = refl
  from_empty Start h = h

  at-letters : (w : Word) (p : Part) (k b : ℕ) → Shape v (Letters w p k) c → alive (next v (Letters w p k) b) ≡ true
      → Onward v (Letters w p k) b c t (next v (Letters w p k) b) c t
  unfolding next spelt sofar upto entries_back
  at-letters w p k b h = inside (ltb k (length (spelling w))) refl
    where
      one_more : (s : List ℕ) → k < length (spelling w)
          → take (k + 1) (spelling w) ++ s ≡ take k (spelling w) ++ (get_or (spelling w) k 0 ∷ s)
      one_more s room = ap (λ (n : ℕ). take n (spelling w) ++ s) (add-one k)
          ∙ ap (λ (l : List ℕ). l ++ s) (take-suc (spelling w) k 0 room)
          ∙ append_snoc (take k (spelling w)) (get_or (spelling w) k 0) s

      target : Bool → Point
      target x = cond x (Past w p) (Letters w p (k + 1))

      reached : (x : Bool) → eqb (k + 1) (length (spelling w)) ≡ x → k < length (spelling w)
          → Onward v (Letters w p k) (get_or (spelling w) k 0) c t (target x) c t
      reached true e room =
          record {
            same = λ s.
                ap₂ (λ (l m : List ℕ). gap v w p (rest c) t (40 ∷ (l ++ m)))
                (sym (take_all (k + 1) (spelling w) (omega (arith, eqb-true (k + 1) (length (spelling w)) e))))
                (ap (λ (l : List ℕ). entries_back l s) (from_empty w h.1))
                ∙ ap (λ (l : List ℕ). gap v w p (rest c) t (40 ∷ l)) (one_more s room);
            shape = (h.0, from-after w h.1);
            line = line;
            lines = lines;
          }
      reached false e room =
          record {
            same = λ s. ap (λ (l : List ℕ). gap v w p (rest c) t (40 ∷ l)) (one_more s room);
            shape = h;
            line = line;
            lines = lines;
          }

      inside : (x : Bool) → ltb k (length (spelling w)) ≡ x
          → alive (cond x (expect b (get_or (spelling w) k 0) (target (eqb (k + 1) (length (spelling w))))) Stuck) ≡ true
          → Onward v (Letters w p k) b c t (cond x
          (expect b (get_or (spelling w) k 0) (target (eqb (k + 1) (length (spelling w))))) Stuck) c t
      inside true e l = expected (λ x q. Onward v (Letters w p k) x c t q c t) b (get_or (spelling w) k 0)
          (target (eqb (k + 1) (length (spelling w))))
          (reached (eqb (k + 1) (length (spelling w))) refl (ltb-true k (length (spelling w)) e)) l
      inside false e l = absurd (never l)

  at-list : (w : Word) (p : Part) (b : ℕ) (c' : Line) (from : Point)
      → ((s : List ℕ) → upto v w p (rest c') t s ≡ sofar v from c t s)
      → ((s : List ℕ) → sofar v (list_end w p) c' t s ≡ upto v w p (rest c') t (41 ∷ s)) → Shape v (Digit w p) c'
      → Shape v (list_end w p) c' → ShortLine v (rest c')
      → alive (in_list w p b) ≡ true → Onward v from b c t (in_list w p b) c' t
  unfolding in_list sofar
  at-list w p b c' from same end h k short =
      either (λ x q. Onward v from x c t q c' t) b 32 (Digit w p) (expect b 41 (list_end w p))
      (record { same = λ s. same (32 ∷ s); shape = h; line = short; lines = lines })
      (λ far. expected (λ x q. Onward v from x c t q c' t) b 41 (list_end w p)
      (record { same = λ s. end s ∙ same (41 ∷ s); shape = k; line = short; lines = lines }))

  at-past : (w : Word) (p : Part) (b : ℕ) → Shape v (Past w p) c → alive (next v (Past w p) b) ≡ true
      → Onward v (Past w p) b c t (next v (Past w p) b) c t
  unfolding next past_word list_end sofar line_end closes
  at-past Old p b h = expected (λ x q. Onward v (Past Old p) x c t q c t) b 32 (Digit Old p)
      (record { same = λ s. refl; shape = h; line = line; lines = lines })
  at-past New p b h = expected (λ x q. Onward v (Past New p) x c t q c t) b 32 (Digit New p)
      (record { same = λ s. refl; shape = h; line = line; lines = lines })
  at-past Done p b h = expected (λ x q. Onward v (Past Done p) x c t q c t) b 32 (Digit Done p)
      (record { same = λ s. refl; shape = h; line = line; lines = lines })
  at-past Step p b h = expected (λ x q. Onward v (Past Step p) x c t q c t) b 32 (Digit Step p)
      (record { same = λ s. refl; shape = h; line = line; lines = lines })
  at-past Job p b h = expected (λ x q. Onward v (Past Job p) x c t q c t) b 41 (Lf Job p)
      (record { same = λ s. refl; shape = h.0; line = line; lines = lines })
  at-past In p b h = at-list In p b c (Past In p) (λ s. refl) (λ s. refl) h h line
  at-past Out p b h = at-list Out p b c (Past Out p) (λ s. refl) (λ s. refl) h h line
  at-past Read p b h = at-list Read p b c (Past Read p) (λ s. refl) (λ s. refl) h h line
  at-past Write p b h = at-list Write p b c (Past Write p) (λ s. refl) (λ s. refl) h h line
  at-past Start p b h = at-list Start p b c (Past Start p) (λ s. refl) (λ s. refl) h h.0 line
  at-past Cloth p b h = expected (λ x q. Onward v (Past Cloth p) x c t q c t) b 41 (Closed Cloth p)
      (record { same = λ s. refl; shape = h; line = line; lines = lines })

  at-digit : (w : Word) (p : Part) (b : ℕ) → Shape v (Digit w p) c → alive (next v (Digit w p) b) ≡ true
      → Onward v (Digit w p) b c t (next v (Digit w p) b) (with_num (b - 48) c) t
  unfolding next first sofar number digits
  at-digit w p b h =
      either (λ x q. Onward v (Digit w p) x c t q (with_num (x - 48) c) t) b 48 (Digits w p 0)
      (cond (digit b) (Digits w p (v.digits - 1)) Stuck)
      (record {
        same = λ s. refl;
        shape = (h, (omega (arith, limits.two), inr (refl, refl)));
        line = line;
        lines = lines;
      })
      other
    where
      other : eqb b 48 ≡ false → alive (cond (digit b) (Digits w p (v.digits - 1)) Stuck) ≡ true
          → Onward v (Digit w p) b c t (cond (digit b) (Digits w p (v.digits - 1)) Stuck) (with_num (b - 48) c) t
      other z = go (digit b) refl
        where
          go : (x : Bool) → digit b ≡ x → alive (cond x (Digits w p (v.digits - 1)) Stuck) ≡ true
              → Onward v (Digit w p) b c t (cond x (Digits w p (v.digits - 1)) Stuck) (with_num (b - 48) c) t
          go true e l =
              let bounds = digit-bounds b e in
              let far : (b ≡ 48) → ⊥ = eqb-false b 48 z in
              let left : 1 ≡ v.digits - (v.digits - 1) = omega (arith, limits.two) in
              let one = subst (λ (m : ℕ). b - 48 < 10 ^ m) left (omega arith) in
              record {
                same = λ s. ap (λ (m : List ℕ). upto v w p (rest c) t (32 ∷ m)) (single b s e);
                shape = (h, (omega (arith, limits.two), inl (omega arith, one)));
                line = line;
                lines = lines;
              }
          go false e l = absurd (never l)

  -- a number in hand is short, and one that may have another digit is no lone 0
  wide_short : (k n : ℕ) → Wide v k n → Short v n
  wide_short k n h =
      ⊎_elim (λ w. omega (arith, w.1, tens-mono (v.digits - k) v.digits (omega arith)))
      (λ w. low-short v limits n (omega (arith, w.0))) h.1

  wide-more : (k n : ℕ) → 1 ≤ k → Wide v k n → (1 ≤ n) × (n < 10 ^ (v.digits - k)) × (n < 10 ^ 19)
  wide-more k n room h =
      ⊎_elim (λ w. (w.0, w.1, omega (arith, w.1, tens-mono (v.digits - k) 19 (omega (arith, limits.ten)))))
      (λ w. absurd (omega (arith, w.1))) h.1

  at_ended : (w : Word) (p : Part) (k b : ℕ) → Shape v (Digits w p k) c → alive (ended w p b) ≡ true
      → Onward v (Digits w p k) b c t (ended w p b) (stored w c) t
  unfolding ended list_end stored closes sofar line_end upto gap list_of gap_in gap_out gap_read gap_write entries_back
  at_ended Old p k b h = expected (λ x q. Onward v (Digits Old p k) x c t q (stored Old c) t) b 41 (Lf Old p)
      (record { same = λ s. refl; shape = h.0.0; line = (wide_short k c.num h.1, line.1); lines = lines })
  at_ended New p k b h = expected (λ x q. Onward v (Digits New p k) x c t q (stored New c) t) b 41 (Lf New p)
      (record { same = λ s. refl; shape = h.0.0; line = (wide_short k c.num h.1, line.1); lines = lines })
  at_ended Done p k b h = expected (λ x q. Onward v (Digits Done p k) x c t q (stored Done c) t) b 41 (Lf Done p)
      (record { same = λ s. refl; shape = h.0.0; line = (wide_short k c.num h.1, line.1); lines = lines })
  at_ended Step p k b h = expected (λ x q. Onward v (Digits Step p k) x c t q (stored Step c) t) b 32 (Gap In p)
      (record {
        same = λ s. unfold spelling in refl;
        shape = unfold goes in h.0;
        line = (wide_short k c.num h.1, line.1);
        lines = lines;
      })
  at_ended Job p k b h = λ l. absurd (never l)
  at_ended Cloth p k b h = λ l. absurd (never l)
  at_ended In p k b h = at-list In p b (stored In c) (Digits In p k) (λ s. refl) (λ s. refl) h.0 h.0
      (line.0, ((wide_short k c.num h.1, line.1.0), line.1.1))
  at_ended Out p k b h = at-list Out p b (stored Out c) (Digits Out p k) (λ s. refl) (λ s. refl) h.0 h.0
      (line.0, (line.1.0, ((wide_short k c.num h.1, line.1.1.0), line.1.1.1)))
  at_ended Read p k b h = at-list Read p b (stored Read c) (Digits Read p k) (λ s. refl) (λ s. refl) h.0 h.0
      (line.0, (line.1.0, (line.1.1.0, ((wide_short k c.num h.1, line.1.1.1.0), line.1.1.1.1))))
  at_ended Write p k b h = at-list Write p b (stored Write c) (Digits Write p k) (λ s. refl) (λ s. refl) h.0 h.0
      (line.0, (line.1.0, (line.1.1.0, (line.1.1.1.0, (wide_short k c.num h.1, line.1.1.1.1)))))
  at_ended Start p k b h = at-list Start p b (stored Start c) (Digits Start p k) (λ s. refl) (λ s. refl) h.0
      h.0.0 (line.0, ((wide_short k c.num h.1, line.1.0), line.1.1))

  at-digits : (w : Word) (p : Part) (k b : ℕ) → Shape v (Digits w p k) c → alive (next v (Digits w p k) b) ≡ true
      → Onward v (Digits w p k) b c t (next v (Digits w p k) b) (took (Digits w p k) b c) t
  unfolding next more took sofar
  at-digits w p k b h = go (digit b) refl
    where
      grow : digit b ≡ true → 1 ≤ k → Onward v (Digits w p k) b c t (Digits w p (k - 1)) (with_num (grown c.num b) c)
          t
      grow e room =
          let few = wide-more k c.num room h.1 in
          let bounds = digit-bounds b e in
          let left : v.digits - (k - 1) ≡ suc (v.digits - k) = omega (arith, h.1.0) in
          let up : 10 ^ (v.digits - (k - 1)) ≡ 10 ^ (v.digits - k) * 10 =
          ap (λ (n : ℕ). 10 ^ n) left ∙ pow-suc 10 (v.digits - k) in
          record {
            same = λ s. ap (λ (m : List ℕ). upto v w p (rest c) t (32 ∷ m)) (grows c.num b s few.0 few.2 e);
            shape = (h.0, (omega arith, inl (omega (arith, few.0, few.1), omega (arith, few.1, few.2))));
            line = line;
            lines = lines;
          }

      inner : (x : Bool) → ltb 0 k ≡ x → digit b ≡ true → alive (cond x (Digits w p (k - 1)) Stuck) ≡ true
          → Onward v (Digits w p k) b c t (cond x (Digits w p (k - 1)) Stuck) (with_num (grown c.num b) c) t
      inner true r e l = grow e (ltb-true 0 k r)
      inner false r e l = absurd (never l)

      go : (x : Bool) → digit b ≡ x → alive (cond x (cond (ltb 0 k) (Digits w p (k - 1)) Stuck) (ended w p b)) ≡ true
          → Onward v (Digits w p k) b c t (cond x (cond (ltb 0 k) (Digits w p (k - 1)) Stuck) (ended w p b))
          (cond x (with_num (grown c.num b) c) (stored w c)) t
      go true e l = inner (ltb 0 k) refl e l
      go false e l = at_ended w p k b h l

  at_gap : (w : Word) (p : Part) (b : ℕ) → Shape v (Gap w p) c → alive (next v (Gap w p) b) ≡ true
      → Onward v (Gap w p) b c t (next v (Gap w p) b) c t
  unfolding next sofar
  at_gap w p b h = expected (λ x q. Onward v (Gap w p) x c t q c t) b 40 (Letters w p 0)
      (record { same = λ s. refl; shape = h; line = line; lines = lines })

  at-closed : (w : Word) (p : Part) (b : ℕ) → Shape v (Closed w p) c → alive (next v (Closed w p) b) ≡ true
      → Onward v (Closed w p) b c t (next v (Closed w p) b) c t
  unfolding next closed closes sofar line_end upto gap list_of gap_out gap_read gap_write gap_cloth goes
  at-closed In p b h = expected (λ x q. Onward v (Closed In p) x c t q c t) b 32 (Gap Out p)
      (record { same = λ s. refl; shape = h; line = line; lines = lines })
  at-closed Out p b h = expected (λ x q. Onward v (Closed Out p) x c t q c t) b 32 (Gap Read p)
      (record { same = λ s. refl; shape = h; line = line; lines = lines })
  at-closed Read p b h = expected (λ x q. Onward v (Closed Read p) x c t q c t) b 32 (Gap Write p)
      (record { same = λ s. refl; shape = h; line = line; lines = lines })
  at-closed Write p b h = either-where (λ x q. Onward v (Closed Write p) x c t q c t) b 32 _ (Gap Cloth p)
      (expect b 41 (Lf Write p))
      (λ has. record {
        same = λ s. refl;
        shape = (ap₂ (λ (x y : Bool). x && y) h.0 has, tt);
        line = line;
        lines = lines;
      })
      (expected (λ x q. Onward v (Closed Write p) x c t q c t) b 41 (Lf Write p)
      (record { same = λ s. refl; shape = h.0; line = line; lines = lines }))
  at-closed Cloth p b h = expected (λ x q. Onward v (Closed Cloth p) x c t q c t) b 41 (Lf Cloth p)
      (record { same = λ s. refl; shape = h.0; line = line; lines = lines })
  at-closed Old p b h = λ l. absurd (never l)
  at-closed New p b h = λ l. absurd (never l)
  at-closed Job p b h = λ l. absurd (never l)
  at-closed Done p b h = λ l. absurd (never l)
  at-closed Step p b h = λ l. absurd (never l)
  at-closed Start p b h = λ l. absurd (never l)

-- ---- the end of a line

listed_back : (w : Word) (l s : List ℕ) → listed w (reverse l) s ≡ 32 ∷ 40 ∷ (spelling w ++ entries_back l (41 ∷ s))
unfolding listed entries
listed_back w l s = ap (λ (m : List ℕ). 32 ∷ 40 ∷ (spelling w ++ m)) (entries-back l [] (41 ∷ s))

-- the line of a step, from what was gathered
step_back : (m : Bool) (c : Line) (s : List ℕ) → step_line (form_of m c) s
    ≡ 40 ∷ (spelling Step ++ (32 ∷ number c.head
    (32 ∷ 40 ∷ (spelling In ++ entries_back c.ins
    (41 ∷ 32 ∷ 40 ∷ (spelling Out ++ entries_back c.outs
    (41 ∷ 32 ∷ 40 ∷ (spelling Read ++ entries_back c.reads
    (41 ∷ 32 ∷ 40 ∷ (spelling Write ++ entries_back c.writes (41 ∷ marked m (41 ∷ 10 ∷ s))))))))))))
unfolding step_line
step_back m c s =
    ap (λ (y : List ℕ). 40 ∷ (spelling Step ++ (32 ∷ number c.head y)))
    (listed_back In c.ins _
    ∙ ap (λ (y : List ℕ). 32 ∷ 40 ∷ (spelling In ++ entries_back c.ins (41 ∷ y)))
    (listed_back Out c.outs _
    ∙ ap (λ (y : List ℕ). 32 ∷ 40 ∷ (spelling Out ++ entries_back c.outs (41 ∷ y)))
    (listed_back Read c.reads _
    ∙ ap (λ (y : List ℕ). 32 ∷ 40 ∷ (spelling Read ++ entries_back c.reads (41 ∷ y)))
    (listed_back Write c.writes (marked m (41 ∷ 10 ∷ s))))))

no-line-short : (v : Version) → Limits v → ShortLine v (rest no_line)
no-line-short v limits = (low-short v limits 0 (omega arith), (tt, (tt, (tt, tt))))

form-short : (v : Version) (m : Bool) → (m ≡ true → v.cloth ≡ true) → (c : Line) → ShortLine v (rest c)
    → ShortForm v (form_of m c)
form-short v m has c h = record {
  name = h.0;
  ins = shorts-back v c.ins [] h.1.0 tt;
  outs = shorts-back v c.outs [] h.1.1.0 tt;
  reads = shorts-back v c.reads [] h.1.1.1.0 tt;
  writes =
      shorts-back v c.writes [] h.1.1.1.1 tt;
  cloth = has;
}

-- a start line, where the version has it
module _ (v : Version) (l s : List ℕ) where
  pub start-some : v.starts ≡ true → start_line v l s ≡ 40 ∷ (spelling Start ++ entries l (41 ∷ 10 ∷ s))
  unfolding start_line
  start-some has = ap (λ (x : Bool). cond x (40 ∷ (spelling Start ++ entries l (41 ∷ 10 ∷ s))) s) has

  pub start_none : v.starts ≡ false → start_line v l s ≡ s
  unfolding start_line
  start_none lacks = ap (λ (x : Bool). cond x (40 ∷ (spelling Start ++ entries l (41 ∷ 10 ∷ s))) s) lacks

start_back : (v : Version) (l s : List ℕ) → v.starts ≡ true
    → start_line v (reverse l) s ≡ 40 ∷ (spelling Start ++ entries_back l (41 ∷ 10 ∷ s))
unfolding entries
start_back v l s has = start-some v (reverse l) s has
    ∙ ap (λ (m : List ℕ). 40 ∷ (spelling Start ++ m)) (entries-back l [] (41 ∷ 10 ∷ s))

start-short : (v : Version) (l : List ℕ) → v.starts ≡ true → Shorts v l → ShortStart v (reverse l)
start-short v l has h = record {
  entries = shorts-back v l [] h tt;
  none = λ lacks. absurd (false≢true (sym lacks ∙ has));
}

pub no-start-short : (v : Version) → ShortStart v []
no-start-short v = record { entries = tt; none = λ e. refl }

module _ (v : Version) (limits : Limits v) (c : Line) (t : Lines) (line : ShortLine v (rest c))
    (lines : ShortLines v t) where
  -- a step that is put away, marked or not
  put-short : (m : Bool) → (m ≡ true → v.cloth ≡ true) → (p : Part) → ShortLines v (put_step p (form_of m c) t)
  unfolding put_step
  put-short m has OldRoute = record {
    old_places = lines.old_places;
    old_start = lines.old_start;
    old = (form-short v m has c line, lines.old);
    new_places = lines.new_places;
    new_start = lines.new_start;
    new = lines.new;
    done = lines.done;
  }
  put-short m has NewRoute = record {
    old_places = lines.old_places;
    old_start = lines.old_start;
    old = lines.old;
    new_places = lines.new_places;
    new_start = lines.new_start;
    new = (form-short v m has c line, lines.new);
    done = lines.done;
  }
  put-short m has JobPart = lines

  head-on : (p : Part) (u : Lines) → routed p ≡ true
      → ((s : List ℕ) → v.starts ≡ false → above v p u s ≡ headed v p u s)
      → ((s : List ℕ) → sofar v (past_head v p) no_line u s ≡ headed v p u s) × Shape v (past_head v p) no_line
  unfolding sofar gap goes
  head-on p u r none = at_head v p
      (λ q. ((s : List ℕ) → sofar v q no_line u s ≡ headed v p u s) × Shape v q no_line)
      (λ has. (λ s. refl, (ap₂ (λ (x y : Bool). x && y) r has, refl)))
      (λ lacks. (λ s. none s lacks, (refl, (refl, (refl, refl)))))

  line_on : (w : Word) (p : Part) → closes v w p ≡ true
      → ((s : List ℕ) → sofar v (past_line v w p) no_line (put_line w p c t) s ≡ line_end v w p (rest c) t (10 ∷ s))
      × Shape v (past_line v w p) no_line × ShortLines v (put_line w p c t)
  unfolding closes goes routed past_line sofar headed above put_line put_step put_start line_end upto gap gap_in gap_out
      gap_read gap_write gap_cloth list_of word_line job_line marked spelling entries_back steps_back dones_back
  line_on Old OldRoute g =
      let on = head-on OldRoute (put_line Old OldRoute c t) refl (λ s lacks. ap (word_line Old c.head)
      (start_none v [] s lacks)) in (
        on.0,
        on.1,
        record {
          old_places = line.0;
          old_start = no-start-short v;
          old = tt;
          new_places = low-short v limits 0 (omega arith);
          new_start = no-start-short v;
          new = tt;
          done = tt;
        },
      )
  line_on Old NewRoute g = absurd (false≢true g)
  line_on Old JobPart g = absurd (false≢true g)
  line_on New OldRoute g = absurd (false≢true g)
  line_on New NewRoute g =
      let on = head-on NewRoute (put_line New NewRoute c t) refl (λ s lacks. ap (λ (y : List ℕ).
      word_line Old t.old_places (start_line v t.old_start (steps_back t.old (word_line New c.head y))))
      (start_none v [] s lacks)) in (
        on.0,
        on.1,
        record {
          old_places = lines.old_places;
          old_start = lines.old_start;
          old = lines.old;
          new_places = line.0;
          new_start = no-start-short v;
          new = tt;
          done = tt;
        },
      )
  line_on New JobPart g = absurd (false≢true g)
  line_on Job OldRoute g = absurd (false≢true g)
  line_on Job NewRoute g = absurd (false≢true g)
  line_on Job JobPart g = (
    λ s. refl,
    (refl, (refl, (refl, refl))),
    record {
      old_places = lines.old_places;
      old_start = lines.old_start;
      old = lines.old;
      new_places = lines.new_places;
      new_start = lines.new_start;
      new = lines.new;
      done = tt;
    },
  )
  line_on Done OldRoute g = absurd (false≢true g)
  line_on Done NewRoute g = absurd (false≢true g)
  line_on Done JobPart g = (
    λ s. refl,
    (refl, (refl, (refl, refl))),
    record {
      old_places = lines.old_places;
      old_start = lines.old_start;
      old = lines.old;
      new_places = lines.new_places;
      new_start = lines.new_start;
      new = lines.new;
      done = (line.0, lines.done);
    },
  )
  line_on Step p g = absurd (false≢true g)
  line_on In p g = absurd (false≢true g)
  line_on Out p g = absurd (false≢true g)
  line_on Read p g = absurd (false≢true g)
  line_on Write OldRoute g = (
    λ s. ap (λ (y : List ℕ). headed v OldRoute t (start_line v t.old_start (steps_back t.old y)))
        (step_back false c s),
    (refl, (refl, (refl, refl))),
    put-short false (λ e. absurd (false≢true e)) OldRoute,
  )
  line_on Write NewRoute g = (
    λ s. ap (λ (y : List ℕ). headed v NewRoute t (start_line v t.new_start (steps_back t.new y)))
        (step_back false c s),
    (refl, (refl, (refl, refl))),
    put-short false (λ e. absurd (false≢true e)) NewRoute,
  )
  line_on Write JobPart g = absurd (false≢true g)
  line_on Cloth OldRoute g = (
    λ s. ap (λ (y : List ℕ). headed v OldRoute t (start_line v t.old_start (steps_back t.old y)))
        (step_back true c s),
    (refl, (refl, (refl, refl))),
    put-short true (λ e. g) OldRoute,
  )
  line_on Cloth NewRoute g = (
    λ s. ap (λ (y : List ℕ). headed v NewRoute t (start_line v t.new_start (steps_back t.new y)))
        (step_back true c s),
    (refl, (refl, (refl, refl))),
    put-short true (λ e. g) NewRoute,
  )
  line_on Cloth JobPart g = absurd (false≢true g)
  line_on Start OldRoute g = (
    λ s. ap (headed v OldRoute t) (start_back v c.ins s g),
    (refl, (refl, (refl, refl))),
    record {
      old_places = lines.old_places;
      old_start = start-short v c.ins g line.1.0;
      old = tt;
      new_places = low-short v limits 0 (omega arith);
      new_start = no-start-short v;
      new = tt;
      done = tt;
    },
  )
  line_on Start NewRoute g = (
    λ s. ap (headed v NewRoute t) (start_back v c.ins s g),
    (refl, (refl, (refl, refl))),
    record {
      old_places = lines.old_places;
      old_start = lines.old_start;
      old = lines.old;
      new_places = lines.new_places;
      new_start = start-short v c.ins g line.1.0;
      new = tt;
      done = tt;
    },
  )
  line_on Start JobPart g = absurd (false≢true g)

  at-lf : (w : Word) (p : Part) (b : ℕ) → Shape v (Lf w p) c → alive (next v (Lf w p) b) ≡ true
      → Onward v (Lf w p) b c t (next v (Lf w p) b) no_line (put_line w p c t)
  unfolding next sofar
  at-lf w p b h =
      let on = line_on w p h in
      expected (λ x q. Onward v (Lf w p) x c t q no_line (put_line w p c t)) b 10 (past_line v w p)
      (record { same = on.0; shape = on.1; line = no-line-short v limits; lines = on.2 })

  -- every byte that the layout has
  pub onward : (p : Point) (b : ℕ) → Shape v p c → alive (next v p b) ≡ true
      → Onward v p b c t (next v p b) (took p b c) (keep p c t)
  unfolding took keep
  onward Top b h l = at-start v limits c t line lines b l
  onward (Open p) b h l = at_open v limits c t line lines p b h l
  onward (Choice p) b h l = at-choice v limits c t line lines p b h l
  onward (Letters w p k) b h l = at-letters v limits c t line lines w p k b h l
  onward (Past w p) b h l = at-past v limits c t line lines w p b h l
  onward (Digit w p) b h l = at-digit v limits c t line lines w p b h l
  onward (Digits w p k) b h l = at-digits v limits c t line lines w p k b h l
  onward (Gap w p) b h l = at_gap v limits c t line lines w p b h l
  onward (Closed w p) b h l = at-closed v limits c t line lines w p b h l
  onward (Lf w p) b h l = at-lf w p b h l
  onward Stuck b h l = absurd (never (unfold next in l))
