-- From every point that reading reaches, some sheet ends: each point's shortest ending leads to the next one's.
-- Assumes nothing.
use mathlib.Core.Path.{◌≡◌, refl, ◌∙◌}
use mathlib.Core.Bool.{Bool, true, false, cond, false≢true}
use mathlib.Core.List.{List, [], ◌∷◌, ◌++◌}
use Prim.Native.Nat.{ℕ, zero, suc, ◌+◌, ◌-◌, ◌≤◌, ◌<◌}
use native.Mathlib.Omega.{arith}
use lib.Dec.{eqb, ltb}
use lib.ListN.{length, get_or}
use borrow.Author.Tests.{eqb-false, eq-eqb, ne_eqb, ltb-true, lt-ltb}
use Rattle.version.specs.declared.Version.{Version}
use Rattle.layout.specs.Words.{spelling}
use Rattle.layout.specs.Text.{Lines}
use Rattle.layout.specs.Points.{digit, alive, expect, chosen, spelt, list_end, in_list, past_word, first}
use Rattle.layout.specs.Points.{ended, more, closed, past_head, past_line, next}
use Rattle.layout.specs.Parse.{Line, Parsed, took, put_line, keep, at_end, run}
use Rattle.layout.specs.declared.Word.{Word}
use Rattle.layout.specs.declared.Word.TheVariants.{Old, New, Job, Done, Step, In, Out, Read, Write, Cloth, Start}
use Rattle.layout.specs.declared.Part.{Part}
use Rattle.layout.specs.declared.Part.TheVariants.{OldRoute, NewRoute, JobPart}
use Rattle.layout.specs.declared.Point.{Point}
use Rattle.layout.specs.declared.Point.TheVariants.{Top, Open, Choice, Letters, Past, Digit, Digits, Gap}
use Rattle.layout.specs.declared.Point.TheVariants.{Closed, Lf, Stuck}
use Rattle.layout.proofs.Numbers.{run_on}
use Rattle.layout.proofs.PrefixStep.{never, expected, either, either-where, at_head, head-alive}

-- ---- the points that reading reaches

unfoldable pub numbered : Word → Bool
numbered Old = true
numbered New = true
numbered Job = false
numbered Done = true
numbered Step = true
numbered In = true
numbered Out = true
numbered Read = true
numbered Write = true
numbered Cloth = false
numbered Start = true

-- a step's list, or the mark: what has a closing bracket of its own
unfoldable pub bracketed : Word → Bool
bracketed Old = false
bracketed New = false
bracketed Job = false
bracketed Done = false
bracketed Step = false
bracketed In = true
bracketed Out = true
bracketed Read = true
bracketed Write = true
bracketed Cloth = true
bracketed Start = false

unfoldable pub good : Point → Bool
good Top = true
good (Open p) = true
good (Choice p) = true
good (Letters w p k) = ltb k (length (spelling w))
good (Past w p) = true
good (Digit w p) = numbered w
good (Digits w p k) = numbered w
good (Gap w p) = true
good (Closed w p) = bracketed w
good (Lf w p) = true
good Stuck = false

-- one byte on is good again
abbrev Good : ℕ → Point → Type 0
Good b q = good q ≡ true

word_some : (w : Word) → ltb 0 (length (spelling w)) ≡ true
unfolding spelling
word_some Old = refl
word_some New = refl
word_some Job = refl
word_some Done = refl
word_some Step = refl
word_some In = refl
word_some Out = refl
word_some Read = refl
word_some Write = refl
word_some Cloth = refl
word_some Start = refl

list-good : (w : Word) (p : Part) (b : ℕ) → numbered w ≡ true → good (list_end w p) ≡ true
    → alive (in_list w p b) ≡ true → good (in_list w p b) ≡ true
unfolding in_list good
list-good w p b n l = either Good b 32 (Digit w p) (expect b 41 (list_end w p)) n
    (λ far. expected Good b 41 (list_end w p) l)

past-good : (w : Word) (p : Part) (b : ℕ) → alive (past_word w p b) ≡ true → good (past_word w p b) ≡ true
unfolding past_word list_end good numbered bracketed
past-good Old p b = expected Good b 32 (Digit Old p) refl
past-good New p b = expected Good b 32 (Digit New p) refl
past-good Job p b = expected Good b 41 (Lf Job p) refl
past-good Done p b = expected Good b 32 (Digit Done p) refl
past-good Step p b = expected Good b 32 (Digit Step p) refl
past-good In p b = list-good In p b refl refl
past-good Out p b = list-good Out p b refl refl
past-good Read p b = list-good Read p b refl refl
past-good Write p b = list-good Write p b refl refl
past-good Cloth p b = expected Good b 41 (Closed Cloth p) refl
past-good Start p b = list-good Start p b refl refl

ended-good : (w : Word) (p : Part) (b : ℕ) → alive (ended w p b) ≡ true → good (ended w p b) ≡ true
unfolding ended list_end good numbered bracketed
ended-good Old p b = expected Good b 41 (Lf Old p) refl
ended-good New p b = expected Good b 41 (Lf New p) refl
ended-good Job p b = λ l. absurd (never l)
ended-good Done p b = expected Good b 41 (Lf Done p) refl
ended-good Step p b = expected Good b 32 (Gap In p) refl
ended-good In p b = list-good In p b refl refl
ended-good Out p b = list-good Out p b refl refl
ended-good Read p b = list-good Read p b refl refl
ended-good Write p b = list-good Write p b refl refl
ended-good Cloth p b = λ l. absurd (never l)
ended-good Start p b = list-good Start p b refl refl

closed-good : (v : Version) (w : Word) (p : Part) (b : ℕ) → alive (closed v w p b) ≡ true
    → good (closed v w p b) ≡ true
unfolding closed good
closed-good v Old p b = λ l. absurd (never l)
closed-good v New p b = λ l. absurd (never l)
closed-good v Job p b = λ l. absurd (never l)
closed-good v Done p b = λ l. absurd (never l)
closed-good v Step p b = λ l. absurd (never l)
closed-good v In p b = expected Good b 32 (Gap Out p) refl
closed-good v Out p b = expected Good b 32 (Gap Read p) refl
closed-good v Read p b = expected Good b 32 (Gap Write p) refl
closed-good v Write p b = either-where Good b 32 _ (Gap Cloth p) (expect b 41 (Lf Write p)) (λ has. refl)
    (expected Good b 41 (Lf Write p) refl)
closed-good v Cloth p b = expected Good b 41 (Lf Cloth p) refl
closed-good v Start p b = λ l. absurd (never l)

chosen-good : (p : Part) (b : ℕ) → alive (chosen p b) ≡ true → good (chosen p b) ≡ true
unfolding chosen good spelling
chosen-good OldRoute b = either Good b 115 (Letters Step OldRoute 1) (expect b 110 (Letters New NewRoute 1)) refl
    (λ far. expected Good b 110 (Letters New NewRoute 1) refl)
chosen-good NewRoute b = either Good b 115 (Letters Step NewRoute 1) (expect b 106 (Letters Job JobPart 1)) refl
    (λ far. expected Good b 106 (Letters Job JobPart 1) refl)
chosen-good JobPart b = expected Good b 100 (Letters Done JobPart 1) refl

spelt-good : (w : Word) (p : Part) (k b : ℕ) → alive (spelt w p k b) ≡ true → good (spelt w p k b) ≡ true
unfolding spelt good
spelt-good w p k b = inside (ltb k (length (spelling w))) refl
  where
    target : Bool → Point
    target x = cond x (Past w p) (Letters w p (k + 1))

    reached : (x : Bool) → eqb (k + 1) (length (spelling w)) ≡ x → k < length (spelling w) → good (target x) ≡ true
    reached true e room = refl
    reached false e room =
        let far : (k + 1 ≡ length (spelling w)) → ⊥ = eqb-false (k + 1) (length (spelling w)) e in
        lt-ltb (k + 1) (length (spelling w)) (omega arith)

    inside : (x : Bool) → ltb k (length (spelling w)) ≡ x
        → alive (cond x (expect b (get_or (spelling w) k 0) (target (eqb (k + 1) (length (spelling w))))) Stuck) ≡ true
        → good (cond x (expect b (get_or (spelling w) k 0) (target (eqb (k + 1) (length (spelling w))))) Stuck) ≡ true
    inside true e l = expected Good b (get_or (spelling w) k 0) (target (eqb (k + 1) (length (spelling w))))
        (reached (eqb (k + 1) (length (spelling w))) refl (ltb-true k (length (spelling w)) e)) l
    inside false e l = absurd (never l)

module _ (v : Version) where
  first_good : (w : Word) (p : Part) (b : ℕ) → numbered w ≡ true → alive (first v w p b) ≡ true
      → good (first v w p b) ≡ true
  unfolding first good
  first_good w p b h = either Good b 48 (Digits w p 0) (cond (digit b) (Digits w p (v.digits - 1)) Stuck) h
      (λ far. go (digit b))
    where
      go : (x : Bool) → alive (cond x (Digits w p (v.digits - 1)) Stuck) ≡ true
          → good (cond x (Digits w p (v.digits - 1)) Stuck) ≡ true
      go true l = h
      go false l = absurd (never l)

  more-good : (w : Word) (p : Part) (k b : ℕ) → numbered w ≡ true → alive (more w p k b) ≡ true
      → good (more w p k b) ≡ true
  unfolding more good
  more-good w p k b h = go (digit b) (ltb 0 k)
    where
      go : (x y : Bool) → alive (cond x (cond y (Digits w p (k - 1)) Stuck) (ended w p b)) ≡ true
          → good (cond x (cond y (Digits w p (k - 1)) Stuck) (ended w p b)) ≡ true
      go true true l = h
      go true false l = absurd (never l)
      go false true l = ended-good w p b l
      go false false l = ended-good w p b l

  -- past a line
  after-good : (w : Word) (p : Part) → (alive (past_line v w p) ≡ true) × (good (past_line v w p) ≡ true)
  unfolding past_line alive good
  after-good Old p = (head-alive v p, at_head v p (λ q. good q ≡ true) (λ has. refl) (λ lacks. refl))
  after-good New p = (head-alive v p, at_head v p (λ q. good q ≡ true) (λ has. refl) (λ lacks. refl))
  after-good Job p = (refl, refl)
  after-good Done p = (refl, refl)
  after-good Step p = (refl, refl)
  after-good In p = (refl, refl)
  after-good Out p = (refl, refl)
  after-good Read p = (refl, refl)
  after-good Write p = (refl, refl)
  after-good Cloth p = (refl, refl)
  after-good Start p = (refl, refl)

  pub stays-good : (p : Point) (b : ℕ) → good p ≡ true → alive (next v p b) ≡ true → good (next v p b) ≡ true
  unfolding next good
  stays-good Top b h = expected Good b 40 (Letters Old OldRoute 0) (word_some Old)
  stays-good (Open p) b h = expected Good b 40 (Choice p) refl
  stays-good (Choice p) b h = chosen-good p b
  stays-good (Letters w p k) b h = spelt-good w p k b
  stays-good (Past w p) b h = past-good w p b
  stays-good (Digit w p) b h = first_good w p b h
  stays-good (Digits w p k) b h = more-good w p k b h
  stays-good (Gap w p) b h = expected Good b 40 (Letters w p 0) (word_some w)
  stays-good (Closed w p) b h = closed-good v w p b
  stays-good (Lf w p) b h = expected Good b 10 (past_line v w p) (after-good w p).1
  stays-good Stuck b h = λ l. absurd (never l)

  -- ---- an ending from each

  pub record Ends (p : Point) (c : Line) (t : Lines) : Type 0 where
    pub ending : List ℕ
    pub lines : Lines
    pub reads : run v p c t ending ≡ Parsed.read lines

  by_byte : (p q : Point) (b : ℕ) (c : Line) (t : Lines) → next v p b ≡ q → alive q ≡ true
      → Ends q (took p b c) (keep p c t) → Ends p c t
  by_byte p q b c t e l on = record {
    ending = b ∷ on.ending;
    lines = on.lines;
    reads = run_on v p q b c t on.ending e l ∙ on.reads;
  }

  by_bytes : {p q : Point} {c d : Line} {t u : Lines} (l : List ℕ)
      → ((s : List ℕ) → run v p c t (l ++ s) ≡ run v q d u s) → Ends q d u → Ends p c t
  by_bytes l e on = record { ending = l ++ on.ending; lines = on.lines; reads = e on.ending ∙ on.reads }

  -- the letters of a word, from where it ends
  ends-letters : (w : Word) (p : Part) → ((c : Line) (t : Lines) → Ends (Past w p) c t) → (n k : ℕ)
      → k + n ≡ length (spelling w) → 1 ≤ n → (c : Line) (t : Lines) → Ends (Letters w p k) c t
  unfolding next spelt took keep
  ends-letters w p past zero k e l c t = absurd (omega arith)
  ends-letters w p past (suc zero) k e l c t =
      by_byte (Letters w p k) (Past w p) (get_or (spelling w) k 0) c t
      (rw (lt-ltb k (length (spelling w)) (omega arith))
      (unfold expect in rw (eq-eqb (get_or (spelling w) k 0) (get_or (spelling w) k 0) refl)
      (rw (eq-eqb (k + 1) (length (spelling w)) e))))
      (unfold alive in refl)
      (past c t)
  ends-letters w p past (suc (suc n)) k e l c t =
      by_byte (Letters w p k) (Letters w p (k + 1)) (get_or (spelling w) k 0) c t
      (rw (lt-ltb k (length (spelling w)) (omega arith))
      (unfold expect in rw (eq-eqb (get_or (spelling w) k 0) (get_or (spelling w) k 0) refl)
      (rw (ne_eqb (k + 1) (length (spelling w)) (omega arith)))))
      (unfold alive in refl)
      (ends-letters w p past (suc n) (k + 1) (omega arith) (omega arith) c t)

  -- past a list's word, from past its closing bracket
  ends-list : (w : Word) (p : Part) → ((c : Line) (t : Lines) → Ends (Closed w p) c t) → (c : Line) (t : Lines)
      → past_word w p 41 ≡ Closed w p → Ends (Past w p) c t
  unfolding next alive took keep
  ends-list w p closing c t e = by_byte (Past w p) (Closed w p) 41 c t e refl (closing c t)

  ends-gap : (w : Word) (p : Part) → ((c : Line) (t : Lines) → Ends (Past w p) c t) → (c : Line) (t : Lines)
      → Ends (Gap w p) c t
  unfolding next expect alive took keep
  ends-gap w p past c t = by_byte (Gap w p) (Letters w p 0) 40 c t refl refl
      (ends-letters w p past (length (spelling w)) 0 (omega arith) (ltb-true 0 (length (spelling w)) (word_some w)) c t)

  -- past a head, from past its start line
  ends-head : (p : Part) → ((c : Line) (t : Lines) → Ends (Open p) c t) → (c : Line) (t : Lines)
      → Ends (past_head v p) c t
  ends-head p below c t = at_head v p (λ q. Ends q c t) (λ has. ends-gap Start p past c t) (λ lacks. below c t)
    where
      past : (c : Line) (t : Lines) → Ends (Past Start p) c t
      past c t = by_byte (Past Start p) (Lf Start p) 41 c t (unfold next past_word in_list list_end expect in refl)
          (unfold alive in refl)
          (by_byte (Lf Start p) (Open p) 10 _ _ (unfold next past_line expect in refl) (unfold alive in refl)
          (below _ _))

  -- `(job)`, and before it `(new 0)` with an empty start
  ends-new : (c : Line) (t : Lines) → Ends (Open NewRoute) c t
  unfolding run next alive expect chosen spelt spelling past_word past_line took keep put_line at_end
  ends-new c t = record { ending = 40 ∷ 106 ∷ 111 ∷ 98 ∷ 41 ∷ 10 ∷ []; lines = _; reads = refl }

  ends-new-lf : (c : Line) (t : Lines) → Ends (Lf New NewRoute) c t
  ends-new-lf c t = by_byte (Lf New NewRoute) (past_head v NewRoute) 10 c t (unfold next past_line expect in refl)
      (head-alive v NewRoute) (ends-head NewRoute ends-new _ _)

  ends-choice : (p : Part) (c : Line) (t : Lines) → Ends (Choice p) c t
  unfolding run next alive expect chosen spelt spelling past_word first more ended past_line digit took keep put_line
      at_end
  ends-choice OldRoute c t = by_bytes (110 ∷ 101 ∷ 119 ∷ 32 ∷ 48 ∷ 41 ∷ []) (λ s. refl) (ends-new-lf _ t)
  ends-choice NewRoute c t = record { ending = 106 ∷ 111 ∷ 98 ∷ 41 ∷ 10 ∷ []; lines = _; reads = refl }
  ends-choice JobPart c t = record { ending = 100 ∷ 111 ∷ 110 ∷ 101 ∷ 32 ∷ 48 ∷ 41 ∷ 10 ∷ []; lines = _; reads = refl }

  ends_open : (p : Part) (c : Line) (t : Lines) → Ends (Open p) c t
  unfolding run next alive expect took keep at_end
  ends_open OldRoute c t = by_byte (Open OldRoute) (Choice OldRoute) 40 c t refl refl (ends-choice OldRoute c t)
  ends_open NewRoute c t = ends-new c t
  ends_open JobPart c t = record { ending = []; lines = _; reads = refl }

  ends-after : (w : Word) (p : Part) (c : Line) (t : Lines) → Ends (past_line v w p) c t
  unfolding past_line
  ends-after Old p c t = ends-head p (ends_open p) c t
  ends-after New p c t = ends-head p (ends_open p) c t
  ends-after Job p c t = ends_open p c t
  ends-after Done p c t = ends_open p c t
  ends-after Step p c t = ends_open p c t
  ends-after In p c t = ends_open p c t
  ends-after Out p c t = ends_open p c t
  ends-after Read p c t = ends_open p c t
  ends-after Write p c t = ends_open p c t
  ends-after Cloth p c t = ends_open p c t
  ends-after Start p c t = ends_open p c t

  ends-lf : (w : Word) (p : Part) (c : Line) (t : Lines) → Ends (Lf w p) c t
  unfolding next expect
  ends-lf w p c t = by_byte (Lf w p) (past_line v w p) 10 c t refl (after-good w p).0 (ends-after w p _ _)

  module _ (p : Part) where
    closed-write : (c : Line) (t : Lines) → Ends (Closed Write p) c t
    unfolding next closed expect alive took keep
    closed-write c t = by_byte (Closed Write p) (Lf Write p) 41 c t refl refl (ends-lf Write p c t)

    past-write : (c : Line) (t : Lines) → Ends (Past Write p) c t
    past-write c t = ends-list Write p closed-write c t (unfold past_word in_list list_end expect in refl)

    closed-cloth : (c : Line) (t : Lines) → Ends (Closed Cloth p) c t
    unfolding next closed expect alive took keep
    closed-cloth c t = by_byte (Closed Cloth p) (Lf Cloth p) 41 c t refl refl (ends-lf Cloth p c t)

    closed-read : (c : Line) (t : Lines) → Ends (Closed Read p) c t
    unfolding next closed expect alive took keep
    closed-read c t = by_byte (Closed Read p) (Gap Write p) 32 c t refl refl (ends-gap Write p past-write c t)

    past-read : (c : Line) (t : Lines) → Ends (Past Read p) c t
    past-read c t = ends-list Read p closed-read c t (unfold past_word in_list list_end expect in refl)

    closed-out : (c : Line) (t : Lines) → Ends (Closed Out p) c t
    unfolding next closed expect alive took keep
    closed-out c t = by_byte (Closed Out p) (Gap Read p) 32 c t refl refl (ends-gap Read p past-read c t)

    past-out : (c : Line) (t : Lines) → Ends (Past Out p) c t
    past-out c t = ends-list Out p closed-out c t (unfold past_word in_list list_end expect in refl)

    closed_in : (c : Line) (t : Lines) → Ends (Closed In p) c t
    unfolding next closed expect alive took keep
    closed_in c t = by_byte (Closed In p) (Gap Out p) 32 c t refl refl (ends-gap Out p past-out c t)

    past-in : (c : Line) (t : Lines) → Ends (Past In p) c t
    past-in c t = ends-list In p closed_in c t (unfold past_word in_list list_end expect in refl)

    ends-closed : (w : Word) (c : Line) (t : Lines) → bracketed w ≡ true → Ends (Closed w p) c t
    unfolding bracketed
    ends-closed In c t h = closed_in c t
    ends-closed Out c t h = closed-out c t
    ends-closed Read c t h = closed-read c t
    ends-closed Write c t h = closed-write c t
    ends-closed Cloth c t h = closed-cloth c t
    ends-closed Old c t h = absurd (false≢true h)
    ends-closed New c t h = absurd (false≢true h)
    ends-closed Job c t h = absurd (false≢true h)
    ends-closed Done c t h = absurd (false≢true h)
    ends-closed Step c t h = absurd (false≢true h)
    ends-closed Start c t h = absurd (false≢true h)

    ends-digits : (w : Word) (k : ℕ) (c : Line) (t : Lines) → numbered w ≡ true → Ends (Digits w p k) c t
    unfolding numbered next more digit ended in_list list_end expect alive keep
    ends-digits Old k c t h = by_byte (Digits Old p k) (Lf Old p) 41 c t refl refl (ends-lf Old p _ t)
    ends-digits New k c t h = by_byte (Digits New p k) (Lf New p) 41 c t refl refl (ends-lf New p _ t)
    ends-digits Done k c t h = by_byte (Digits Done p k) (Lf Done p) 41 c t refl refl (ends-lf Done p _ t)
    ends-digits Step k c t h = by_byte (Digits Step p k) (Gap In p) 32 c t refl refl (ends-gap In p past-in _ t)
    ends-digits In k c t h = by_byte (Digits In p k) (Closed In p) 41 c t refl refl (closed_in _ t)
    ends-digits Out k c t h = by_byte (Digits Out p k) (Closed Out p) 41 c t refl refl (closed-out _ t)
    ends-digits Read k c t h = by_byte (Digits Read p k) (Closed Read p) 41 c t refl refl (closed-read _ t)
    ends-digits Write k c t h = by_byte (Digits Write p k) (Closed Write p) 41 c t refl refl (closed-write _ t)
    ends-digits Job k c t h = absurd (false≢true h)
    ends-digits Cloth k c t h = absurd (false≢true h)
    ends-digits Start k c t h = by_byte (Digits Start p k) (Lf Start p) 41 c t refl refl (ends-lf Start p _ t)

    ends-digit : (w : Word) (c : Line) (t : Lines) → numbered w ≡ true → Ends (Digit w p) c t
    unfolding next first alive keep
    ends-digit w c t h = by_byte (Digit w p) (Digits w p 0) 48 c t refl refl (ends-digits w 0 _ t h)

    ends-past : (w : Word) (c : Line) (t : Lines) → Ends (Past w p) c t
    unfolding next past_word in_list list_end expect alive keep
    ends-past Old c t = by_byte (Past Old p) (Digit Old p) 32 c t refl refl
        (ends-digit Old _ t (unfold numbered in refl))
    ends-past New c t = by_byte (Past New p) (Digit New p) 32 c t refl refl
        (ends-digit New _ t (unfold numbered in refl))
    ends-past Done c t = by_byte (Past Done p) (Digit Done p) 32 c t refl refl
        (ends-digit Done _ t (unfold numbered in refl))
    ends-past Step c t = by_byte (Past Step p) (Digit Step p) 32 c t refl refl
        (ends-digit Step _ t (unfold numbered in refl))
    ends-past Job c t = by_byte (Past Job p) (Lf Job p) 41 c t refl refl (ends-lf Job p _ t)
    ends-past In c t = past-in c t
    ends-past Out c t = past-out c t
    ends-past Read c t = past-read c t
    ends-past Write c t = past-write c t
    ends-past Cloth c t = ends-list Cloth p closed-cloth c t refl
    ends-past Start c t = by_byte (Past Start p) (Lf Start p) 41 c t refl refl (ends-lf Start p _ t)

  -- every point that reading reaches
  pub ends : (p : Point) (c : Line) (t : Lines) → good p ≡ true → Ends p c t
  unfolding good
  ends Top c t h = by_byte Top (Letters Old OldRoute 0) 40 c t (unfold next expect in refl) (unfold alive in refl)
      (ends-letters Old OldRoute (ends-past OldRoute Old) (length (spelling Old)) 0 (omega arith)
      (ltb-true 0 (length (spelling Old)) (word_some Old)) _ _)
  ends (Open p) c t h = ends_open p c t
  ends (Choice p) c t h = ends-choice p c t
  ends (Letters w p k) c t h = let room : k < length (spelling w) =
      ltb-true k (length (spelling w)) h in ends-letters w p (ends-past p w) (length (spelling w) - k) k (omega arith)
      (omega arith) c t
  ends (Past w p) c t h = ends-past p w c t
  ends (Digit w p) c t h = ends-digit p w c t h
  ends (Digits w p k) c t h = ends-digits p w k c t h
  ends (Gap w p) c t h = ends-gap w p (ends-past p w) c t
  ends (Closed w p) c t h = ends-closed p w c t h
  ends (Lf w p) c t h = ends-lf w p c t
  ends Stuck c t h = absurd (false≢true h)
