-- Sheets between editions, in the out slice: up and down undo each other, down succeeds exactly on what up gives, and
-- 22 is the answer exactly where up gives the sheet of none. Assumes nothing.
use mathlib.Core.Path.{◌≡◌, refl, sym, ap, ◌∙◌, subst}
use mathlib.Core.Logic.{◌↔◌, ◌⊎◌, inl, inr}
use mathlib.Core.Bool.{Bool, true, false, cond}
use mathlib.Core.List.{List, [], ◌++◌}
use Prim.Native.Nat.{ℕ, ◌+◌, ◌≤◌}
use native.Mathlib.Nat.{le_refl}
use native.Mathlib.Omega.{arith}
use lib.Dec.{eqb, leb}
use lib.ListN.{length, take, drop, replicate, length-replicate}
use lib.Seq.{take-append_seam}
use borrow.Author.Tests.{eq-eqb}
use Rattle.refusal.specs.Rows.{unless, first, each_line}
use Rattle.refusal.specs.declared.Outcome.{Outcome}
use Rattle.refusal.proofs.Rows.{rows_end, first-number, unless-number, append-number}
use Rattle.refusal.proofs.Rows.{head_passed, head-passes, rows_pass}
use Rattle.mask.proofs.Truth.{cond_no}
use Rattle.out_slice.specs.OutSlice.{unwritten, whole, wrote_text, wrote_past, out_past}
use Rattle.out_slice.specs.declared.Wrote.{Wrote}
use Rattle.out_slice.proofs.PastRows.{past-whole, past-bytes, past-stands, past-fits}
use Rattle.facts.specs.Facts.{read_by, read_of, job_read}
use Rattle.facts.specs.LinesOf.{lines_of}
use Rattle.facts.proofs.RowOne.{read-number}
use Rattle.layout.specs.Begins.{IsSheet}
use Rattle.opening.specs.Net.{net_row_at}
use Rattle.version.specs.Limits.{scope, present}
use Rattle.route.specs.declared.Places.{Places}
use Rattle.route.specs.declared.Step.{Step}
use Rattle.job.specs.Job.{Job, new_line, job_line}
use Rattle.converting.specs.Beyond.{says_name, says_step, says_start, beyond_route, beyond_rows}
use Rattle.converting.specs.Nets.{net_rows}
use Rattle.converting.specs.Up.{with_implied, read_row, scope_job, up_row, up_text, raised, out_raised}
use Rattle.converting.specs.Down.{down_row, down_text, lowered, out_lowered}
use Rattle.writer.specs.Written.{written_by}
use Rattle.converting.specs.Either.{has_start_line, converted, out_converted}
use Rattle.converting.proofs.Raised.{of-scope, up-number, up-job}
use Rattle.converting.proofs.SecondLine.{present-has, scope-lacks}
use Rattle.converting.proofs.ThereAndBack.{up-read, down-passes, up-then-down, up-passes, down-then-up}
use Rattle.theorems.specs.Sheets.{job_on}
use Rattle.theorems.proofs.RowNumbers.{net-number, each-number}
use Rattle.theorems.specs.BetweenEditions.{Gives, Raises, Lowers, Converts, to_row_7}

-- a text past rows is given exactly where none refuses
module _ (o : Outcome) (u t : List ℕ) where
  given : o.number ≡ 0 → u ≡ t → Gives (wrote_past o u) (out_past o u) t
  given ok is = record {
    answers = λ out room. past-whole o u out ok (fits out room) ∙ ap (λ (l : List ℕ). whole (length l)) is;
    leaves = λ out room. past-bytes o u out ok (fits out room) ∙ ap (λ (l : List ℕ). l ++ drop (length l) out) is;
  }
    where
      fits : (out : List ℕ) → length t ≤ length out → length u ≤ length out
      fits out room = subst (λ (l : List ℕ). length l ≤ length out) (sym is) room

  given-only : Gives (wrote_past o u) (out_past o u) t → (o.number ≡ 0) × (u ≡ t)
  given-only g =
      let answers = g.answers t (le_refl (length t)) in
      let (ok, room) = past-fits o u (length t) (ap (λ (w : Wrote). w.number) answers) in (
        ok,
        sym (past-stands o u t ok room)
            ∙ (λ i. take (answers i).written (g.leaves t (le_refl (length t)) i))
            ∙ take-append_seam t (drop (length t) t),
      )

-- up gives t of s exactly where down gives s of t
pub there-and-back : (s t : List ℕ) → Raises s t ↔ Lowers t s
there-and-back s t = (to, from)
  where
    to : Raises s t → Lowers t s
    to g =
        let (ok, is) = given-only (up_row s) (up_text s) t g in
        given (down_row t) (down_text t) s (ap (λ (l : List ℕ). (down_row l).number) (sym is) ∙ down-passes s ok)
        (ap down_text (sym is) ∙ up-then-down s ok)

    from : Lowers t s → Raises s t
    from g =
        let (ok, is) = given-only (down_row t) (down_text t) s g in
        given (up_row s) (up_text s) t (ap (λ (l : List ℕ). (up_row l).number) (sym is) ∙ up-passes t ok)
        (ap up_text (sym is) ∙ down-then-up t ok)

-- what is given is a success, with room
succeeds : (answer : ℕ → Wrote) (after : List ℕ → List ℕ) (t : List ℕ) → Gives answer after t → (room : ℕ)
    → length t ≤ room → (answer room).number ≡ 0
succeeds answer after t g room fits =
    let long : length (replicate {A = ℕ} room 0) ≡ room = length-replicate {A = ℕ} room 0 in
    ap (λ (n : ℕ). (answer n).number) (sym long)
    ∙ ap (λ (w : Wrote). w.number) (g.answers (replicate room 0) (omega (arith, long, fits)))

-- down succeeds, with room, exactly on what up gives
pub down-succeeds : (t : List ℕ) (room : ℕ)
    → ((lowered t room).number ≡ 0) ↔ ((s : List ℕ) × Raises s t × (length s ≤ room))
down-succeeds t room = (to, from)
  where
    to : (lowered t room).number ≡ 0 → (s : List ℕ) × Raises s t × (length s ≤ room)
    to z =
        let (ok, fits) = past-fits (down_row t) (down_text t) room z in
        (down_text t, (there-and-back (down_text t) t).1 (given (down_row t) (down_text t) (down_text t) ok refl), fits)

    from : (s : List ℕ) × Raises s t × (length s ≤ room) → (lowered t room).number ≡ 0
    from (s, g, fits) = succeeds (lowered t) (out_lowered t) s ((there-and-back s t).0 g) room fits

-- and up exactly on what down gives
pub up-succeeds : (s : List ℕ) (room : ℕ)
    → ((raised s room).number ≡ 0) ↔ ((t : List ℕ) × Lowers t s × (length t ≤ room))
up-succeeds s room = (to, from)
  where
    to : (raised s room).number ≡ 0 → (t : List ℕ) × Lowers t s × (length t ≤ room)
    to z =
        let (ok, fits) = past-fits (up_row s) (up_text s) room z in
        (up_text s, (there-and-back s (up_text s)).0 (given (up_row s) (up_text s) (up_text s) ok refl), fits)

    from : (t : List ℕ) × Lowers t s × (length t ≤ room) → (raised s room).number ≡ 0
    from (t, g, fits) = succeeds (raised s) (out_raised s) t ((there-and-back s t).1 g) room fits

-- what up gives tells of the same job, with the start that each route implies
pub raised-job : (s t : List ℕ) → Raises s t
    → ((read_by scope s).number ≡ 0) × ((read_of t).number ≡ 0)
    × (job_on t ≡ with_implied (job_read (read_by scope s)))
raised-job s t g =
    let (ok, is) = given-only (up_row s) (up_text s) t g in
    let (number, job) =
    subst (λ (l : List ℕ). ((read_of l).number ≡ 0) × (job_on l ≡ with_implied (job_read (read_by scope s)))) is
    (up-number s (up-read s ok), up-job s (up-read s ok)) in
    (up-read s ok, number, job)

-- ---- 22

abbrev pub Only22 : ℕ → Type 0
Only22 n = (n ≡ 0) ⊎ (n ≡ 22)

lines-only : {A : Type 0} (says : A → Bool) (line : ℕ) (l : List A) → Only22 (first (each_line says 22 line l)).number
lines-only says line l = each-number Only22 says 22 line l (inl refl) (inr refl)

route-only : (line : ℕ) (places : Places) (l : List Step) → Only22 (first (beyond_route line places l)).number
unfolding beyond_route
route-only line places l = first-number Only22 (unless (says_start places l) 22 (line + 1)) _
    (unless-number Only22 (says_start places l) 22 (line + 1) (inl refl) (inr refl)) (lines-only says_step (line + 2) l)

pub rows-only : (j : Job) → Only22 (first (beyond_rows j)).number
unfolding beyond_rows
rows-only j =
    append-number Only22 (beyond_route 1 j.old_places j.old) _ (route-only 1 j.old_places j.old)
    (append-number Only22 (beyond_route (new_line j) j.new_places j.new) _ (route-only (new_line j) j.new_places j.new)
    (lines-only says_name (job_line j + 1) j.done))

-- the answer is 22 exactly where the rows before the text are
module _ (o : Outcome) (u : List ℕ) (room : ℕ) where
  past-22 : (wrote_past o u room).number ≡ 22 → o.number ≡ 22
  unfolding wrote_past wrote_text
  past-22 = go (eqb o.number 0)
    where
      text : (b : Bool) → (cond b (whole (length u)) (unwritten 15 (length u))).number ≡ 22 → ⊥
      text true e = omega (arith, e)
      text false e = omega (arith, e)

      go : (b : Bool) → (cond b (cond (leb (length u) room) (whole (length u)) (unwritten 15 (length u)))
          (unwritten o.number o.second)).number ≡ 22 → o.number ≡ 22
      go true e = absurd (text (leb (length u) room) e)
      go false e = e

  rows-22 : o.number ≡ 22 → (wrote_past o u room).number ≡ 22
  unfolding wrote_past
  rows-22 is = ap (λ (w : Wrote). w.number) (sym (cond_no _ _ refl (ap (λ (n : ℕ). eqb n 0) is))) ∙ is

-- a sheet that no row to 7 refuses is answered 22 exactly where up gives it of no sheet
module _ (t : List ℕ) (ok : (to_row_7 t).number ≡ 0) where
  beyond-is : down_row t ≡ first (beyond_rows (job_on t))
  unfolding down_row
  beyond-is =
      let (read, nets) = head_passed (read_row (read_of t)) _ (eq-eqb _ 0 ok) in
      head-passes (read_row (read_of t)) _ read ∙ rows_pass (net_rows present (job_on t)) (beyond_rows (job_on t)) nets

  down-only : Only22 (down_row t).number
  down-only = subst (λ (o : Outcome). Only22 o.number) (sym beyond-is) (rows-only (job_on t))

  pub twenty-two : (room : ℕ) → ((lowered t room).number ≡ 22) ↔ ((s : List ℕ) → Raises s t → ⊥)
  twenty-two room = (to, from down-only)
    where
      to : (lowered t room).number ≡ 22 → (s : List ℕ) → Raises s t → ⊥
      to is s g =
          let (passes, _) = given-only (down_row t) (down_text t) s ((there-and-back s t).0 g) in
          omega (arith, passes, past-22 (down_row t) (down_text t) room is)

      from : Only22 (down_row t).number → ((s : List ℕ) → Raises s t → ⊥) → (lowered t room).number ≡ 22
      from (inl z) none = absurd (none (down_text t)
          ((there-and-back (down_text t) t).1 (given (down_row t) (down_text t) (down_text t) z refl)))
      from (inr is) none = rows-22 (down_row t) (down_text t) room is

-- going up there is none
abbrev Low : ℕ → Type 0
Low n = n ≤ 7

none-low : Low (first []).number
none-low = omega (arith, ap (λ (o : Outcome). o.number) rows_end)

net-low : (head start : ℕ) (places : Places) (l : List Step) → Low (net_row_at head start places l).number
net-low = net-number Low (omega arith) (omega arith) (omega arith)

up-low : (s : List ℕ) → Low (up_row s).number
unfolding up_row net_rows
up-low s =
    let j = scope_job s in
    first-number Low (read_row (read_by scope s)) _
    (read-number Low (omega arith) (omega arith) (omega arith) (omega arith) (omega arith) (omega arith) scope s)
    (first-number Low _ _ (net-low _ _ j.old_places j.old)
    (first-number Low _ [] (net-low _ _ j.new_places j.new) none-low))

pub never-22 : (s : List ℕ) (room : ℕ) → (raised s room).number ≡ 22 → ⊥
never-22 s room is = omega (arith, up-low s, past-22 (up_row s) (up_text s) room is)

-- ---- either way: the second line tells

module _ (s : List ℕ) where
  pub scope-told : IsSheet scope s → has_start_line s ≡ false
  scope-told x = ap has_start_line x.same ∙ scope-lacks x.lines

  pub present-told : IsSheet present s → has_start_line s ≡ true
  present-told x = ap has_start_line x.same ∙ present-has x.lines

  -- convert gives as down does where the second line is a start line, and else as up does
  as-told : (b : Bool) → has_start_line s ≡ b → (t : List ℕ)
      → Converts s t
      ↔ Gives (λ n. cond b (lowered s n) (raised s n)) (λ o. cond b (out_lowered s o) (out_raised s o)) t
  unfolding converted out_converted
  as-told b is t =
      subst (λ (c : Bool). Gives (λ n. cond (has_start_line s) (lowered s n) (raised s n))
      (λ o. cond (has_start_line s) (out_lowered s o) (out_raised s o)) t
      ↔ Gives (λ n. cond c (lowered s n) (raised s n)) (λ o. cond c (out_lowered s o) (out_raised s o)) t) is
      (λ g. g, λ g. g)

-- what up gives is a sheet of the present layout, and what it is given one of 01's
raised-told : (s t : List ℕ) → Raises s t → (has_start_line s ≡ false) × (has_start_line t ≡ true)
unfolding written_by
raised-told s t g =
    let (ok, is) = given-only (up_row s) (up_text s) t g in
    (scope-told s (of-scope s (up-read s ok)), ap has_start_line (sym is) ∙ present-has (lines_of (scope_job s)))

-- so convert gives t of s exactly where it gives s of t
pub convert-back : (s t : List ℕ) → Converts s t → Converts t s
convert-back s t g = go (has_start_line s) refl
  where
    go : (b : Bool) → has_start_line s ≡ b → Converts t s
    go false lacks =
        let up : Raises s t = (as-told s false lacks t).0 g in
        (as-told t true (raised-told s t up).1 s).1 ((there-and-back s t).0 up)
    go true has =
        let up : Raises t s = (there-and-back t s).1 ((as-told s true has t).0 g) in
        (as-told t false (raised-told t s up).0 s).1 up
