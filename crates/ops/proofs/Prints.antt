-- Print: what reading and judging tell is what the listing is made of.
use mathlib.Core.Path.{◌≡◌, refl, sym, ap, ◌∙◌, subst}
use mathlib.Core.Bool.{Bool, true, false, cond}
use mathlib.Core.List.{List}
use Prim.Native.Nat.{ℕ, ◌*◌, ◌≤◌, ◌<◌}
use native.Mathlib.Omega.{arith}
use Rattle.version.specs.Limits.{present}
use Rattle.std.specs.Prelude.{Ok, Err}
use lib.Dec.{eqb, leb}
use lib.ListN.{length, take}
use borrow.Author.Tests.{leb-true, le-leb, lt-leb, eq-eqb}
use Rattle.facts.specs.Facts.{read_of, job_read}
use Rattle.job.specs.Job.{Job, flat_job}
use Rattle.judging.specs.Judge.{judged, work_after}
use Rattle.answering.specs.Answer.{judge_stopped}
use Rattle.answering.specs.declared.Judged.{Judged}
use Rattle.judging.proofs.JudgeOperation as J
use Rattle.listing.specs.Listing.{listing}
use Rattle.out_slice.specs.OutSlice.{unwritten, whole, wrote_text, out_with}
use Rattle.out_slice.specs.declared.Wrote.{Wrote}
use Rattle.reader.specs.inner.Read.{ReadTo}
use Rattle.reader.specs.Refused.{counts_of}
use Rattle.reader.specs.declared.Lengths.{Lengths}
use Rattle.refusal.specs.Refusal.{number_of}
use Rattle.refusal.specs.declared.Refusal.{Refusal}
use Rattle.refusal.proofs.Answered.{number-some}
use Rattle.ops.specs.Print.{sheet_answer, listing_of, printed, out_printed, work_printed}
use Rattle.reader.proofs.JobOfLists.{read-job}
use Rattle.mask.proofs.Truth.{cond_yes, cond_no}

-- ---- judge's answer to a sheet

-- a work slice that is long enough changes nothing in the answer
pub enough-work : (j : Job) (room : ℕ) → 8192 ≤ room → judged j room ≡ judged j 8192
unfolding judged
enough-work j room h = sym (cond_yes _ _ refl (le-leb 8192 room h))

module _ (s : List ℕ) (e : Refusal) (old new done : List ℕ) (k : ReadTo s (counts_of (Err e)) old new done) where
  refused : eqb (read_of s).number 0 ≡ false
  refused = ap (λ (n : ℕ). eqb n 0) (sym k.number) ∙ number-some e.row

  pub answer-refused : judge_stopped (number_of e.row) e.second ≡ sheet_answer s
  unfolding sheet_answer
  answer-refused = (λ i. judge_stopped (k.number i) (k.second i)) ∙ cond_no _ _ refl refused

  pub work-refused : (w : List ℕ) → w ≡ work_printed s w
  unfolding work_printed
  work-refused w = cond_no _ w refl refused

module _ (s : List ℕ) (c : Lengths) (old new done : List ℕ) (k : ReadTo s (counts_of (Ok c)) old new done)
    (j : Job) (is : j ≡ flat_job c.old_places (take (4 * c.old_len) old) c.new_places (take (4 * c.new_len) new)
    (take c.done_len done)) where
  reads : eqb (read_of s).number 0 ≡ true
  reads = eq-eqb (read_of s).number 0 (sym k.number)

  pub answer-judged : (w : List ℕ) → 8192 ≤ length w → (a : Judged) → a ≡ judged j (length w) → a ≡ sheet_answer s
  unfolding sheet_answer
  answer-judged w long a e =
      e
      ∙ ap (λ (j : Job). judged j (length w)) (read-job present s c old new done k j is)
      ∙ enough-work (job_read (read_of s)) (length w) long
      ∙ cond_yes _ _ refl reads

  pub work-judged : (w x : List ℕ) → x ≡ work_after j w → x ≡ work_printed s w
  unfolding work_printed
  work-judged w x e =
      e ∙ ap (λ (j : Job). work_after j w) (read-job present s c old new done k j is) ∙ cond_yes _ w refl reads

-- ---- the operation

module _ (s w o : List ℕ) where
  -- row 14
  module _ (short : length w < 8192) where
    pub printed-short : (x : Wrote) → x ≡ unwritten 14 0 → x ≡ printed s (length w) (length o)
    unfolding printed
    printed-short x e = e ∙ cond_no _ _ refl (lt-leb 8192 (length w) short)

    pub out-short : o ≡ out_printed s (length w) o
    unfolding out_printed
    out-short = cond_no _ o refl (lt-leb 8192 (length w) short)

    pub work-short : w ≡ work_printed s w
    unfolding work_printed
    work-short = go (eqb (read_of s).number 0)
      where
        go : (t : Bool) → w ≡ cond t (work_after (job_read (read_of s)) w) w
        go true = J.work-short (job_read (read_of s)) w short
        go false = refl

  -- and where there is room to work
  module _ (long : 8192 ≤ length w) (a : Judged) (told : a ≡ sheet_answer s) where
    pub printed-long : (x : Wrote) → x ≡ wrote_text (listing a) (length o) → x ≡ printed s (length w) (length o)
    unfolding printed listing_of
    printed-long x e = e ∙ ap (λ (y : Judged). wrote_text (listing y) (length o)) told
        ∙ cond_yes _ _ refl (le-leb 8192 (length w) long)

    pub out-long : (x : List ℕ) → x ≡ out_with (listing a) o → x ≡ out_printed s (length w) o
    unfolding out_printed listing_of
    out-long x e = e ∙ ap (λ (y : Judged). out_with (listing y) o) told ∙ cond_yes _ o refl (le-leb 8192 (length w) long)

-- the bytes written lie in the out slice
pub written-fits : (a : Wrote) (s : List ℕ) (work room : ℕ) → a ≡ printed s work room → a.written ≤ room
unfolding printed wrote_text
written-fits a s work room is = subst (λ (w : Wrote). w.written ≤ room) (sym is)
    (go (leb 8192 work) (leb (length (listing_of s)) room) refl)
  where
    go : (t u : Bool) → leb (length (listing_of s)) room ≡ u
        → (cond t (cond u (whole (length (listing_of s))) (unwritten 15 (length (listing_of s)))) (unwritten 14 0)).written
        ≤ room
    go true true e = leb-true (length (listing_of s)) room e
    go true false e = omega arith
    go false u e = omega arith
