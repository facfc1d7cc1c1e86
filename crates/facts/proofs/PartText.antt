-- The job part of a sheet that reads is the text of its job line and its done lines: a line has one LF, at its end.
-- Assumes nothing.
use mathlib.Core.Path.{◌≡◌, refl, sym, ap, ◌∙◌}
use mathlib.Core.Bool.{Bool, true, false, cond}
use mathlib.Core.List.{List, [], ◌∷◌, ◌++◌}
use Prim.Native.Nat.{ℕ, zero, suc, ◌+◌, ◌-◌, ◌/◌, ◌%◌}
use native.Mathlib.Omega.{arith}
use lib.Dec.{eqb, ltb}
use lib.ListN.{length, replicate, length-map}
use lib.Seq.{take-append_seam}
use borrow.Author.Tests.{ne_eqb, eq-eqb}
use Rattle.version.specs.Limits.{present}
use Rattle.version.proofs.Limits.{present-limits}
use Rattle.layout.specs.Words.{spelling}
use Rattle.layout.specs.Text.{Form, Lines, digits, number, entries, listed, marked, step_line, word_line, step_lines}
use Rattle.layout.specs.Text.{start_line, job_text, text}
use Rattle.layout.specs.declared.Word.{Word}
use Rattle.layout.specs.declared.Word.TheVariants.{Old, New}
use Rattle.layout.proofs.Sound.{sound}
use Rattle.facts.specs.Forms.{record_of}
use Rattle.facts.specs.Facts.{read_of, job_read}
use Rattle.facts.specs.SheetRows.{filled, facts_record}
use Rattle.facts.specs.JobPart.{after_lines, job_part}
use Rattle.facts.specs.declared.Sheet.{Sheet}
use Rattle.facts.proofs.ReadRecords.{ReadAs, reads_as}

over-byte : (k b : ℕ) (s : List ℕ) → eqb b 10 ≡ false → after_lines (suc k) (b ∷ s) ≡ after_lines (suc k) s
unfolding after_lines
over-byte k b s h = ap (λ (t : Bool). cond t (after_lines k s) (after_lines (suc k) s)) h

over-digits : (f k n : ℕ) (s : List ℕ) → after_lines (suc k) (digits f n s) ≡ after_lines (suc k) s
unfolding digits
over-digits zero k n s = refl
over-digits (suc f) k n s = go (ltb n 10) (over-digits f k (n / 10) ((48 + n % 10) ∷ s))
  where
    go : (t : Bool) → after_lines (suc k) (digits f (n / 10) ((48 + n % 10) ∷ s))
        ≡ after_lines (suc k) ((48 + n % 10) ∷ s) → after_lines (suc k)
        (cond t ((48 + n) ∷ s) (digits f (n / 10) ((48 + n % 10) ∷ s))) ≡ after_lines (suc k) s
    go true ih = over-byte k (48 + n) s (ne_eqb (48 + n) 10 (omega arith))
    go false ih = ih ∙ over-byte k (48 + n % 10) s (ne_eqb (48 + n % 10) 10 (omega arith))

over-number : (k n : ℕ) (s : List ℕ) → after_lines (suc k) (number n s) ≡ after_lines (suc k) s
unfolding number
over-number k n s = over-digits 20 k n s

over-entries : (k : ℕ) (l s : List ℕ) → after_lines (suc k) (entries l s) ≡ after_lines (suc k) s
unfolding entries
over-entries k [] s = refl
over-entries k (n ∷ l) s = over-byte k 32 (number n (entries l s)) refl ∙ over-number k n (entries l s)
    ∙ over-entries k l s

over-word-line : (k : ℕ) (w : Word) (n : ℕ) (s : List ℕ)
    → ((r : List ℕ) → after_lines (suc k) (spelling w ++ r) ≡ after_lines (suc k) r)
    → after_lines (suc k) (word_line w n s) ≡ after_lines k s
unfolding word_line after_lines
over-word-line k w n s word = word (32 ∷ number n (41 ∷ 10 ∷ s)) ∙ over-number k n (41 ∷ 10 ∷ s)

over-marked : (k : ℕ) (m : Bool) (s : List ℕ) → after_lines (suc k) (marked m s) ≡ after_lines (suc k) s
unfolding marked spelling after_lines
over-marked k true s = refl
over-marked k false s = refl

over-step-line : (k : ℕ) (f : Form) (s : List ℕ) → after_lines (suc k) (step_line f s) ≡ after_lines k s
unfolding step_line listed spelling after_lines
over-step-line k f s =
    over-number k f.name _
    ∙ over-entries k f.ins _
    ∙ over-entries k f.outs _
    ∙ over-entries k f.reads _
    ∙ over-entries k f.writes _
    ∙ over-marked k f.cloth _

over-steps : (l : List Form) (k : ℕ) (s : List ℕ) → after_lines (length l + k) (step_lines l s) ≡ after_lines k s
unfolding step_lines
over-steps [] k s = ap (λ (n : ℕ). after_lines n s) (omega arith)
over-steps (f ∷ l) k s = ap (λ (n : ℕ). after_lines n (step_line f (step_lines l s))) (omega arith)
    ∙ over-step-line (length l + k) f (step_lines l s) ∙ over-steps l k s

-- the present version has start lines
over-start : (k : ℕ) (l s : List ℕ) → after_lines (suc k) (start_line present l s) ≡ after_lines k s
unfolding start_line spelling after_lines
over-start k l s = over-entries k l (41 ∷ 10 ∷ s)

over-text : (x : Lines) → after_lines (length x.old + length x.new + 4) (text present x) ≡ job_text x.done
unfolding text
over-text x =
    ap (λ (n : ℕ). after_lines n (text present x)) first-line
    ∙ over-word-line (suc (length x.old + suc (suc (length x.new + 0)))) Old x.old_places _
    (unfold spelling after_lines in λ r. refl)
    ∙ over-start (length x.old + suc (suc (length x.new + 0))) x.old_start _
    ∙ over-steps x.old (suc (suc (length x.new + 0))) _
    ∙ over-word-line (suc (length x.new + 0)) New x.new_places _ (unfold spelling after_lines in λ r. refl)
    ∙ over-start (length x.new + 0) x.new_start _
    ∙ over-steps x.new 0 (job_text x.done)
    ∙ (unfold after_lines in refl)
  where
    first-line : length x.old + length x.new + 4
        ≡ suc (suc (length x.old + suc (suc (length x.new + 0))))
    first-line = omega arith

-- the job part of a sheet that reads
pub job-part-text : (s : List ℕ) → (read_of s).number ≡ 0 → job_part s ≡ job_text (job_read (read_of s)).done
unfolding job_part facts_record filled
job-part-text s z =
    ap (λ (t : Bool). cond t (after_lines ((read_of s).old.len + (read_of s).new.len + 4) s) [])
    (eq-eqb (read_of s).number 0 z)
    ∙ ap (λ (y : Sheet). after_lines (y.old.len + y.new.len + 4) s) r.facts
    ∙ (λ i. after_lines (length-map x.old record_of i + length-map x.new record_of i + 4)
    ((sound present present-limits s x r.parsed).same i))
    ∙ over-text x
    ∙ ap job_text (sym (ap (λ (y : Sheet). (job_read y).done) r.facts
    ∙ take-append_seam x.done (replicate (64 - length x.done) 0)))
  where
    r : ReadAs present s
    r = reads_as present s z

    x : Lines
    x = r.lines
