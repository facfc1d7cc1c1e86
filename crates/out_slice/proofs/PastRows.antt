-- Rows that go before the text: what they refuse by, or else what is answered of the text. Assumes nothing.
use mathlib.Core.Path.{◌≡◌, refl, sym, ap, ◌∙◌}
use mathlib.Core.Bool.{Bool, true, false, cond, false≢true}
use mathlib.Core.List.{List, ◌++◌}
use Prim.Native.Nat.{ℕ, ◌≤◌}
use lib.Dec.{eqb}
use lib.ListN.{length, take, drop}
use lib.Seq.{take-append_seam}
use borrow.Author.Tests.{eq-eqb, eqb-true}
use Rattle.mask.proofs.Truth.{cond_yes, cond_no}
use Rattle.refusal.specs.Rows.{refuse}
use Rattle.refusal.specs.Refusal.{number_of}
use Rattle.refusal.specs.declared.Outcome.{Outcome}
use Rattle.refusal.specs.declared.Refusal.{Refusal}
use Rattle.refusal.proofs.Answered.{number-some}
use Rattle.out_slice.specs.OutSlice.{unwritten, whole, wrote_text, out_with, wrote_past, out_past}
use Rattle.out_slice.specs.declared.Wrote.{Wrote}
use Rattle.out_slice.proofs.TextInSlice.{fits-answer, fits_out, answer-fits}

-- a row refuses
module _ (o : Outcome) (t : List ℕ) (e : Refusal) (is : refuse (number_of e.row) e.second ≡ o) where
  off : eqb o.number 0 ≡ false
  off = ap (λ (x : Outcome). eqb x.number 0) (sym is) ∙ number-some e.row

  pub refused-answer : (n : ℕ) → unwritten (number_of e.row) e.second ≡ wrote_past o t n
  unfolding wrote_past
  refused-answer n = ap (λ (x : Outcome). unwritten x.number x.second) is ∙ cond_no _ _ refl off

  pub refused-out : (l : List ℕ) → l ≡ out_past o t l
  unfolding out_past
  refused-out l = cond_no _ l refl off

-- none does: the answer and the slice are the text's
module _ (o : Outcome) (t : List ℕ) (pass : o.number ≡ 0) where
  pub text-answer : (n : ℕ) (r : Wrote) → r ≡ wrote_text t n → r ≡ wrote_past o t n
  unfolding wrote_past
  text-answer n r e = e ∙ cond_yes _ _ refl (eq-eqb _ 0 pass)

  pub text_out : (l p : List ℕ) → p ≡ out_with t l → p ≡ out_past o t l
  unfolding out_past
  text_out l p e = e ∙ cond_yes _ l refl (eq-eqb _ 0 pass)

-- none does, and there is room
module _ (o : Outcome) (t out : List ℕ) (pass : o.number ≡ 0) (room : length t ≤ length out) where
  pub past-whole : wrote_past o t (length out) ≡ whole (length t)
  past-whole = sym (text-answer o t pass (length out) _ (sym (fits-answer t (length out) room)))

  pub past-bytes : out_past o t out ≡ t ++ drop (length t) out
  past-bytes = sym (text_out o t pass out _ (sym (fits_out t out room)))

  pub past-stands : take (wrote_past o t (length out)).written (out_past o t out) ≡ t
  past-stands = (λ i. take (past-whole i).written (past-bytes i)) ∙ take-append_seam t (drop (length t) out)

-- where the answer is a success, none does, and there was room
pub past-fits : (o : Outcome) (t : List ℕ) (room : ℕ) → (wrote_past o t room).number ≡ 0
    → (o.number ≡ 0) × (length t ≤ room)
unfolding wrote_past
past-fits o t room = go (eqb o.number 0) refl
  where
    go : (b : Bool) → eqb o.number 0 ≡ b
        → (cond b (wrote_text t room) (unwritten o.number o.second)).number ≡ 0 → (o.number ≡ 0) × (length t ≤ room)
    go true e z = (eqb-true o.number 0 e, answer-fits t room z)
    go false e z = absurd (false≢true (sym e ∙ eq-eqb o.number 0 z))
