-- The rows of up and of down in turn: what reading refuses, then rows 6 and 7, then going down 22. Assumes nothing.
use mathlib.Core.Path.{◌≡◌, sym, ap, ◌∙◌, subst}
use mathlib.Core.List.{List}
use Prim.Native.Nat.{ℕ, ◌*◌}
use Rattle.std.specs.Prelude.{Ok, Err}
use lib.ListN.{take}
use Rattle.refusal.specs.Rows.{pass, refuse, first}
use Rattle.refusal.specs.Refusal.{number_of}
use Rattle.refusal.specs.declared.Outcome.{Outcome}
use Rattle.refusal.specs.declared.Refusal.{Refusal}
use Rattle.refusal.proofs.Answered.{err-refuses, ok-passes, err-rows, ok-rows}
use Rattle.version.specs.Limits.{scope, present}
use Rattle.version.specs.declared.Version.{Version}
use Rattle.job.specs.Job.{Job, flat_job}
use Rattle.facts.specs.Facts.{read_by}
use Rattle.reader.specs.inner.Read.{ReadInto}
use Rattle.reader.specs.Refused.{counts_of}
use Rattle.reader.specs.declared.Lengths.{Lengths}
use Rattle.reader.proofs.JobOfLists.{lists-read, read-job, Few, job-few}
use Rattle.out_slice.specs.OutSlice.{wrote_text, out_with, wrote_past, out_past}
use Rattle.out_slice.specs.declared.Wrote.{Wrote}
use Rattle.out_slice.proofs.PastRows.{text-answer, text_out}
use Rattle.converting.specs.Up.{with_implied, scope_job, read_row, up_row}
use Rattle.converting.specs.Nets.{net_rows}
use Rattle.converting.specs.Beyond.{beyond_rows}
use Rattle.converting.specs.Down.{present_job, down_row}

module _ (v : Version) (s : List ℕ) (old new done : List ℕ) where
  -- reading refuses
  pub unread : (e : Refusal) → ReadInto v s (counts_of (Err e)) old new done
      → refuse (number_of e.row) e.second ≡ read_row (read_by v s)
  unread e k = λ i. record { number = k.number i; second = k.second i }

  -- or doesn't
  module _ (c : Lengths) (k : ReadInto v s (counts_of (Ok c)) old new done) where
    pub read_on : pass ≡ read_row (read_by v s)
    read_on = λ i. record { number = k.number i; second = k.second i }

    -- and the job of the lists is small
    pub few : (j : Job) → j ≡ flat_job c.old_places (take (4 * c.old_len) old) c.new_places
        (take (4 * c.new_len) new) (take c.done_len done) → Few j
    few j is = subst Few (sym (read-job v s c old new done k j is)) (job-few v s (lists-read v s c old new done k))

module _ (s : List ℕ) where
  pub up-unread : (e : Refusal) → refuse (number_of e.row) e.second ≡ read_row (read_by scope s)
      → refuse (number_of e.row) e.second ≡ up_row s
  unfolding up_row
  up-unread e is = err-refuses e _ is _

  pub up-nets : pass ≡ read_row (read_by scope s) → (j : Job) → j ≡ scope_job s → (o : Outcome)
      → o ≡ first (net_rows scope j) → o ≡ up_row s
  unfolding up_row
  up-nets read j is o nets = nets ∙ ap (λ (k : Job). first (net_rows scope k)) is ∙ sym (ok-passes _ read _)

  pub down-unread : (e : Refusal) → refuse (number_of e.row) e.second ≡ read_row (read_by present s)
      → refuse (number_of e.row) e.second ≡ down_row s
  unfolding down_row
  down-unread e is = err-refuses e _ is _

  module _ (read : pass ≡ read_row (read_by present s)) (j : Job) (is : j ≡ present_job s) where
    pub down-nets : (e : Refusal) → refuse (number_of e.row) e.second ≡ first (net_rows present j)
        → refuse (number_of e.row) e.second ≡ down_row s
    unfolding down_row
    down-nets e nets =
        err-rows e (net_rows present (present_job s)) (nets ∙ ap (λ (k : Job). first (net_rows present k)) is) _
        ∙ sym (ok-passes _ read _)

    pub down-beyond : pass ≡ first (net_rows present j) → (o : Outcome) → o ≡ first (beyond_rows j) → o ≡ down_row s
    unfolding down_row
    down-beyond nets o beyond =
        beyond ∙ ap (λ (k : Job). first (beyond_rows k)) is
        ∙ sym (ok-rows (net_rows present (present_job s)) (nets ∙ ap (λ (k : Job). first (net_rows present k)) is) _)
        ∙ sym (ok-passes _ read _)

-- with the implied starts it is as small
pub implied-few : (j k : Job) → k ≡ with_implied j → Few j → Few k
implied-few j k is h = subst Few (sym is)
    (record { old_places = h.old_places; old = h.old; new_places = h.new_places; new = h.new })

-- no row refuses: the job's text is written
module _ (o : Outcome) (text : Job → List ℕ) (j k : Job) (rows : pass ≡ o) (is : j ≡ k) where
  pub job-answer : (room : ℕ) (r : Wrote) → r ≡ wrote_text (text j) room → r ≡ wrote_past o (text k) room
  job-answer room r e =
      text-answer o (text k) (sym (ap (λ (x : Outcome). x.number) rows)) room r
      (e ∙ ap (λ (i : Job). wrote_text (text i) room) is)

  pub job-out : (out p : List ℕ) → p ≡ out_with (text j) out → p ≡ out_past o (text k) out
  job-out out p e =
      text_out o (text k) (sym (ap (λ (x : Outcome). x.number) rows)) out p
      (e ∙ ap (λ (i : Job). out_with (text i) out) is)
