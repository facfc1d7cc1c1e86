-- Rows 6 and 7 of the old route, then of the new. Whether they pass doesn't depend on the version. Assumes nothing.
use mathlib.Core.Path.{◌≡◌, sym, ap, ◌∙◌}
use mathlib.Core.Bool.{cond}
use mathlib.Core.List.{[], ◌∷◌}
use Prim.Native.Nat.{ℕ, ◌+◌}
use lib.Dec.{eqb}
use lib.ListN.{length}
use Rattle.refusal.specs.Rows.{pass, refuse, first}
use Rattle.refusal.specs.Refusal.{number_of}
use Rattle.refusal.specs.declared.Outcome.{Outcome}
use Rattle.refusal.specs.declared.Refusal.{Refusal}
use Rattle.refusal.proofs.Rows.{head-passes, head_passed, rows_end}
use Rattle.refusal.proofs.Answered.{err-refuses, ok-passes}
use Rattle.version.specs.declared.Version.{Version}
use Rattle.opening.specs.Net.{net_row_at}
use Rattle.opening.proofs.NetRows.{net-anywhere}
use Rattle.job.specs.Job.{Job}
use Rattle.facts.specs.SheetRows.{start_line_count}
use Rattle.facts.proofs.PassingLines.{Passes}
use Rattle.converting.specs.Nets.{new_head, net_rows}

module _ (v : Version) (j : Job) (starts head : ℕ) (starts-are : starts ≡ start_line_count v)
    (head-is : head ≡ 2 + starts + length j.old) where
  abbrev old : Outcome
  old = net_row_at 1 (1 + starts) j.old_places j.old

  abbrev new : Outcome
  new = net_row_at head (head + starts) j.new_places j.new

  nets-are : first (old ∷ new ∷ []) ≡ first (net_rows v j)
  unfolding net_rows
  nets-are =
      ap (λ (n : ℕ). first (old ∷ net_row_at n (n + starts) j.new_places j.new ∷ [])) head-is
      ∙ ap (λ (k : ℕ). first (net_row_at 1 (1 + k) j.old_places j.old
      ∷ net_row_at (2 + k + length j.old) (2 + k + length j.old + k) j.new_places j.new ∷ [])) starts-are

  pub old-net : (e : Refusal) → refuse (number_of e.row) e.second ≡ old
      → refuse (number_of e.row) e.second ≡ first (net_rows v j)
  old-net e is = err-refuses e old is (new ∷ []) ∙ nets-are

  module _ (passed : pass ≡ old) where
    pub new-net : (e : Refusal) → refuse (number_of e.row) e.second ≡ new
        → refuse (number_of e.row) e.second ≡ first (net_rows v j)
    new-net e is = err-refuses e new is [] ∙ sym (ok-passes old passed (new ∷ [])) ∙ nets-are

    pub nets-pass : pass ≡ new → pass ≡ first (net_rows v j)
    nets-pass is = sym (ok-passes old passed (new ∷ []) ∙ ok-passes new is [] ∙ rows_end) ∙ nets-are

-- the lines of another version
pub nets-in-another : (v w : Version) (j : Job) → Passes (net_rows v j) → Passes (net_rows w j)
unfolding net_rows
nets-in-another v w j e =
    let (old, rest) = head_passed (net_row_at 1 (1 + start_line_count v) j.old_places j.old) _ e in
    let (new, _) = head_passed (net_row_at (new_head v j) (new_head v j + start_line_count v) j.new_places j.new) [] rest in
    ap (λ (o : Outcome). eqb o.number 0)
    (head-passes (net_row_at 1 (1 + start_line_count w) j.old_places j.old) _
    (net-anywhere _ _ 1 (1 + start_line_count w) j.old_places j.old old)
    ∙ head-passes (net_row_at (new_head w j) (new_head w j + start_line_count w) j.new_places j.new) []
    (net-anywhere _ _ (new_head w j) (new_head w j + start_line_count w) j.new_places j.new new) ∙ rows_end)

-- how many start lines, as the code counts them
pub counted : (v : Version) (n : ℕ) → n ≡ cond v.starts 1 0 → n ≡ start_line_count v
unfolding start_line_count
counted v n is = is
