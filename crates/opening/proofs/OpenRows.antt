-- The rows of a route as a whole in turn: 6 and 7, then 23 by what a pass over the steps found.
use Rattle.std.proofs.Common.{◌≡◌, sym, ap, ◌∙◌, ℕ, ◌+◌, List}
use Rattle.route.specs.declared.Places.{Places}
use Rattle.route.specs.declared.Step.{Step}
use Rattle.refusal.specs.Rows.{pass, refuse, first, each_line}
use Rattle.refusal.specs.Refusal.{number_of}
use Rattle.refusal.specs.declared.Outcome.{Outcome}
use Rattle.refusal.specs.declared.Refusal.{Refusal}
use Rattle.refusal.proofs.Answered.{err-refuses, ok-passes}
use Rattle.opening.specs.Gathered.{GatheredFrom}
use Rattle.opening.specs.Net.{net_row, open_row}
use Rattle.opening.specs.Unwritten.{reads_among, unwritten_rows}
use Rattle.opening.specs.declared.Gathered.{Gathered}

module _ (line : ℕ) (places : Places) (l : List Step) where
  pub open-net : (r : Refusal) → refuse (number_of r.row) r.second ≡ net_row line places l
      → refuse (number_of r.row) r.second ≡ open_row line places l
  unfolding open_row
  open-net r is = err-refuses r (net_row line places l) is _

  pub open-reads : pass ≡ net_row line places l → (e : Gathered) → GatheredFrom l e → (o : Outcome)
      → o ≡ first (each_line (reads_among e.writes) 23 (line + 2) l) → o ≡ open_row line places l
  unfolding open_row unwritten_rows
  open-reads net e ends o reads =
      reads
      ∙ ap (λ (w : ℕ). first (each_line (reads_among w) 23 (line + 2) l)) ends.writes
      ∙ sym (ok-passes (net_row line places l) net _)
