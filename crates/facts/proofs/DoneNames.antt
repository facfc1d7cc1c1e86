-- The done names that reading gives lie in 64 entries.
-- Assumes nothing.
use mathlib.Core.Path.{◌≡◌, sym, subst, ◌∙◌}
use mathlib.Core.List.{List}
use Prim.Native.Nat.{ℕ, ◌-◌, ◌≤◌}
use native.Mathlib.Omega.{arith}
use lib.ListN.{length, replicate, length-append, length-replicate}
use Rattle.version.specs.declared.Version.{Version}
use Rattle.layout.specs.Text.{Lines}
use Rattle.layout.specs.Parse.{Parsed, parse}
use Rattle.facts.specs.Facts.{failed, facts_of, answered, read_by}
use Rattle.facts.specs.SheetRows.{sheet_rows, facts_record}
use Rattle.facts.specs.declared.Sheet.{Sheet}
use Rattle.facts.proofs.RowsFold.{Stand, stands, fails, facts-stand}

pub record Dones (s : Sheet) : Type 0 where
  pub room : length s.done ≡ 64

no-dones : (n k : ℕ) → Dones (failed n k)
unfolding failed
no-dones n k = record { room = length-replicate {A = ℕ} 64 0 }

facts-dones : (v : Version) (x : Lines) → Dones (facts_of v x)
unfolding facts_record
facts-dones v x = go (facts-stand v x)
  where
    go : Stand (facts_of v x) (sheet_rows v x) (facts_record v x) (length x.done ≤ 64) → Dones (facts_of v x)
    go (stands e q h) = subst Dones (sym q) (record {
      room = length-append x.done (replicate (64 - length x.done) 0)
          ∙ omega (arith, length-replicate {A = ℕ} (64 - length x.done) 0, h);
    })
    go (fails e q) = subst Dones (sym q) (no-dones _ _)

pub read-dones : (v : Version) (s : List ℕ) → Dones (read_by v s)
unfolding read_by answered
read-dones v s = go (parse v s)
  where
    go : (p : Parsed) → Dones (answered v (length s) p)
    go (Parsed.read x) = facts-dones v x
    go (Parsed.broken r) = no-dones 1 _
