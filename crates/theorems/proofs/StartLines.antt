-- The rows of a start line bound it: in a sheet that reads, its places rise and lie below the place count.
use mathlib.Core.Path.{◌≡◌, sym, ap, ◌∙◌}
use mathlib.Core.Bool.{true}
use mathlib.Core.List.{List}
use Prim.Native.Nat.{ℕ}
use Rattle.version.specs.Limits.{Limits}
use Rattle.version.specs.declared.Version.{Version}
use Rattle.layout.specs.Begins.{IsSheet}
use Rattle.facts.specs.Facts.{read_by}
use Rattle.facts.specs.Starts.{RisingBelow}
use Rattle.facts.specs.declared.Sheet.{Sheet}
use Rattle.facts.proofs.PassingLines.{lines-fine}
use Rattle.facts.proofs.RowsFold.{reads-facts}
use Rattle.facts.proofs.RowOne.{sheet-facts}

pub starts-fit : {v : Version} → Limits v → v.starts ≡ true → (s : List ℕ) (x : IsSheet v s) → (read_by v s).number ≡ 0
    → RisingBelow x.lines.old_places x.lines.old_start × RisingBelow x.lines.new_places x.lines.new_start
starts-fit {v} limits has s x z =
    let facts = sheet-facts limits s x in
    let passes = (reads-facts v x.lines (ap (λ (y : Sheet). y.number) (sym facts) ∙ z)).0 in
    let fine = lines-fine v x.lines passes in
    (fine.old_start has, fine.new_start has)
