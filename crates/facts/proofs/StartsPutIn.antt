-- Start lines put in: lines that a version reads the present one reads with any start lines whose rows pass, as the
-- same facts with these starts. Assumes nothing.
use mathlib.Core.Path.{◌≡◌, sym, ap, ◌∙◌}
use mathlib.Core.List.{List}
use Prim.Native.Nat.{ℕ}
use native.Mathlib.Omega.{arith}
use Rattle.version.specs.Limits.{present, Limits}
use Rattle.version.proofs.Limits.{present-limits}
use Rattle.version.specs.declared.Version.{Version}
use Rattle.layout.specs.Text.{text}
use Rattle.layout.specs.Begins.{IsSheet}
use Rattle.facts.specs.Facts.{read_by, read_of}
use Rattle.facts.specs.Starts.{RisingBelow, started_lines, started_both}
use Rattle.facts.proofs.PassingLines.{lines-fine, lines-named, all-marks, all-starts}
use Rattle.facts.proofs.RowOne.{sheet-passes}
use Rattle.facts.proofs.InAnother.{reads-in-another, facts-in-another}

pub starts-put-in : {v : Version} (limits : Limits v) (s : List ℕ) (x : IsSheet v s) (z : (read_by v s).number ≡ 0)
    (a b : List ℕ) (old : RisingBelow x.lines.old_places a) (new : RisingBelow x.lines.new_places b)
    → read_of (text present (started_lines a b x.lines)) ≡ started_both a b (read_by v s)
starts-put-in {v} limits s x z a b old new =
    let l = x.lines in
    let (passes, facts) = sheet-passes limits s x z in
    let names = lines-named v present.greatest (omega (arith, limits.stored)) l (lines-fine v l passes) in
    let starts = all-starts (started_lines a b l) in
    reads-in-another v present l a b present-limits names (all-marks l) starts (λ e. (old, new)) passes
    ∙ facts-in-another v present l a b starts
    ∙ ap (started_both a b) (sym facts)
