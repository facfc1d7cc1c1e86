-- What a replay on the new route may take from `same_step`: its step reads, writes and cuts as the one done.
use mathlib.Core.Path.{◌≡◌, refl, sym, ap, ◌∙◌}
use mathlib.Core.Bool.{Bool, true, false, ◌&&◌}
use mathlib.Core.List.{List}
use mathlib.Core.Option.{some}
use lib.Dec.{eqb}
use borrow.Author.Tests.{eqb-true}
use Rattle.mask.proofs.Truth.{both}
use Rattle.route.specs.Steps.{lookup}
use Rattle.route.specs.declared.Step.{Step}
use Rattle.matching.specs.Straight.{same_mark, same_data, same_step}

same-mark : (a b : Bool) → same_mark a b ≡ true → a ≡ b
unfolding same_mark
same-mark true b e = sym e
same-mark false true e = e
same-mark false false e = refl

pub same-step-elim : (new : List Step) (s t : Step) → same_step new s ≡ true → lookup s.name new ≡ some t
    → (t.reads ≡ s.reads) × ((t.writes ≡ s.writes) × (t.cloth ≡ s.cloth))
unfolding same_step same_data
same-step-elim new s t h e =
    let (r, rest) =
    both (eqb t.reads s.reads) (eqb t.writes s.writes && same_mark t.cloth s.cloth)
    (sym (ap (same_data s) e) ∙ h) in
    let (w, c) = both (eqb t.writes s.writes) (same_mark t.cloth s.cloth) rest in (
      eqb-true t.reads s.reads r,
      (eqb-true t.writes s.writes w, same-mark t.cloth s.cloth c),
    )
