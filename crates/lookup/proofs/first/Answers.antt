-- `lookup::first`: the position of the first step of the name, among the steps in turn.
use Rattle.std.proofs.Common.{rules, tests}
use lib.Dec.{eqb}
use Rattle.std.proofs.lemmas.Iterator.Search.{position_from_yields_List}
use Rattle.route.specs.declared.Step.{Step}
use Rattle.flat.specs.Flat.{steps_in}
use Rattle.flat.proofs.InTurn.{steps-yield}
use Rattle.lookup.proofs.Position.{position_names}
use Rattle.lookup.proofs.first.Goals as goal

pub returns : goal.returns
returns c =
    let name = c.args.name in
    let steps = steps_in c.args.steps.now in
    let found = position_from_yields_List (λ (s : Step). eqb s.name name) c.position.new.self _ c.position.result
    c.position.ensures.ran (steps-yield _ steps c.steps.ensures) (λ x b q k. search (rules, tests)) in
    search (rules, position_names)
