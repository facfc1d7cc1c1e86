-- `name_set::has`: where the hint is right the name is there; else by a scan.
use mathlib.Core.Path.{refl}
use borrow.Author.Rules.{rules}
use Rattle.flat.specs.Flat.{steps_in}
use Rattle.name_set.proofs.Among.{among-found}
use Rattle.name_set.proofs.DigitHints.{hint-none, hint-inside, hint-right}
use Rattle.name_set.proofs.has.Goals as goal

pub returns-else-k-ne0 : goal.returns-else-k-ne0
returns-else-k-ne0 c = search (rules, hint-none)

pub name_at-requires : goal.name_at-requires
name_at-requires c =
    let a = c in
    hint-inside (steps_in a.args.steps.now) a.args.hint.now a.args.name _ a.requires refl c.if-k-ne0.true

pub returns-then-name_at-name : goal.returns-then-name_at-name
returns-then-name_at-name c = search (rules, hint-right)

pub returns-else-name_at-name : goal.returns-else-name_at-name
returns-else-name_at-name c = search (rules, among-found)
