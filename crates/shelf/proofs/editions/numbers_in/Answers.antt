-- `shelf::editions::numbers_in`: each number is its entry's.
use mathlib.Core.Path.{ap, ◌∙◌}
use lib.ListN.{length}
use borrow.Author.Rules.{rules}
use Rattle.shelf.specs.Shelf.{numbers_in}
use Rattle.shelf.proofs.Numbers.{numbers-mapped}
use Rattle.shelf.proofs.editions.numbers_in.Goals as goal

pub returns : goal.returns
returns c =
    let called = c.map.ensures.items in (
      numbers-mapped 8 c.each_ref.result c.map.result called.long (ap length c.each_ref.ensures.items ∙ search rules)
          (λ i d e h. let was = (called.at i d e h).2.met in search rules)
          ∙ ap numbers_in c.each_ref.ensures.items,
      search rules,
    )
