-- `order_entries::by_rows`: row 16, and else the entries.
use borrow.Author.Rules.{rules}
use Rattle.flat.specs.Flat.{steps_in}
use Rattle.order_entries.proofs.ByRows.{list-passes, rows-refused, rows-tried}
use Rattle.order_entries.proofs.by_rows.Goals as goal

pub returns-in_err-check_list : goal.returns-in_err-check_list
returns-in_err-check_list c =
    search (
      rules,
      rows-refused c.args.kept c.args.order.now (steps_in c.args.occurrences.now) (steps_in c.args.matches.now)
          c.args.from.tokens c.in_err-check_list.field-0.0 c.in_err-check_list.ensures,
    )

pub fire_list-requires-clause-order_value : goal.fire_list-requires-clause-order_value
fire_list-requires-clause-order_value c = list-passes _ _ c.in_ok-check_list.ensures

pub returns : goal.returns
returns c = let passed = c.in_ok-check_list.ensures in search (rules, rows-tried)
