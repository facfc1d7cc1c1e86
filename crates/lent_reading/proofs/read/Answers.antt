-- `read`: what the arrays hold of the sheet is laid over each list, as many entries as the answer says.
use mathlib.Core.Path.{◌∙◌}
use borrow.Author.Rules.{rules}
use Rattle.records.proofs.Overlaid.{overlaid-none, overlaid-same}
use Rattle.lent_reading.proofs.read.Goals as goal

pub returns-in_err-c : goal.returns-in_err-c
returns-in_err-c c = record {
  answer = search rules;
  old_list = search (rules, overlaid-none);
  new_list = search (rules, overlaid-none);
  done_list = search (rules, overlaid-none);
}

pub returns : goal.returns
returns c =
    let e = c.in_ok-c.ensures.held in
    record {
      answer = c.in_ok-c.ensures.answer;
      old_list = c.fill.ensures ∙ overlaid-same _ _ _ _ e.old-steps;
      new_list = c.fill-2.ensures ∙ overlaid-same _ _ _ _ e.new-steps;
      done_list = c.put.ensures ∙ overlaid-same _ _ _ _ e.done-names;
    }
