-- `shelf::between::judge`: row 14, a bad shelf, 19, then judge for the two routes.
use borrow.Author.Rules.{rules}
use Rattle.shelf.proofs.ShelfLength.{entry-fits}
use Rattle.shelf.proofs.EntriesFound.{edition-inside, target-inside}
use Rattle.shelf.proofs.JudgeBetween.{between-short, between-short-work, between-bad, between-bad-work}
use Rattle.shelf.proofs.JudgeBetween.{between-nothing, between-nothing-work, between-judged, between-judged-work}
use Rattle.shelf.proofs.between.judge.Goals as goal

-- both entries are within the array

ruleset inside = (rules, entry-fits, edition-inside, target-inside)

pub offset_bounds-editions-i : goal.offset_bounds-editions-i
offset_bounds-editions-i c = search inside

pub bounds-editions-i : goal.bounds-editions-i
bounds-editions-i c = search inside

pub offset_bounds-editions-j : goal.offset_bounds-editions-j
offset_bounds-editions-j c = search inside

pub bounds-editions-j : goal.bounds-editions-j
bounds-editions-j c = search inside

pub returns-then-work-lt-WORK : goal.returns-then-work-lt-WORK
returns-then-work-lt-WORK c = record {
  value = search (rules, between-short);
  work_after = search (rules, between-short-work);
}

pub returns-then-not-is_good : goal.returns-then-not-is_good
returns-then-not-is_good c = record {
  value = search (rules, between-bad);
  work_after = search (rules, between-bad-work);
}

pub returns-in_default : goal.returns-in_default
returns-in_default c = record {
  value = search (rules, between-nothing);
  work_after = search (rules, between-nothing-work);
}

pub returns : goal.returns
returns c = record {
  value = search (rules, between-judged);
  work_after = search (rules, between-judged-work);
}
