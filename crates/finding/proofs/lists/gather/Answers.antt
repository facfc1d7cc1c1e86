-- `finding::lists::gather`: the rows from 6 to 9, and where they pass the new route's steps.
use Rattle.job.proofs.Rows.{lists-fit}
use Rattle.finding.proofs.lists.gather.Goals as goal

pub perform-matched-requires : goal.perform-matched-requires
perform-matched-requires c = search lists-fit
