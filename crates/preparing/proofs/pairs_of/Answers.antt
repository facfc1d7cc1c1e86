-- `preparing::pairs_of`: the numbers of as many steps as there are done names.
use mathlib.Core.Path.{sym, ◌∙◌}
use Rattle.job.specs.Job.{job_in}
use Rattle.running.proofs.Performed.{holds-performed, length-holds}
use Rattle.occurrences.proofs.DoneOccurrences.{holds-occurrences, length-held, held-few}
use Rattle.preparing.proofs.pairs_of.Goals as goal

pub invariant_of-result : goal.invariant_of-result
invariant_of-result c =
    let f = c.requires.filled in
    record {
      few = held-few (job_in c.args.job) _ f.done-are f.few;
      alike = length-holds _ _ _ f.matches-are ∙ sym (length-held (job_in c.args.job) _ f.done-are);
    }

pub returns : goal.returns
returns c =
    let f = c.requires.filled in
    record {
      done-are = holds-occurrences
          (job_in c.args.job) _ f.done-are;
      matches-are = holds-performed _ _ _ f.matches-are;
    }
