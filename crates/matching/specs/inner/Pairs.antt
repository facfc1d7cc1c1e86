-- The occurrences, and the new route's steps for them, as they are handed on.
use Rattle.std.specs.Prelude.{List}
use Rattle.flat.specs.Flat.{steps_in}
use Rattle.route.specs.declared.Step.{Step}
use Rattle.matching.specs.declared.Pairs.{Pairs}

abbrev pub done_in : Pairs → List Step
done_in x = steps_in x.occurrences.now

abbrev pub matched_in : Pairs → List Step
matched_in x = steps_in x.matches.now
