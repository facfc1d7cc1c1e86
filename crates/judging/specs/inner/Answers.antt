-- An inner promise: what the functions of judge say to each other of an answer r. The occurrences are l, and t the
-- new route's steps for them.
use Rattle.std.specs.Prelude.{◌≡◌, cond, List, ℕ, length}
use Rattle.std.proofs.Math.Option.{get_or}
use Rattle.mask.specs.Mask.{below}
use Rattle.route.specs.declared.Step.{Step}
use Rattle.slice.specs.Slice.{variables}
use Rattle.precedence.specs.Order.{in_turn}
use Rattle.precedence.specs.Table.{table}
use Rattle.matching.specs.Straight.{fire_all, runs_straight}
use Rattle.preparing.specs.declared.Prepared.{Prepared}
use Rattle.work_slice.specs.WorkSlice.{cleared}
use Rattle.answering.specs.Answer.{answer}
use Rattle.candidates.specs.FirstFit.{first_fit}
use Rattle.judging.specs.Judge.{judge_found, judge_rows}
use Rattle.judging.specs.inner.Passing.{Passing}
use Rattle.answering.specs.declared.Judged.{Judged}

-- it shows all in turn, which end on the marking, and all of them kept
abbrev pub AnswersStraight : List ℕ → ℕ → ℕ → List Step → Judged → Type 0
AnswersStraight rows vars marking l r =
    (from : ℕ) (new : List Step)
    → rows ≡ table l
    → vars ≡ variables new
    → marking ≡ get_or (fire_all new from l) 0
    → r ≡ answer from new l (below (length l)) (in_turn 0 (length l))

-- it is that of the first fit list, or 13
abbrev pub AnswersFirst : Prepared → List Step → List Step → Judged → Type 0
AnswersFirst p l t r =
    (k : Passing p l t) → r ≡ judge_found p.line p.start.tokens k.new l
    (first_fit p.start.tokens k.new l)

-- it is that of rows 10 to 13
abbrev pub AnswersRows : Prepared → List Step → List Step → Judged → Type 0
AnswersRows p l t r = (k : Passing p l t) → r ≡ judge_rows p.line p.start.tokens k.new l

-- the work slice after it: unchanged where the job runs straight
abbrev pub Works : Prepared → List Step → List Step → List ℕ → List ℕ → Type 0
Works p l t before after =
    (k : Passing p l t) → after ≡ cond (runs_straight p.start.tokens k.new l) before (cleared 8192 before)
