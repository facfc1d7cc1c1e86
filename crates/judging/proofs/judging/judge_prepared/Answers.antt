-- `judging::judging::judge_prepared`: the straight list where there is one, else the first fit list of the kept.
use mathlib.Core.Path.{refl, ◌∙◌}
use Rattle.judging.proofs.JudgeRows.{rows-straight, rows-search, passing-straight, passing-stuck}
use Rattle.mask.proofs.Truth.{cond_yes, cond_no}
use Rattle.judging.proofs.judging.judge_prepared.Goals as goal

pub returns-in-Some : goal.returns-in-Some
returns-in-Some c =
    record {
      answers_rows = λ k.
          c.judge_straight.ensures _ k.new c.table_of-rows.ensures k.vars-are
          (passing-straight k _ c.in-Some.is).1
          ∙ rows-straight _ _ _ _ k.passes (passing-straight k _ c.in-Some.is).0;
      works = λ k. cond_yes _ _ refl (passing-straight k _ c.in-Some.is).0;
    }

pub returns-in-None : goal.returns-in-None
returns-in-None c =
    let judged = c.judge_kept.ensures in
    record {
      answers_rows = λ k. judged.answers_first k ∙ rows-search _ _ _ _ k.passes (passing-stuck k c.in-None.is);
      works = λ k. judged.work_after ∙ cond_no _ _ refl (passing-stuck k c.in-None.is);
    }
