-- A job whose listing has all 7,053 bytes: eight steps that loop on eight places each, start on all 64, cut cloth and
-- have been done 64 times, so that each occurrence comes after all before it and the last four write all 32 variables.
-- Judge's answer is computed.
use mathlib.Core.Path.{◌≡◌, refl}
use mathlib.Core.Bool.{true}
use mathlib.Core.List.{List, [], ◌∷◌}
use Prim.Native.Nat.{ℕ, ◌+◌, ◌*◌, ◌^◌}
use lib.ListN.{length}
use Rattle.mask.specs.Mask.{has, members_from, members, collect, count, below}
use Rattle.route.specs.Steps.{union, names, lookup}
use Rattle.route.specs.Firing.{can_fire, fire, if_fires}
use Rattle.route.specs.declared.Step.{Step}
use Rattle.refusal.specs.Rows.{unless, first, each_line}
use Rattle.opening.specs.Net.{net_row_at, open_row}
use Rattle.opening.specs.Unwritten.{unwritten_rows}
use Rattle.version.specs.Limits.{name_fits}
use Rattle.name_set.specs.Among.{among}
use Rattle.job.specs.Job.{Job}
use Rattle.job.specs.Lines.{places_fit, start_fits, step_fits, variable_list, place_list, lists_fit, step_row}
use Rattle.job.specs.Lines.{step_rows, head_rows, route_rows, done_row, done_rows, line_rows, LinesPass, checked}
use Rattle.running.specs.Run.{run_from, ran, performed}
use Rattle.precedence.specs.Order.{in_turn}
use Rattle.precedence.specs.Precedence.{clash, tied, puts_until, put_for, comes_after, row}
use Rattle.occurrences.specs.Occurrences.{shared, occurrence, occurrences_of}
use Rattle.slice.specs.Slice.{variables, keeps, sweep_step, sweep, kept_mask}
use Rattle.search.specs.Search.{is_some}
use Rattle.matching.specs.Straight.{same_mark, same_data, same_step, all_of, fire_all, steps_on, runs_straight}
use Rattle.matching.specs.Fit.{kept_of}
use Rattle.matching.specs.KeptRows.{kept_row, kept_lines, kept_rows}
use Rattle.answering.specs.Answer.{padded, last_writer, after_of, writer_of, answer}
use Rattle.judging.specs.Judge.{judge_found, judge_rows, judged}
use Rattle.listing.specs.Listing.{moved_text, listing}
use Rattle.emit.specs.Numbers.{digits, decimal, entry, over}
use Rattle.listing_lines.specs.Lines.{line, moved_line, after_line, after_lines, order_line, marking_line, value_line}
use Rattle.listing_lines.specs.Lines.{value_lines}

-- step n loops on the eight places from 8 n on
abbrev loop : ℕ → ℕ → Step
loop n w = record {
  name = 1 + n;
  cloth = true;
  ins = 255 * 256 ^ n;
  outs = 255 * 256 ^ n;
  reads = 0;
  writes = w;
}

abbrev loops : List Step
loops =
    loop 0 255
    ∷ loop 1 (255 * 256)
    ∷ loop 2 (255 * 65536)
    ∷ loop 3 (255 * 16777216)
    ∷ loop 4 0
    ∷ loop 5 0
    ∷ loop 6 0
    ∷ loop 7 0
    ∷ []

abbrev round : List ℕ → List ℕ
round l = 5 ∷ 6 ∷ 7 ∷ 8 ∷ 1 ∷ 2 ∷ 3 ∷ 4 ∷ l

unfoldable pub longest_job : Job
longest_job = record {
  old_places = record { count = 64; start = below 64 };
  old = loops;
  new_places = record { count = 64; start = below 64 };
  new = loops;
  done = round (round (round (round (round (round (round (round [])))))));
}

pub longest-passes : LinesPass longest_job
unfolding longest_job has members_from members count unless first name_fits places_fit start_fits step_fits
    variable_list place_list lists_fit among step_row step_rows head_rows route_rows done_row done_rows line_rows
longest-passes = refl

pub longest-judged : length (listing (judged longest_job 8192)) ≡ 7053
unfolding longest_job has members_from members collect count union names lookup can_fire fire if_fires unless first
    each_line net_row_at unwritten_rows open_row name_fits places_fit start_fits step_fits variable_list place_list
    lists_fit among step_row step_rows head_rows route_rows done_row done_rows line_rows checked run_from ran
    performed shared occurrence occurrences_of in_turn clash tied puts_until put_for comes_after row is_some variables
    keeps sweep_step sweep kept_mask kept_of same_mark same_data same_step all_of fire_all steps_on runs_straight
    kept_row kept_lines kept_rows padded last_writer after_of writer_of answer judge_found judge_rows judged listing
    moved_text moved_line after_line after_lines order_line marking_line value_line value_lines line over entry
    decimal digits
longest-judged = refl
