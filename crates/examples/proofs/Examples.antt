-- Every sheet of the tables gives its listing, by computing the whole way from the sheet's bytes to the listing's.
use mathlib.Core.Path.{refl}
use mathlib.Core.List.{List, [], ◌∷◌, ◌++◌}
use Rattle.mask.specs.Mask.{has, members_from, members, collect, count}
use Rattle.route.specs.Steps.{steps_of, union, names, lookup}
use Rattle.route.specs.Firing.{can_fire, fire, if_fires}
use Rattle.refusal.specs.Rows.{unless, first, each_line}
use Rattle.opening.specs.Net.{net_row_at, open_row}
use Rattle.opening.specs.Unwritten.{unwritten_rows}
use Rattle.version.specs.Limits.{name_fits}
use Rattle.name_set.specs.Among.{among}
use Rattle.job.specs.Lines.{places_fit, start_fits, step_fits, variable_list, place_list, lists_fit, step_row}
use Rattle.job.specs.Lines.{step_rows, head_rows, route_rows, done_row, done_rows, line_rows, checked}
use Rattle.running.specs.Run.{run_from, ran, performed}
use Rattle.precedence.specs.Order.{in_turn}
use Rattle.precedence.specs.Precedence.{clash, tied, puts_until, put_for, comes_after, row}
use Rattle.occurrences.specs.Occurrences.{shared, occurrence, occurrences_of}
use Rattle.slice.specs.Slice.{variables, keeps, sweep_step, sweep, kept_mask}
use Rattle.search.specs.Search.{is_some, or_else, onwards, try_each, search}
use Rattle.matching.specs.Straight.{same_mark, same_data, same_step, all_of, fire_all, steps_on, runs_straight}
use Rattle.matching.specs.Fit.{kept_of}
use Rattle.matching.specs.KeptRows.{kept_row, kept_lines, kept_rows}
use Rattle.candidates.specs.Placing.{before, place_next}
use Rattle.answering.specs.Answer.{padded, last_writer, after_of, writer_of, answer}
use Rattle.candidates.specs.FirstFit.{first_of, first_fit}
use Rattle.judging.specs.Judge.{judge_found, judge_rows, judged}
use Rattle.layout.specs.Words.{spelling}
use Rattle.layout.specs.Points.{digit, alive, expect, chosen, spelt, in_list, past_word, first as first_digit, ended}
use Rattle.layout.specs.Points.{more as more_digits, closed, list_end, past_head, past_line, next}
use Rattle.layout.specs.Parse.{stored, took, put_step, put_start, put_line, keep, at_end, run, parse}
use Rattle.facts.specs.Forms.{all_below, rising, form_fits, list_fits, form_lists, form_row, start_row, masked}
use Rattle.facts.specs.Forms.{record_of}
use Rattle.facts.specs.Facts.{failed, settled, headed, started, stepped, old_head, new_head, job_head, done_in, step_in}
use Rattle.facts.specs.Facts.{start_in, more, more_start, more_steps, more_dones, facts_of, answered, read_by}
use Rattle.emit.specs.Numbers.{digits, decimal, entry, over}
use Rattle.listing_lines.specs.Lines.{line, moved_line, after_line, after_lines, order_line, marking_line, value_line}
use Rattle.listing_lines.specs.Lines.{value_lines, refused_line}
use Rattle.listing.specs.Listing.{moved_text, listing}
use Rattle.ops.specs.Print.{sheet_answer, listing_of}
use Rattle.examples.specs.Table.{Example, codes, bytes, AllPrint, table}
use Rattle.examples.specs.LongNames.{long_names}
use Rattle.examples.specs.Cuts.{cuts}
use Rattle.examples.specs.Starts.{rounds, misplaced, wrong_places, empty_starts, starts}
use Rattle.examples.specs.Unwritten.{nobody_writes, in_its_place, unwritten}
use Rattle.examples.specs.Branches.{branches}

-- The definitions on the way, a name for each stage: to open the name opens all on its line.

unfoldable pub the-masks : Unit {0}
unfolding has members_from members collect count
the-masks = tt

unfoldable pub the-routes : Unit {0}
unfolding steps_of union names lookup can_fire fire if_fires unless first each_line net_row_at
    unwritten_rows open_row
the-routes = tt

unfoldable pub the-layout : Unit {0}
unfolding spelling digit alive expect chosen spelt in_list past_word first_digit ended more_digits closed list_end
    past_head past_line next stored took put_step put_start put_line keep at_end run parse
the-layout = tt

unfoldable pub the_facts : Unit {0}
unfolding all_below rising form_fits list_fits form_lists form_row start_row masked record_of failed settled headed
    started stepped old_head new_head job_head done_in step_in start_in more more_start more_steps more_dones facts_of
    answered read_by
the_facts = tt

unfoldable the-run : Unit {0}
unfolding name_fits places_fit start_fits step_fits variable_list place_list lists_fit among step_row step_rows
    head_rows route_rows done_row done_rows line_rows checked run_from ran
the-run = tt

unfoldable the-slice : Unit {0}
unfolding performed shared occurrence occurrences_of in_turn clash tied puts_until put_for comes_after row variables
    keeps sweep_step sweep kept_mask kept_of
the-slice = tt

unfoldable the-judge : Unit {0}
unfolding is_some same_mark same_data same_step all_of fire_all steps_on runs_straight kept_row kept_lines kept_rows
    or_else onwards try_each search before place_next padded last_writer after_of writer_of answer first_of first_fit
    judge_found judge_rows judged
the-judge = tt

unfoldable the-listing : Unit {0}
unfolding digits decimal entry over line moved_line after_line after_lines order_line marking_line value_line
    value_lines refused_line moved_text listing sheet_answer listing_of
the-listing = tt

pub examples : AllPrint table
unfolding codes bytes the-layout the_facts the-masks the-routes the-run the-slice the-judge the-listing
examples = (refl, (refl, (refl, (refl, (refl, (refl, (refl, (refl, (refl, (refl, (refl, (refl, tt))))))))))))

pub long-names : AllPrint long_names
unfolding codes bytes the-layout the_facts the-masks the-routes the-run the-slice the-judge the-listing
long-names = (refl, (refl, (refl, (refl, (refl, (refl, (refl, (refl, (refl, (refl, (refl, tt)))))))))))

pub cuts-print : AllPrint cuts
unfolding codes bytes the-layout the_facts the-masks the-routes the-run the-slice the-judge the-listing
cuts-print = (refl, (refl, (refl, (refl, (refl, (refl, (refl, (refl, (refl, tt)))))))))

-- two lists that print, behind one another
print-both : (l m : List Example) → AllPrint l → AllPrint m → AllPrint (l ++ m)
print-both [] m a b = b
print-both (e ∷ l) m a b = (a.0, print-both l m a.1 b)

rounds-print : AllPrint rounds
unfolding codes bytes the-layout the_facts the-masks the-routes the-run the-slice the-judge the-listing
rounds-print = (refl, (refl, (refl, (refl, (refl, tt)))))

misplaced-print : AllPrint misplaced
unfolding codes bytes the-layout the_facts the-masks the-routes the-run the-slice the-judge the-listing
misplaced-print = (refl, (refl, (refl, tt)))

wrong-places-print : AllPrint wrong_places
unfolding codes bytes the-layout the_facts the-masks the-routes the-run the-slice the-judge the-listing
wrong-places-print = (refl, (refl, (refl, (refl, (refl, (refl, tt))))))

empty-starts-print : AllPrint empty_starts
unfolding codes bytes the-layout the_facts the-masks the-routes the-run the-slice the-judge the-listing
empty-starts-print = (refl, (refl, (refl, (refl, (refl, (refl, (refl, tt)))))))

pub starts-print : AllPrint starts
starts-print =
    print-both rounds (misplaced ++ (wrong_places ++ empty_starts)) rounds-print
    (print-both misplaced (wrong_places ++ empty_starts) misplaced-print
    (print-both wrong_places empty_starts wrong-places-print empty-starts-print))

nobody-writes-print : AllPrint nobody_writes
unfolding codes bytes the-layout the_facts the-masks the-routes the-run the-slice the-judge the-listing
nobody-writes-print = (refl, (refl, (refl, (refl, (refl, (refl, (refl, tt)))))))

in-its-place-print : AllPrint in_its_place
unfolding codes bytes the-layout the_facts the-masks the-routes the-run the-slice the-judge the-listing
in-its-place-print = (refl, (refl, (refl, (refl, (refl, (refl, (refl, (refl, (refl, tt)))))))))

pub unwritten-print : AllPrint unwritten
unwritten-print = print-both nobody_writes in_its_place nobody-writes-print in-its-place-print

pub branches-print : AllPrint branches
unfolding codes bytes the-layout the_facts the-masks the-routes the-run the-slice the-judge the-listing
branches-print = (
  refl,
  (
    refl,
    (
      refl,
      (
        refl,
        (
          refl,
          (
            refl,
            (
              refl,
              (
                refl,
                (
                  refl,
                  (
                    refl,
                    (
                      refl,
                      (
                        refl,
                        (
                          refl,
                          (refl, tt),
                        ),
                      ),
                    ),
                  ),
                ),
              ),
            ),
          ),
        ),
      ),
    ),
  ),
)
