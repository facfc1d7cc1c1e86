-- The table of converted sheets, by computing. Assumes nothing.
use mathlib.Core.Path.{refl}
use Rattle.route.specs.Firing.{implied_start}
use Rattle.refusal.specs.Rows.{each_line}
use Rattle.name_set.specs.Among.{among}
use Rattle.version.specs.Limits.{name_fits}
use Rattle.job.specs.Lines.{places_fit, done_row}
use Rattle.layout.specs.Text.{digits, number, entries, listed, marked, step_line, word_line, start_line, job_line}
use Rattle.layout.specs.Text.{step_lines, done_lines, job_text, text}
use Rattle.facts.specs.LinesOf.{form_of, lines_of}
use Rattle.facts.specs.SheetRows.{start_line_count}
use Rattle.writer.specs.Written.{written_by}
use Rattle.converting.specs.Nets.{net_rows}
use Rattle.converting.specs.Beyond.{says_step, says_start, beyond_route, beyond_rows}
use Rattle.converting.specs.Up.{up_row}
use Rattle.converting.specs.Down.{down_row}
use Rattle.examples.specs.Table.{codes, bytes}
use Rattle.examples.specs.Converted.{AllRaised, scope_letters, LRefused, AllLowered, lowerings}
use Rattle.examples.proofs.Examples.{the-masks, the-routes, the-layout, the_facts}

unfoldable the-text : Unit {0}
unfolding digits number entries listed marked step_line word_line start_line job_line step_lines done_lines job_text
    text start_line_count form_of lines_of written_by implied_start among name_fits places_fit done_row
the-text = tt

pub letters-raised : AllRaised scope_letters
unfolding codes bytes the-layout the_facts the-masks the-routes the-text net_rows up_row
letters-raised = (
  (refl, refl),
  (
    (refl, refl),
    (
      (refl, refl),
      (
        (refl, refl),
        (
          (refl, refl),
          (
            (refl, refl),
            ((refl, refl), ((refl, refl), ((refl, refl), ((refl, refl), ((refl, refl), tt))))),
          ),
        ),
      ),
    ),
  ),
)

pub l-refused : LRefused
unfolding codes bytes the-layout the_facts the-masks the-routes the-text net_rows up_row
l-refused = refl

pub all-lowered : AllLowered lowerings
unfolding codes bytes the-layout the_facts the-masks the-routes the-text says_step says_start each_line beyond_route
    beyond_rows net_rows down_row
all-lowered = (refl, (refl, (refl, (refl, (refl, (refl, (refl, (refl, (refl, (refl, (refl, (refl, tt))))))))))))
