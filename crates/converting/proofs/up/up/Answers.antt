-- `converting::up::up`: what reading refuses, rows 6 and 7, then the text.
use mathlib.Core.Path.{ap, ◌∙◌}
use borrow.Author.Rules.{rules}
use Rattle.out_slice.proofs.PastRows.{refused-answer, refused-out}
use Rattle.reader.proofs.JobOfLists.{lengths-few, lists-read, read-job}
use Rattle.writer.specs.Written.{written}
use Rattle.converting.specs.Up.{with_implied}
use Rattle.converting.proofs.Raised.{up-fits}
use Rattle.converting.proofs.Rows.{unread, read_on, few, implied-few, up-unread, up-nets, job-answer, job-out}
use Rattle.converting.proofs.up.up.Goals as goal

pub returns-in_err-c : goal.returns-in_err-c
returns-in_err-c c =
    let off = up-unread _ _ (unread _ _ _ _ _ c.in_err-c.field-0.0 c.in_err-c.ensures) in
    record { value = search (rules, refused-answer); out_after = search (rules, refused-out) }

pub job-requires : goal.job-requires
job-requires c = search (rules, lengths-few)

pub with_implied-job-requires : goal.with_implied-job-requires
with_implied-job-requires c =
    let small = few _ _ _ _ _ _ c.in_ok-c.ensures _ c.job.ensures in
    (small.old_places, small.new_places)

pub check_nets-requires : goal.check_nets-requires
check_nets-requires c =
    let small = implied-few _ _ c.with_implied-job.ensures (few _ _ _ _ _ _ c.in_ok-c.ensures _ c.job.ensures) in
    record {
      places = (small.old_places, small.new_places);
      steps = small.old;
    }

pub returns-in_err-check_nets : goal.returns-in_err-check_nets
returns-in_err-check_nets c =
    let k = c.in_ok-c.ensures in
    let told = c.with_implied-job.ensures ∙ ap with_implied (read-job _ _ _ _ _ _ k _ c.job.ensures) in
    let off = up-nets _ (read_on _ _ _ _ _ _ k) _ told _ c.in_err-check_nets.ensures in
    record { value = search (rules, refused-answer); out_after = search (rules, refused-out) }

pub write_text-requires : goal.write_text-requires
write_text-requires c =
    let k = c.in_ok-c.ensures in
    let told = c.with_implied-job.ensures ∙ ap with_implied (read-job _ _ _ _ _ _ k _ c.job.ensures) in
    up-fits _ (lists-read _ _ _ _ _ _ k) _ told

pub returns : goal.returns
returns c =
    let k = c.in_ok-c.ensures in
    let told = c.with_implied-job.ensures ∙ ap with_implied (read-job _ _ _ _ _ _ k _ c.job.ensures) in
    let rows = up-nets _ (read_on _ _ _ _ _ _ k) _ told _ c.in_ok-check_nets.ensures in
    let (answer, out) = c.write_text.ensures in
    record {
      value = job-answer _ written _ _ rows told _ _ answer;
      out_after = job-out _ written _ _ rows told _ _ out;
    }
