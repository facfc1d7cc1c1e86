-- `converting::down::down`: what reading refuses, rows 6 and 7, row 22, then the text.
use borrow.Author.Rules.{rules}
use Rattle.job.proofs.Rows.{lists-fit}
use Rattle.out_slice.proofs.PastRows.{refused-answer, refused-out}
use Rattle.reader.proofs.JobOfLists.{lengths-few, lists-read, read-job, read-passes}
use Rattle.version.specs.Limits.{scope}
use Rattle.writer.specs.Written.{written_by}
use Rattle.converting.proofs.Lowered.{down-fits}
use Rattle.converting.proofs.Rows.{unread, read_on, down-unread, down-nets, down-beyond, job-answer, job-out}
use Rattle.converting.proofs.down.down.Goals as goal

pub returns-in_err-c : goal.returns-in_err-c
returns-in_err-c c =
    let off = down-unread _ _ (unread _ _ _ _ _ c.in_err-c.field-0.0 c.in_err-c.ensures) in
    record { value = search (rules, refused-answer); out_after = search (rules, refused-out) }

pub job-job-requires : goal.job-job-requires
job-job-requires c = search (rules, lengths-few)

pub check_nets-requires : goal.check_nets-requires
check_nets-requires c =
    let passes = read-passes _ _ _ _ _ c.in_ok-c.ensures _ c.job-job.ensures in
    record {
      places = (search lists-fit, search lists-fit);
      steps = search lists-fit;
    }

pub returns-in_err-check_nets : goal.returns-in_err-check_nets
returns-in_err-check_nets c =
    let k = c.in_ok-c.ensures in
    let told = read-job _ _ _ _ _ _ k _ c.job-job.ensures in
    let off = down-nets _ (read_on _ _ _ _ _ _ k) _ told _ c.in_err-check_nets.ensures in
    record { value = search (rules, refused-answer); out_after = search (rules, refused-out) }

pub check_said-requires : goal.check_said-requires
check_said-requires c = read-passes _ _ _ _ _ c.in_ok-c.ensures _ c.job-job.ensures

pub returns-in_err-check_said : goal.returns-in_err-check_said
returns-in_err-check_said c =
    let k = c.in_ok-c.ensures in
    let told = read-job _ _ _ _ _ _ k _ c.job-job.ensures in
    let off = down-beyond _ (read_on _ _ _ _ _ _ k) _ told c.in_ok-check_nets.ensures _ c.in_err-check_said.ensures in
    record { value = search (rules, refused-answer); out_after = search (rules, refused-out) }

pub write_text-requires : goal.write_text-requires
write_text-requires c =
    let k = c.in_ok-c.ensures in
    down-fits _ (lists-read _ _ _ _ _ _ k) _ (read-job _ _ _ _ _ _ k _ c.job-job.ensures) c.in_ok-check_said.ensures

pub returns : goal.returns
returns c =
    let k = c.in_ok-c.ensures in
    let told = read-job _ _ _ _ _ _ k _ c.job-job.ensures in
    let rows = down-beyond _ (read_on _ _ _ _ _ _ k) _ told c.in_ok-check_nets.ensures _ c.in_ok-check_said.ensures in
    let (answer, out) = c.write_text.ensures in
    record {
      value = job-answer _ (written_by scope) _ _ rows told _ _ answer;
      out_after = job-out _ (written_by scope) _ _ rows told _ _ out;
    }
