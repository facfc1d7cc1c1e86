-- `slicing::slice_lists`: the rows in turn, and what is kept and the table over the occurrences.
use borrow.Author.Rules.{rules}
use Rattle.job.specs.Job.{job_in}
use Rattle.running.proofs.RunLine.{lines-pass}
use Rattle.slicing.proofs.SliceRows.{slice-line, slice-run, done-few, occurrences-few, occurrences-room}
use Rattle.slicing.proofs.SliceRows.{occurrences-count, slice_kept}
use Rattle.slicing.proofs.slice_lists.Goals as goal

pub returns-in_err-check_lines : goal.returns-in_err-check_lines
returns-in_err-check_lines c = search (rules, slice-line)

pub begin-requires : goal.begin-requires
begin-requires c =
    let passed = c.in_ok-check_lines.ensures in
    record { lines_pass = search (rules, lines-pass); in_bounds = search rules }

pub returns-in_err-begin : goal.returns-in_err-begin
returns-in_err-begin c = search (rules, slice-run)

pub narrow-requires : goal.narrow-requires
narrow-requires c = record { in_bounds = (done-few (job_in c.args.job) _ c.in_ok-begin.ensures.ran, search rules) }

pub slice_bounds-occurrences-end : goal.slice_bounds-occurrences-end
slice_bounds-occurrences-end c =
    let b = c.in_ok-begin.ensures in
    search (rules, occurrences-room (job_in c.args.job) _ b.ran _ _ b.begins c.narrow.ensures.holds)

pub slice_bounds-keep-end : goal.slice_bounds-keep-end
slice_bounds-keep-end c =
    let b = c.in_ok-begin.ensures in
    search (rules, occurrences-count (job_in c.args.job) _ b.ran _ _ b.begins c.narrow.ensures.holds)

pub keep-kept-requires : goal.keep-kept-requires
keep-kept-requires c =
    let b = c.in_ok-begin.ensures in
    search (rules, occurrences-few (job_in c.args.job) _ b.ran _ _ b.begins c.narrow.ensures.holds)

pub slice_bounds-occurrences-end-2 : goal.slice_bounds-occurrences-end-2
slice_bounds-occurrences-end-2 c =
    let b = c.in_ok-begin.ensures in
    search (rules, occurrences-room (job_in c.args.job) _ b.ran _ _ b.begins c.narrow.ensures.holds)

pub slice_bounds-table_of-end : goal.slice_bounds-table_of-end
slice_bounds-table_of-end c =
    let b = c.in_ok-begin.ensures in
    search (rules, occurrences-count (job_in c.args.job) _ b.ran _ _ b.begins c.narrow.ensures.holds)

pub table_of-table-requires : goal.table_of-table-requires
table_of-table-requires c =
    let b = c.in_ok-begin.ensures in
    search (rules, occurrences-few (job_in c.args.job) _ b.ran _ _ b.begins c.narrow.ensures.holds)

pub returns : goal.returns
returns c =
    let b = c.in_ok-begin.ensures in
    search (rules, slice_kept (job_in c.args.job) _ b.ran _ _ b.begins c.narrow.ensures.holds)
