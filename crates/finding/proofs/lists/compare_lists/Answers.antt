-- `finding::lists::compare_lists`: the rows in turn, and both totals.
use borrow.Author.Rules.{rules}
use Rattle.job.specs.Job.{job_in}
use Rattle.running.proofs.RunLine.{lines-pass}
use Rattle.finding.proofs.ComparedRows.{compare-line, compare-run, compare-both}
use Rattle.finding.proofs.lists.compare_lists.Goals as goal

pub returns-in_err-check_lines : goal.returns-in_err-check_lines
returns-in_err-check_lines c = search (rules, compare-line)

pub gather-requires : goal.gather-requires
gather-requires c =
    let passed = c.in_ok-check_lines.ensures in
    record { lines_pass = search (rules, lines-pass); in_bounds = search rules }

pub returns-in_err-g : goal.returns-in_err-g
returns-in_err-g c = search (rules, compare-run)

pub returns : goal.returns
returns c = compare-both (job_in c.args.job) c.in_ok-g.g c.in_ok-g.ensures.ran _ _ c.in_ok-g.ensures.gathers
