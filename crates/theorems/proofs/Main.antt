-- The whole promise on one page, in 01's order: the sheet, its bytes both ways, the start lines, the converter and the
-- longer names of 02, its look-up, slice and precedence with 02's cloth and branches, fit orders, what judge gives and
-- its listing shows, readings that nobody writes, the shelf of 02, and demand 3. Each is proved in the file that its
-- name is cited from. Code meets it through the contracts, which are equalities with the definitions that these
-- theorems speak of.
use mathlib.Core.Path.{◌≡◌, refl}
use mathlib.Core.Logic.{◌↔◌, ◌⊎◌}
use mathlib.Core.Bool.{true, false, not, ◌&&◌}
use mathlib.Core.List.{List, [], ◌∷◌, ◌++◌, map}
use mathlib.Core.Option.{none, some}
use Prim.Native.Nat.{ℕ, suc, ◌+◌, ◌*◌, ◌^◌, ◌≤◌, ◌<◌}
use lib.Dec.{ltb}
use lib.ListN.{length, get_or, drop}
use borrow.Author.Tests.{eq-eqb}
use Rattle.std.specs.Prelude.{Some, None}
use Rattle.mask.specs.Mask.{has}
use Rattle.refusal.specs.Rows.{first}
use Rattle.route.specs.Steps.{blank, steps_of, union, names, lookup}
use Rattle.route.specs.Firing.{implied_start}
use Rattle.route.proofs.Implied.{implied-iff}
use Rattle.route.specs.declared.Route.{Route}
use Rattle.route.specs.declared.Step.{Step}
use Rattle.job.specs.Job.{Job, job_of, job_line, new_start}
use Rattle.job.specs.Lines.{done_rows, checked, LinesPass}
use Rattle.lookup.specs.Position.{position}
use Rattle.lookup.specs.Around.{looked, compared_from, Unique}
use Rattle.lookup.specs.Follows.{Follows}
use Rattle.lookup.proofs.Around.{count-below, count-above, count-nowhere}
use Rattle.lookup.proofs.Unique.{looked-found, found-lookup, missed-lookup}
use Rattle.lookup.proofs.Totals.{looked-next, total-round, total-follows, total-least, total-most}
use Rattle.running.specs.Run.{ran, performed}
use Rattle.occurrences.specs.Occurrences.{shared, occurrences_of}
use Rattle.occurrences.proofs.SharedPlaces.{shared-iff}
use Rattle.slicing.specs.Slicing.{sliced}
use Rattle.finding.specs.Comparisons.{comparisons}
use Rattle.slice.specs.Slice.{token, LastWriter, Kept, reads_at, writes_at, cuts_at, kept_mask}
use Rattle.precedence.specs.Precedence.{clash, comes_after, row}
use Rattle.precedence.specs.Order.{in_turn, EachOnce, in_order}
use Rattle.slice.proofs.Closure.{kept-iff, silent-not-kept}
use Rattle.precedence.proofs.Rows.{row-exact}
use Rattle.slice.proofs.Sweep.{cut-kept}
use Rattle.matching.specs.Straight.{fire_all, steps_on, runs_straight}
use Rattle.matching.specs.KeptRows.{kept_rows}
use Rattle.trying.specs.Try.{tried}
use Rattle.judging.specs.Judge.{judged, work_after}
use Rattle.answering.specs.Answer.{judge_stopped}
use Rattle.shelf.specs.Shelf.{no_edition, no_shelf, editions_of, last_number, good_shelf, route_of}
use Rattle.shelf.specs.Put.{stored}
use Rattle.shelf.specs.Judge.{judged_between, work_between}
use Rattle.shelf.specs.declared.Edition.{Edition}
use Rattle.shelf.specs.declared.Shelf.{Shelf}
use Rattle.version.specs.Limits.{scope, present, name_fits, Limits, Wider}
use Rattle.version.specs.declared.Version.{Version}
use Rattle.version.proofs.Limits.{scope-limits, present-limits, widest, fits_iff, word_fits}
use Rattle.layout.specs.Text.{job_text, text}
use Rattle.layout.specs.Begins.{IsSheet, FirstBroken}
use Rattle.layout.proofs.Apart.{apart}
use Rattle.facts.specs.Facts.{facts_of, read_by, read_of, job_read}
use Rattle.facts.specs.JobPart.{job_part}
use Rattle.facts.specs.Names.{NamesTo}
use Rattle.facts.specs.Marks.{MarksTo}
use Rattle.facts.specs.Starts.{StartsTo, RisingBelow, started_lines, started_both}
use Rattle.facts.specs.SheetRows.{sheet_rows, sheet_of}
use Rattle.facts.specs.LinesOf.{lines_of, AllWide, WideJob, as_record, as_records}
use Rattle.facts.proofs.RowOne.{row-1-iff, row-1-offset, read-sheet, sheet-facts, sheet-lines}
use Rattle.facts.proofs.Wider.{wider-reads, narrower-reads}
use Rattle.facts.proofs.StartsPutIn.{starts-put-in}
use Rattle.facts.proofs.PartText.{job-part-text}
use Rattle.facts.proofs.Widths.{records-own}
use Rattle.writer.specs.Written.{written_by, longest}
use Rattle.writer.specs.Writes.{wrote}
use Rattle.writer.proofs.Inverses as W
use Rattle.writer.proofs.RoundTrips.{write-reads}
use Rattle.writer.proofs.Bound.{bounded}
use Rattle.writer.proofs.Longest.{scope-attained, present-attained}
use Rattle.converting.specs.Up.{with_implied, raised}
use Rattle.converting.specs.Down.{lowered}
use Rattle.converting.specs.Either.{has_start_line, converted}
use Rattle.listing_lines.specs.Lines.{refused_line}
use Rattle.listing.specs.Listing.{listing}
use Rattle.ops.specs.Print.{sheet_answer, listing_of, printed, out_printed}
use Rattle.ops.specs.SheetTry.{tried_sheet}
use Rattle.examples.specs.Table.{AllPrint, table}
use Rattle.examples.specs.LongNames.{long_names}
use Rattle.examples.specs.Cuts.{cuts}
use Rattle.examples.specs.Starts.{starts}
use Rattle.examples.specs.Unwritten.{unwritten}
use Rattle.examples.specs.Branches.{branches}
use Rattle.examples.specs.Converted.{AllRaised, scope_letters, LRefused, AllLowered, lowerings}
use Rattle.examples.proofs.Converted.{letters-raised, l-refused, all-lowered}
use Rattle.examples.proofs.Examples.{examples, long-names, cuts-print, starts-print, unwritten-print, branches-print}
use Rattle.theorems.specs.Values.{Work, all_blank, perform_all, cut_all}
use Rattle.theorems.specs.Demand3.{Runs, positions, Accepted, FitFor, ordered, moved, whole_job}
use Rattle.theorems.specs.Demand3.{Demand3}
use Rattle.theorems.specs.Given.{Given}
use Rattle.theorems.specs.Sheets.{job_on, SheetRuns, Movable, Moved, Refused, BeginsWith}
use Rattle.theorems.specs.Shows.{Shows}
use Rattle.theorems.specs.RoundTrip.{bytes_written, WritesBytes, counts_read, job_into, ReadsInto}
use Rattle.theorems.specs.Editions.{Eight, UnusedBlank, Later, Meets, AllMeet}
use Rattle.theorems.specs.Unwritten.{RefusedBy23, SheetRefusedBy23, PutRefusedBy23, Is23}
use Rattle.theorems.proofs.KeptValues.{kept-values, kept-cuts}
use Rattle.theorems.specs.Holders.{nothing, from_start, put_by, fills, held, marking_before}
use Rattle.theorems.proofs.ComesAfter.{comes_after-iff, cut-after}
use Rattle.theorems.proofs.Holders.{occurrence-takes, occurrence-puts, putter-iff, start-iff, nothing-iff}
use Rattle.theorems.proofs.Holders.{needs-its-putter}
use Rattle.theorems.proofs.NarrowedReplay.{straight-unaltered}
use Rattle.theorems.proofs.Accepts.{try-fit, try-second, try-marking}
use Rattle.theorems.proofs.Judge.{judge-moves, judge-second, judge-given, judge-marking, judge-refuses}
use Rattle.theorems.proofs.Judge.{given-one}
use Rattle.theorems.proofs.Shown.{judge-shows}
use Rattle.theorems.proofs.Printed.{print-answer, print-leaves, print-moves, print-refuses, print-shows}
use Rattle.theorems.proofs.Printed.{try-sheet}
use Rattle.ops.proofs.ListingLength.{listing-length}
use Rattle.theorems.proofs.LongestListing.{one-listing}
use Rattle.theorems.proofs.StartLines.{starts-fit}
use Rattle.theorems.specs.BetweenEditions.{Raises, Lowers, Converts, to_row_7}
use Rattle.theorems.proofs.BetweenEditions.{there-and-back, down-succeeds, up-succeeds, raised-job}
use Rattle.theorems.proofs.BetweenEditions.{twenty-two, never-22}
use Rattle.theorems.proofs.BetweenEditions.{scope-told, present-told, convert-back}
use Rattle.theorems.proofs.RoundTrip.{read-then-write, write-then-read-lent, read-lent, read-then-write-lent}
use Rattle.theorems.proofs.LookUps.{names-unique, run-follows, match-follows}
use Rattle.theorems.proofs.Editions.{empty-good, put-good, put-eight, put-blank, put-stores, put-adds}
use Rattle.theorems.proofs.Editions.{put-finds, put_keeps, edition-found, put-bad, put-refuses}
use Rattle.theorems.proofs.EditionsJudged.{shelf-judges, shelf-works, shelf-prints, shelf-nineteen}
use Rattle.theorems.proofs.EditionsJudged.{shelf-fourteen, shelf-bad}
use Rattle.theorems.proofs.EditionsStored.{stored-meets, meets-found, routes-pass}
use Rattle.theorems.proofs.UnwrittenAnswers.{run-23, slice-23, compare-23, try-23, judge-23, try-sheet-23, lists-23}
use Rattle.theorems.proofs.UnwrittenAnswers.{print-begins-23, put-23, shelf-23, read-never, read-lists-never}
use Rattle.theorems.proofs.UnwrittenAnswers.{write-never, up-never, down-never, convert-never}
use Rattle.theorems.proofs.AcceptedReplay.{moved-cuts}
use Rattle.theorems.proofs.Demand3.{demand3}

-- ---- "1: layout broken": "offset of the first byte where no sheet begins so, or the length if it ends early". The
-- layout has versions, 01's and the present one, which differ in their limits. What is said of a version holds for
-- both; the operations read and write by the present one.

pub both-versions-keep-to-limits : Limits scope × Limits present
both-versions-keep-to-limits = (scope-limits, present-limits)

-- reading answers 1 exactly where the bytes are no sheet
pub row-1-exactly : {v : Version} → Limits v → (s : List ℕ) → ((read_by v s).number ≡ 1) ↔ (IsSheet v s → ⊥)
row-1-exactly = row-1-iff

-- and its second number is that offset
pub row-1-second : {v : Version} → Limits v → (s : List ℕ) → (read_by v s).number ≡ 1
    → FirstBroken v s (read_by v s).second
row-1-second = row-1-offset

-- sound: what isn't answered with 1 is a sheet
pub reading-is-sound : {v : Version} → Limits v → (s : List ℕ) → ((read_by v s).number ≡ 1 → ⊥) → IsSheet v s
reading-is-sound = read-sheet

-- complete: a sheet is answered by the rows of its lines
pub reading-is-complete : {v : Version} → Limits v → (s : List ℕ) (x : IsSheet v s) → read_by v s ≡ facts_of v x.lines
reading-is-complete = sheet-facts

-- and where it reads, its records have its lines: no number is cut down
pub reading-keeps-the-lines : {v : Version} → Limits v → (s : List ℕ) (x : IsSheet v s) → (read_by v s).number ≡ 0
    → lines_of (job_read (read_by v s)) ≡ x.lines
reading-keeps-the-lines = sheet-lines

-- ---- "A sheet that reads also has its job part lent back": "the caller's own bytes from `(job)` to the end"

pub job-part-is-its-text : (s : List ℕ) → (read_of s).number ≡ 0 → job_part s ≡ job_text (job_on s).done
job-part-is-its-text = job-part-text

-- ---- "No sheet that reads is longer than 18,136 bytes", and in 02 "a sheet has at most 20,500 bytes"

pub no-sheet-is-longer : (s : List ℕ) → (read_of s).number ≡ 0 → length s ≤ 20500
no-sheet-is-longer = bounded present-limits

pub one-is-as-long : (s : List ℕ) × (length s ≡ 20500) × ((read_of s).number ≡ 0)
one-is-as-long = present-attained

pub no-sheet-of-01-is-longer : (s : List ℕ) → (read_by scope s).number ≡ 0 → length s ≤ 18136
no-sheet-of-01-is-longer = bounded scope-limits

pub one-of-01-is-as-long : (s : List ℕ) × (length s ≡ 18136) × ((read_by scope s).number ≡ 0)
one-of-01-is-as-long = scope-attained

-- (in every version 192 times its digits, and 17,176, and 1,024 where it has the mark, and 380 where it has start
-- lines)
pub no-sheet-of-a-version-is-longer : {v : Version} → Limits v → (s : List ℕ) → (read_by v s).number ≡ 0
    → length s ≤ longest v
no-sheet-of-a-version-is-longer = bounded

-- ---- "Writing takes the same facts as records: each route is a lent list of step records"

-- what write leaves is read as the records that it took
pub written-is-read : (j : Job) (out : List ℕ) → (wrote j (length out)).number ≡ 0
    → read_of (bytes_written j out) ≡ sheet_of (as_records j)
written-is-read = write-reads

-- (and these are the same records, where their masks have the widths that they have in the code)
pub records-are-their-own : (l : List Step) → AllWide l → map as_record l ≡ l
records-are-their-own = records-own

-- what read takes, write gives back byte for byte
pub read-is-written : (s out : List ℕ) → (read_of s).number ≡ 0 → length s ≤ length out → WritesBytes (job_on s) s out
read-is-written = read-then-write

-- the same over lent lists: what is written is read back into any lists long enough, and "entries past those filled
-- keep their contents"
pub written-is-read-into-lists : (j : Job) (out : List ℕ) → (wrote j (length out)).number ≡ 0
    → (old new : List Step) (done : List ℕ) → length j.old ≤ length old → length j.new ≤ length new
    → length j.done ≤ length done → ReadsInto (bytes_written j out) (as_records j) old new done
written-is-read-into-lists = write-then-read-lent

-- what is read into lists is the sheet's job, and written again it gives the same bytes
pub lists-hold-the-sheet : (s : List ℕ) (old new : List Step) (done : List ℕ) → (counts_read s old new done).number ≡ 0
    → ReadsInto s (job_on s) old new done
lists-hold-the-sheet = read-lent

pub lists-are-written : (s : List ℕ) (old new : List Step) (done : List ℕ) → (counts_read s old new done).number ≡ 0
    → (out : List ℕ) → length s ≤ length out → WritesBytes (job_into s old new done) s out
lists-are-written = read-then-write-lent

-- and in every version: what it reads is written byte for byte, and what is written of records whose lines pass its
-- rows, with no mark and no start where it has none, it reads as these records
pub each-version-is-written : {v : Version} → Limits v → (s : List ℕ) → (read_by v s).number ≡ 0
    → written_by v (job_read (read_by v s)) ≡ s
each-version-is-written = W.read-then-write

pub each-version-is-read : {v : Version} → Limits v → (j : Job) → WideJob j → MarksTo v.cloth (lines_of j)
    → StartsTo v.starts (lines_of j) → (first (sheet_rows v (lines_of j))).number ≡ 0
    → read_by v (written_by v j) ≡ sheet_of j
each-version-is-read limits j wide marks starts pass = W.lines-then-read limits j wide marks starts (eq-eqb _ 0 pass)

-- ---- 02, "Start places written down": "A line `(start ..)` with 1 to 64 rising places follows each head"

-- it must be there: no bytes are a sheet of a version with start lines and of one without, so a sheet of 01's layout is
-- refused by 1
pub no-sheet-is-of-both-kinds : (v w : Version) → v.starts ≡ true → w.starts ≡ false → (s : List ℕ) → IsSheet v s
    → IsSheet w s → ⊥
no-sheet-is-of-both-kinds = apart

pub a-sheet-of-01-is-refused-by-1 : (s : List ℕ) → IsSheet scope s → (read_of s).number ≡ 1
a-sheet-of-01-is-refused-by-1 s x = (row-1-iff present-limits s).1 (λ y. apart present scope refl refl s y x)

-- and its places rise below the place count, in every sheet that reads
pub the-start-places-rise : {v : Version} → Limits v → v.starts ≡ true → (s : List ℕ) (x : IsSheet v s)
    → (read_by v s).number ≡ 0
    → RisingBelow x.lines.old_places x.lines.old_start × RisingBelow x.lines.new_places x.lines.new_start
the-start-places-rise = starts-fit

-- with any start lines that do so put in, a sheet that any version reads is read as the same facts with these starts
pub a-sheet-reads-with-start-lines-put-in : {v : Version} → Limits v → (s : List ℕ) (x : IsSheet v s)
    → (read_by v s).number ≡ 0 → (a b : List ℕ) → RisingBelow x.lines.old_places a → RisingBelow x.lines.new_places b
    → read_of (text present (started_lines a b x.lines)) ≡ started_both a b (read_by v s)
a-sheet-reads-with-start-lines-put-in = starts-put-in

-- 01's start "is only implied": a written one is the implied one exactly when each place has a token where it is below
-- the place count and an out-place of no step
pub a-start-is-the-implied-one-exactly : (count : ℕ) (l : List Step) (m : ℕ)
    → (m ≡ implied_start count l)
    ↔ ((p : ℕ) → has m p ≡ (ltb p count && not (has (union (λ (s : Step). s.outs) l) p)))
a-start-is-the-implied-one-exactly = implied-iff

-- routes that loop back to their first place, jobs that have gone round, starts that are missing, fall, lie beyond the
-- places or are empty: such sheets from bytes to bytes
pub every-start : AllPrint starts
every-start = starts-print

-- ---- 02, "Sheets between editions": "A converter goes from 01's layout to the present one, writing out the implied
-- start, and back."

-- "Going there and back gives the first bytes again": up gives the bytes t of a sheet s exactly where down gives s of t
pub there-and-back-gives-the-first-bytes : (s t : List ℕ) → Raises s t ↔ Lowers t s
there-and-back-gives-the-first-bytes = there-and-back

-- so with room down succeeds exactly on what up gives, and up on what down gives
pub down-succeeds-on-what-up-gives : (t : List ℕ) (room : ℕ)
    → ((lowered t room).number ≡ 0) ↔ ((s : List ℕ) × Raises s t × (length s ≤ room))
down-succeeds-on-what-up-gives = down-succeeds

pub up-succeeds-on-what-down-gives : (s : List ℕ) (room : ℕ)
    → ((raised s room).number ≡ 0) ↔ ((t : List ℕ) × Lowers t s × (length t ≤ room))
up-succeeds-on-what-down-gives = up-succeeds

-- what up gives has the same facts, with the start that each route implies
pub what-up-gives-is-the-same-job : (s t : List ℕ) → Raises s t
    → ((read_by scope s).number ≡ 0) × ((read_of t).number ≡ 0)
    × (job_on t ≡ with_implied (job_read (read_by scope s)))
what-up-gives-is-the-same-job = raised-job

-- "22, a form that 01's layout can't say", "after rows 1 to 7 of the sheet given and before 15": where no row to 7
-- refuses, 22 is the answer exactly where up gives the sheet of none; and going up it never is
pub twenty-two-is-what-01-cannot-say : (t : List ℕ) → (to_row_7 t).number ≡ 0 → (room : ℕ)
    → ((lowered t room).number ≡ 22) ↔ ((s : List ℕ) → Raises s t → ⊥)
twenty-two-is-what-01-cannot-say = twenty-two

pub going-up-is-never-22 : (s : List ℕ) (room : ℕ) → (raised s room).number ≡ 22 → ⊥
going-up-is-never-22 = never-22

-- a sheet's second line tells its version, so one operation goes both ways
pub the-second-line-tells : (s : List ℕ)
    → (IsSheet scope s → has_start_line s ≡ false) × (IsSheet present s → has_start_line s ≡ true)
the-second-line-tells s = (scope-told s, present-told s)

pub converted-twice-is-the-first : (s t : List ℕ) → Converts s t → Converts t s
converted-twice-is-the-first = convert-back

-- 01's examples as 01 writes them: up gives A to K with 02's start lines, byte for byte, and refuses L by 7
pub every-example-of-01-is-converted : AllRaised scope_letters × LRefused
every-example-of-01-is-converted = (letters-raised, l-refused)

-- starts, marks and names that 01 can't say, its greatest name, and rows that go before 22: such sheets from their bytes
pub every-lowering : AllLowered lowerings
every-lowering = all-lowered

-- ---- 02, "Longer step names": "A name may be 1 to 4,294,967,295 and every number up to ten digits long."

pub a-name-is-in-its-range : (n : ℕ) → (name_fits present n ≡ true) ↔ ((1 ≤ n) × (n ≤ 4294967295))
a-name-is-in-its-range = fits_iff present

pub a-name-of-01-is-in-its-range : (n : ℕ) → (name_fits scope n ≡ true) ↔ ((1 ≤ n) × (n ≤ 65535))
a-name-of-01-is-in-its-range = fits_iff scope

-- so of a record's names, which have 32 bits, only 0 is outside
pub only-0-is-outside : (n : ℕ) → n < 2 ^ 32 → (name_fits present n ≡ true) ↔ (n ≡ 0 → ⊥)
only-0-is-outside = word_fits

-- what a version reads, a wider one reads as the same facts, and the present one is wider than any other with start
-- lines
pub the-present-version-is-wider : (v : Version) → Limits v → v.starts ≡ true → Wider v present
the-present-version-is-wider = widest

pub a-wider-version-reads-the-same : {v w : Version} → Wider v w → Limits v → Limits w → (s : List ℕ)
    → (read_by v s).number ≡ 0 → read_by w s ≡ read_by v s
a-wider-version-reads-the-same = wider-reads

-- and a version reads exactly what a wider one reads with each name within its own range, and no mark where it has none
pub a-version-reads-by-its-names : {v w : Version} → Wider v w → Limits v → Limits w → (s : List ℕ)
    → ((read_by v s).number ≡ 0)
    ↔ (((read_by w s).number ≡ 0) × NamesTo v.greatest (lines_of (job_read (read_by w s)))
    × MarksTo v.cloth (lines_of (job_read (read_by w s))))
a-version-reads-by-its-names = narrower-reads

-- "`(done 65536)` is then a plain name", "Eleven digits break the layout": such sheets from bytes to bytes
pub every-long-name : AllPrint long_names
every-long-name = long-names

-- ---- 02, "Look-up from where we were": "Finding a name shall begin after the step found last, the first time or past
-- the last step at the top, and go round to the top."

-- "Names are unique": rows 4, 2, 3 and 5 see to it
pub names-are-unique : (j : Job) → LinesPass j → Unique (names j.old) × Unique (names j.new)
names-are-unique = names-unique

-- "so from wherever it begins each finding is as before": the first position from the top, and so the step of that name
pub each-finding-is-as-before : (n : ℕ) (l : List ℕ) → Unique l → (from : ℕ) → (looked from n l).found ≡ position n l
each-finding-is-as-before = looked-found

pub what-is-found-is-the-step-of-the-name : (from n : ℕ) (l : List Step) → Unique (names l) → (k : ℕ)
    → (looked from n (names l)).found ≡ Some k → lookup n l ≡ some (get_or l k blank)
what-is-found-is-the-step-of-the-name = found-lookup

pub what-is-missed-has-no-step : (from n : ℕ) (l : List Step) → Unique (names l)
    → (looked from n (names l)).found ≡ None → lookup n l ≡ none
what-is-missed-has-no-step = missed-lookup

-- "how many names it compared: those from its beginning to the step found", below the beginning or, gone round, above
-- it, "or all where there is none"
pub counts-to-a-step-below : (from n : ℕ) (l : List ℕ) (k : ℕ) → (looked from n l).found ≡ Some k → from ≤ k
    → from + (looked from n l).compared ≡ k + 1
counts-to-a-step-below = count-below

pub counts-round-to-a-step-above : (from n : ℕ) (l : List ℕ) (k : ℕ) → (looked from n l).found ≡ Some k → k < from
    → from ≤ length l → from + (looked from n l).compared ≡ length l + k + 1
counts-round-to-a-step-above = count-above

pub counts-all-where-there-is-none : (from n : ℕ) (l : List ℕ) → (looked from n l).found ≡ None
    → (looked from n l).compared ≡ length l
counts-all-where-there-is-none = count-nowhere

-- past the last it begins at the top
pub past-the-last-it-begins-at-the-top : (from : ℕ) (l : List ℕ) → length l ≤ from → (sought : List ℕ)
    → compared_from from l sought ≡ compared_from 0 l sought
past-the-last-it-begins-at-the-top = total-round

-- "mostly stands just below the last one": such a name costs one comparison
pub the-name-just-below-costs-one : (from n : ℕ) (l : List ℕ) (k : ℕ) → (looked from n l).found ≡ Some k
    → suc k < length l
    → looked (looked from n l).next (get_or l (suc k) 0) l
    ≡ record { found = Some (suc k); compared = 1; next = suc (suc k) }
the-name-just-below-costs-one = looked-next

-- a list that follows the names costs one each; among names none costs less, and none more than all of them each time
pub a-list-that-follows-costs-one-each : (from : ℕ) (l sought : List ℕ) → Follows l from sought
    → compared_from from l sought ≡ length sought
a-list-that-follows-costs-one-each = total-follows

pub no-list-costs-less : (from : ℕ) (l sought : List ℕ) → 1 ≤ length l → length sought ≤ compared_from from l sought
no-list-costs-less = total-least

pub no-list-costs-more : (from : ℕ) (l sought : List ℕ) → compared_from from l sought ≤ length sought * length l
no-list-costs-more = total-most

-- so a job whose done list follows its old route is run, and one that follows the new is matched, by one look each
pub a-job-that-follows-is-run-by-one-each : (j : Job) → (ran j).number ≡ 0 → Follows (names j.old) 0 j.done
    → (comparisons j).run ≡ length j.done
a-job-that-follows-is-run-by-one-each = run-follows

pub a-job-that-follows-is-matched-by-one-each : (j : Job) → (ran j).number ≡ 0 → Follows (names j.new) 0 j.done
    → (comparisons j).matched ≡ length j.done
a-job-that-follows-is-matched-by-one-each = match-follows

-- ---- "Kept: the last writer in the done list of each new-route variable, and all that these need, over and over."
-- 02, "Cloth that is cut stays cut": "Every cloth occurrence of the old route is kept, with all it needs"

pub kept-is-the-closure : (l : List Step) (vars i : ℕ) → (has (kept_mask l vars) i ≡ true) ↔ Kept l vars i
kept-is-the-closure = kept-iff

pub every-cut-is-kept : (l : List Step) (vars i : ℕ) → cuts_at l i ≡ true → has (kept_mask l vars) i ≡ true
every-cut-is-kept = cut-kept

-- "An occurrence that writes nothing is never kept", which "holds for unmarked ones only", and for those that put no
-- token that a kept one took from a shared place
pub silent-is-not-kept : (l : List Step) (vars i : ℕ) → cuts_at l i ≡ false → (get_or l i blank).writes ≡ 0
    → ((k p : ℕ) → has (kept_mask l vars) k ≡ true → reads_at l k (token p) ≡ true → LastWriter l k (token p) i → ⊥)
    → has (kept_mask l vars) i ≡ false
silent-is-not-kept = silent-not-kept

-- "Precedence is one table with a row of occurrence bits for each occurrence."
pub table-is-precedence : (l : List Step) (i j : ℕ) → has (row l i) j ≡ comes_after l i j
table-is-precedence = row-exact

-- an earlier one is in a row exactly when they clash, both cut cloth, "of two cloth occurrences the later comes after
-- the earlier", or it put a token that the later took from a shared place
pub comes-after-exactly : (l : List Step) (i j : ℕ)
    → (comes_after l i j ≡ true)
    ↔ (j < i)
    × ((clash (get_or l i blank) (get_or l j blank) ≡ true)
    ⊎ (((cuts_at l i ≡ true) × (cuts_at l j ≡ true))
    ⊎ ((p : ℕ) × (reads_at l i (token p) ≡ true) × LastWriter l i (token p) j)))
comes-after-exactly = comes_after-iff

pub the-later-cut-comes-after : (l : List Step) (i j : ℕ) → j < i → cuts_at l i ≡ true → cuts_at l j ≡ true
    → comes_after l i j ≡ true
the-later-cut-comes-after = cut-after

-- the kept in any order that precedence allows leave in each wanted variable what all leave in their own order
pub kept-carry-the-values : (T : Type 0) (f : Work T) (l : List Step) (vars : ℕ) (o : List ℕ)
    → EachOnce (kept_mask l vars) o → in_order l o ≡ true → (v : ℕ) → has vars v ≡ true
    → perform_all f (λ i. get_or l i blank) o all_blank v
    ≡ perform_all f (λ i. get_or l i blank) (in_turn 0 (length l)) all_blank v
kept-carry-the-values T = kept-values

-- and cut cloth in the sequence in which all cut it
pub kept-carry-the-cloth : (l : List Step) (vars : ℕ) (o : List ℕ) → EachOnce (kept_mask l vars) o → in_order l o ≡ true
    → cut_all (λ i. get_or l i blank) o ≡ cut_all (λ i. get_or l i blank) (in_turn 0 (length l))
kept-carry-the-cloth = kept-cuts

-- cut panels, two cuts, marks that differ and marks at a wrong place: such sheets from bytes to bytes
pub every-cut : AllPrint cuts
every-cut = cuts-print

-- ---- 02, "Branches taken": "Where an occurrence took a token from a place that two or more steps of the old route
-- take from, it needs the occurrence that put the token there, and comes after it."

pub shared-is-where-two-take : (p : ℕ) (l : List Step)
    → (has (shared l) p ≡ true)
    ↔ ((i : ℕ) × (k : ℕ) × ((i < k) × (k < length l))
    × ((has (get_or l i blank).ins p ≡ true) × (has (get_or l k blank).ins p ≡ true)))
shared-is-where-two-take = shared-iff

-- "To take from a place is to have it among the in-places"; what is both in and out isn't put
pub an-occurrence-takes-from : (j : Job) (i p : ℕ)
    → reads_at (occurrences_of j) i (token p)
    ≡ (has (get_or (performed j.old j.done) i blank).ins p && has (shared j.old) p)
an-occurrence-takes-from = occurrence-takes

pub an-occurrence-puts-on : (j : Job) (i p : ℕ)
    → writes_at (occurrences_of j) i (token p)
    ≡ (fills (get_or (performed j.old j.done) i blank) p && has (shared j.old) p)
an-occurrence-puts-on = occurrence-puts

-- of a job that runs, the last earlier one that puts on the place is "the occurrence that put the token there": that of
-- a run whose places carry who filled them. "Start tokens have none"
pub the-last-putter-put-the-token : (j : Job) → Runs j → (i p : ℕ) → i < length j.done
    → reads_at (occurrences_of j) i (token p) ≡ true → (k : ℕ)
    → LastWriter (occurrences_of j) i (token p) k ↔ (held j i p ≡ put_by k)
the-last-putter-put-the-token = putter-iff

pub start-tokens-have-none : (j : Job) → Runs j → (i p : ℕ) → i < length j.done
    → reads_at (occurrences_of j) i (token p) ≡ true
    → ((k : ℕ) → LastWriter (occurrences_of j) i (token p) k → ⊥) ↔ (held j i p ≡ from_start)
start-tokens-have-none = start-iff

-- (that run's places are free exactly where 01's marking has no token)
pub places-are-free-where-no-token-is : (j : Job) (i p : ℕ)
    → (has (marking_before j i) p ≡ false) ↔ (held j i p ≡ nothing)
places-are-free-where-no-token-is = nothing-iff

-- so who took a token from a shared place comes after the occurrence that put it there, which is kept with it, "even if
-- it writes nothing"
pub an-occurrence-needs-its-putter : (j : Job) → Runs j → (i p k : ℕ) → i < length j.done
    → has (get_or (performed j.old j.done) i blank).ins p ≡ true → has (shared j.old) p ≡ true → held j i p ≡ put_by k
    → (comes_after (occurrences_of j) i k ≡ true)
    × ((vars : ℕ) → has (kept_mask (occurrences_of j) vars) i ≡ true → has (kept_mask (occurrences_of j) vars) k ≡ true)
an-occurrence-needs-its-putter = needs-its-putter

-- "straight replay is unaltered": it is that of the steps done
pub straight-replay-is-unaltered : (j : Job)
    → runs_straight (new_start j) j.new (occurrences_of j) ≡ runs_straight (new_start j) j.new (performed j.old j.done)
straight-replay-is-unaltered = straight-unaltered

-- a branch behind its test against routes that have the test and that lack it; one step that takes, and two; a step
-- with the place both in and out; start tokens, loops, and pairs that are free: such sheets from bytes to bytes
pub every-branch : AllPrint branches
every-branch = branches-print

-- ---- "Accepted: try answers it with 0, 0."

-- try answers 0, 0 exactly when the list is fit, and gives the marking at the end of its firing
pub try-accepts-the-fit : (j : Job) → Runs j → (o : List ℕ) → ((tried j o).number ≡ 0) ↔ FitFor j o
try-accepts-the-fit = try-fit

pub try-accepts-with-0 : (j : Job) → Runs j → (o : List ℕ) → (tried j o).number ≡ 0 → (tried j o).second ≡ 0
try-accepts-with-0 = try-second

pub try-gives-the-end : (j : Job) → Runs j → (o : List ℕ) → (tried j o).number ≡ 0
    → fire_all j.new (new_start j) (steps_on (occurrences_of j) (positions o)) ≡ some (tried j o).marking.tokens
try-gives-the-end = try-marking

-- "the C form of try" takes sheet bytes, and accepts exactly the fit orders of the sheet's job
pub try-on-bytes-accepts-the-fit : (s o : List ℕ) → ((tried_sheet s o).number ≡ 0) ↔ SheetRuns s × FitFor (job_on s) o
try-on-bytes-accepts-the-fit = try-sheet

-- ---- "The engine gives the straight list if there is one; else, of all fit lists, the first in dictionary order of
-- occurrence numbers."

-- with room enough judge moves a job exactly when a fit list exists, and answers 13 exactly when the rows to 12 pass
-- and none does
pub judge-moves-where-one-fits : (j : Job) (room : ℕ) → Runs j → 8192 ≤ room
    → ((judged j room).number ≡ 0) ↔ ((o : List ℕ) × FitFor j o)
judge-moves-where-one-fits = judge-moves

pub judge-refuses-where-none-fits : (j : Job) (room : ℕ) → Runs j → 8192 ≤ room
    → ((judged j room).number ≡ 13) ↔ ((kept_rows (job_line j) (new_start j) j.new (occurrences_of j)).number ≡ 0)
    × ((o : List ℕ) → FitFor j o → ⊥)
judge-refuses-where-none-fits = judge-refuses

pub judge-moves-with-0 : (j : Job) (room : ℕ) → Runs j → (judged j room).number ≡ 0 → (judged j room).second ≡ 0
judge-moves-with-0 = judge-second

pub judge-gives-the-first : (j : Job) (room : ℕ) → Runs j → (judged j room).number ≡ 0 → Given j (ordered j room)
judge-gives-the-first = judge-given

pub judge-gives-the-only : (j : Job) (o q : List ℕ) → Given j o → Given j q → o ≡ q
judge-gives-the-only = given-one

-- with the marking at the end of its firing
pub judge-gives-the-end : (j : Job) (room : ℕ) → Runs j → (judged j room).number ≡ 0
    → fire_all j.new (new_start j) (steps_on (occurrences_of j) (positions (ordered j room)))
    ≡ some (judged j room).marking.tokens
judge-gives-the-end = judge-marking

-- ---- "A success gives 0, 0 and the facts that the listing shows"

pub judge-shows-the-facts : (j : Job) (room : ℕ) → Runs j → (judged j room).number ≡ 0 → Shows j (judged j room)
judge-shows-the-facts = judge-shows

-- ---- "For print, a refusal up to 13 is itself the listing and counts as success; success returns the bytes written."

-- with a work slice of 8,192 bytes and room for it, print leaves the listing at the front of the out slice, and the
-- rest as it was
pub print-counts-the-listing : (s out : List ℕ) (work : ℕ) → 8192 ≤ work → length (listing_of s) ≤ length out
    → printed s work (length out) ≡ record { number = 0; second = 0; written = length (listing_of s) }
print-counts-the-listing = print-answer

pub print-leaves-the-listing : (s out : List ℕ) (work : ℕ) → 8192 ≤ work → length (listing_of s) ≤ length out
    → out_printed s work out ≡ listing_of s ++ drop (length (listing_of s)) out
print-leaves-the-listing = print-leaves

-- (7,053 bytes are room for any)
pub no-listing-is-longer : (s : List ℕ) → length (listing_of s) ≤ 7053
no-listing-is-longer = listing-length

pub one-listing-is-as-long : (s : List ℕ) × (length (listing_of s) ≡ 7053)
one-listing-is-as-long = one-listing

-- demand 2 from bytes to bytes: it begins `(moved` exactly when the sheet reads, its old route runs its job and a fit
-- order exists, and else `(refused`
pub print-moves-where-one-fits : (s out : List ℕ) (work : ℕ) → 8192 ≤ work → length (listing_of s) ≤ length out
    → Moved (out_printed s work out) ↔ Movable s
print-moves-where-one-fits = print-moves

pub print-refuses-where-none-fits : (s out : List ℕ) (work : ℕ) → 8192 ≤ work → length (listing_of s) ≤ length out
    → Refused (out_printed s work out) ↔ (Movable s → ⊥)
print-refuses-where-none-fits = print-refuses

-- and what a `(moved` listing is made from means what 01 says
pub print-shows-the-facts : (s out : List ℕ) (work : ℕ) → 8192 ≤ work → length (listing_of s) ≤ length out
    → Moved (out_printed s work out) → Shows (job_on s) (sheet_answer s)
print-shows-the-facts = print-shows

-- ---- 02, "A reading that nobody writes": "A route with a step that reads a variable which no step of that route
-- writes is refused." Run, slice, try and judge answer 23 and a line exactly where no earlier row refuses and there is
-- such a step, the first one on that line: in the old route, or else in the new

pub run-answers-23-exactly : (j : Job) (at : ℕ) → Is23 (ran j).number (ran j).second at ↔ RefusedBy23 j at
run-answers-23-exactly = run-23

pub slice-answers-23-exactly : (j : Job) (at : ℕ) → Is23 (sliced j).number (sliced j).second at ↔ RefusedBy23 j at
slice-answers-23-exactly = slice-23

pub try-answers-23-exactly : (j : Job) (at : ℕ) (o : List ℕ)
    → Is23 (tried j o).number (tried j o).second at ↔ RefusedBy23 j at
try-answers-23-exactly = try-23

pub judge-answers-23-exactly : (j : Job) (at room : ℕ) → 8192 ≤ room
    → Is23 (judged j room).number (judged j room).second at ↔ RefusedBy23 j at
judge-answers-23-exactly = judge-23

pub comparing-answers-23-exactly : (j : Job) (at : ℕ)
    → Is23 (comparisons j).number (comparisons j).second at ↔ RefusedBy23 j at
comparing-answers-23-exactly = compare-23

pub try-on-bytes-answers-23-exactly : (s : List ℕ) (at : ℕ) (o : List ℕ)
    → Is23 (tried_sheet s o).number (tried_sheet s o).second at ↔ SheetRefusedBy23 s at
try-on-bytes-answers-23-exactly = try-sheet-23

-- "for print it is itself the listing, like one up to 13": `(refused 23 LINE)`, and no other sheet's begins so
pub print-lists-23 : (s : List ℕ) (at : ℕ) → SheetRefusedBy23 s at → listing_of s ≡ refused_line 23 at
print-lists-23 = lists-23

pub print-lists-23-exactly : (s out : List ℕ) (work : ℕ) → 8192 ≤ work → length (listing_of s) ≤ length out
    → BeginsWith "(refused 23 " (out_printed s work out) ↔ ((at : ℕ) × SheetRefusedBy23 s at)
print-lists-23-exactly = print-begins-23

-- "The shelf looks for it too": put, of the route that it is given, and judge between two editions, whatever was stored
pub put-answers-23-exactly : (s : Shelf) (n : ℕ) (r : Route) (at : ℕ)
    → Is23 (stored s n r).number (stored s n r).second at ↔ PutRefusedBy23 s n r at
put-answers-23-exactly = put-23

pub shelf-answers-23-exactly : (s : Shelf) (edition target : ℕ) (old new : Route)
    → Later s edition target old new → (done : List ℕ) (room : ℕ) → 8192 ≤ room → (at : ℕ)
    → Is23 (judged_between s edition target done room).number (judged_between s edition target done room).second at
    ↔ RefusedBy23 (job_of old new done) at
shelf-answers-23-exactly = shelf-23

-- "the converter doesn't", and neither do read, into records or lent lists, and write
pub reading-never-answers-23 : (s : List ℕ) → (read_of s).number ≡ 23 → ⊥
reading-never-answers-23 = read-never

pub reading-into-lists-never-answers-23 : (s : List ℕ) (old new : List Step) (done : List ℕ)
    → (counts_read s old new done).number ≡ 23 → ⊥
reading-into-lists-never-answers-23 = read-lists-never

pub writing-never-answers-23 : (j : Job) (room : ℕ) → (wrote j room).number ≡ 23 → ⊥
writing-never-answers-23 = write-never

pub converting-never-answers-23 : (s : List ℕ) (room : ℕ) → ((raised s room).number ≡ 23 → ⊥)
    × ((lowered s room).number ≡ 23 → ⊥) × ((converted s room).number ≡ 23 → ⊥)
converting-never-answers-23 s room = (up-never s room, down-never s room, convert-never s room)

-- a step that reads what it writes itself or what a later one writes; mistyped readings in the old route, in the new,
-- in both, two of them, what the other route writes; rows that go before and after: such sheets from bytes to bytes
pub every-unwritten : AllPrint unwritten
every-unwritten = unwritten-print

-- ---- 02, "Shelf of editions": "The shelf holds up to 8 editions of a route with rising numbers from 1 to 65,535."

-- the empty shelf is good, and put keeps a good shelf good, with its eight entries, those not used 0
pub empty-shelf-is-good : (good_shelf no_shelf ≡ true) × (Eight no_shelf × UnusedBlank no_shelf)
empty-shelf-is-good = empty-good

pub put-keeps-a-shelf-good : (s : Shelf) (n : ℕ) (r : Route) → Eight s → good_shelf s ≡ true
    → good_shelf (stored s n r).shelf ≡ true
put-keeps-a-shelf-good = put-good

pub put-keeps-its-entries : (s : Shelf) (n : ℕ) (r : Route) → Eight s → Eight (stored s n r).shelf
put-keeps-its-entries = put-eight

pub put-keeps-the-unused-0 : (s : Shelf) (n : ℕ) (r : Route) → UnusedBlank s → UnusedBlank (stored s n r).shelf
put-keeps-the-unused-0 = put-blank

-- it stores an edition exactly where the shelf is good, the number is above the last one and at most 65,535, there is
-- room, and the route meets its rows; and then the shelf holds that edition behind those that it held
pub put-stores-exactly : (s : Shelf) (n : ℕ) (r : Route)
    → ((stored s n r).number ≡ 0)
    ↔ ((good_shelf s ≡ true) × (((last_number s < n) × (n ≤ 65535)) × ((s.len < 8) × Meets r)))
put-stores-exactly = put-stores

pub put-adds-the-edition : (s : Shelf) (n : ℕ) (r : Route) → (stored s n r).number ≡ 0 → Eight s
    → editions_of (stored s n r).shelf ≡ editions_of s ++ (record { number = n; route = r } ∷ [])
put-adds-the-edition = put-adds

-- an edition that is put is found by its number with its route, and every other number as before; on a good shelf each
-- edition is found by its number
pub put-edition-is-found : (s : Shelf) (n : ℕ) (r : Route) → (stored s n r).number ≡ 0 → Eight s
    → route_of n (editions_of (stored s n r).shelf) ≡ some r
put-edition-is-found = put-finds

pub put-keeps-the-others : (s : Shelf) (n : ℕ) (r : Route) → Eight s → (m : ℕ) → (m ≡ n → ⊥)
    → route_of m (editions_of (stored s n r).shelf) ≡ route_of m (editions_of s)
put-keeps-the-others = put_keeps

pub stored-editions-are-found : (s : Shelf) → good_shelf s ≡ true → (i : ℕ) → i < length (editions_of s)
    → route_of (get_or (editions_of s) i no_edition).number (editions_of s) ≡ some (get_or (editions_of s) i no_edition).route
stored-editions-are-found = edition-found

-- "A route put on the shelf meets rows 4, 2, 3, 5, 6 and 7 as an old route does", and 23. So every route that is found
-- on a shelf of puts meets them, and of a job between two such routes these rows refuse at most a done line
pub put-stores-what-meets-the-rows : (s : Shelf) (n : ℕ) (r : Route) → Eight s → AllMeet (editions_of s)
    → AllMeet (editions_of (stored s n r).shelf)
put-stores-what-meets-the-rows = stored-meets

pub found-routes-meet-the-rows : (l : List Edition) → AllMeet l → (n : ℕ) (r : Route) → route_of n l ≡ some r → Meets r
found-routes-meet-the-rows = meets-found

pub routes-that-meet-are-not-refused : (old new : Route) → Meets old → Meets new → (done : List ℕ)
    → checked (job_of old new done) ≡ first (done_rows present (job_line (job_of old new done) + 1) 0 done)
routes-that-meet-are-not-refused = routes-pass

-- "21 .. with 1 .. a shelf handed in with over 8 editions or with numbers that don't rise within 1 to 65,535"
pub put-tells-a-bad-shelf : (s : Shelf) (n : ℕ) (r : Route) → good_shelf s ≡ false
    → stored s n r ≡ record { number = 21; second = 1; shelf = s }
put-tells-a-bad-shelf = put-bad

-- "a refusal hands any state back as it came"
pub refused-put-changes-nothing : (s : Shelf) (n : ℕ) (r : Route) → ((stored s n r).number ≡ 0 → ⊥)
    → (stored s n r).shelf ≡ s
refused-put-changes-nothing = put-refuses

-- "A job names its edition and may be judged against any later one on the shelf. The answer equals that of a sheet with
-- these two routes."
pub shelf-judges-the-two-routes : (s : Shelf) (edition target : ℕ) (old new : Route)
    → Later s edition target old new → (done : List ℕ) (room : ℕ)
    → judged_between s edition target done room ≡ judged (job_of old new done) room
shelf-judges-the-two-routes = shelf-judges

pub shelf-leaves-the-work-slice-alike : (s : Shelf) (edition target : ℕ) (old new : Route)
    → Later s edition target old new → (done work : List ℕ)
    → work_between s edition target done work ≡ work_after (job_of old new done) work
shelf-leaves-the-work-slice-alike = shelf-works

-- (where the records can be written, and their masks have the widths that they have in the code)
pub shelf-judges-as-the-sheet-prints : (s : Shelf) (edition target : ℕ) (old new : Route)
    → Later s edition target old new → (done : List ℕ) → AllWide (steps_of old) → AllWide (steps_of new)
    → (room : ℕ) → 8192 ≤ room → (out : List ℕ) → (wrote (job_of old new done) (length out)).number ≡ 0
    → listing (judged_between s edition target done room) ≡ listing_of (bytes_written (job_of old new done) out)
shelf-judges-as-the-sheet-prints = shelf-prints

-- "19, edition not on the shelf or the target not later, after 14"; and 21 with 1 between them
pub shelf-wants-its-work-slice : (s : Shelf) (edition target : ℕ) (done : List ℕ) (room : ℕ) → room < 8192
    → judged_between s edition target done room ≡ judge_stopped 14 0
shelf-wants-its-work-slice = shelf-fourteen

pub judge-tells-a-bad-shelf : (s : Shelf) (edition target : ℕ) (done : List ℕ) (room : ℕ) → good_shelf s ≡ false
    → 8192 ≤ room → judged_between s edition target done room ≡ judge_stopped 21 1
judge-tells-a-bad-shelf = shelf-bad

pub shelf-refuses-other-pairs : (s : Shelf) (edition target : ℕ) (done : List ℕ) (room : ℕ) → good_shelf s ≡ true
    → 8192 ≤ room → ((old new : Route) → Later s edition target old new → ⊥)
    → judged_between s edition target done room ≡ judge_stopped 19 0
shelf-refuses-other-pairs = shelf-nineteen

-- ---- "To be proved": examples A to L, from bytes to bytes

pub every-example : AllPrint table
every-example = examples

-- ---- "All this is a single claim about the whole order, for all routes, done lists and functions, and not one for
-- each firing."

pub demand-3 : Demand3
demand-3 = demand3

-- in it, 02: "What must be equal at the end of a move now includes the sequence of cloth occurrences."
pub accepted-orders-cut-as-the-whole-job : (j : Job) (o : List ℕ) → Runs j → Accepted j o → (T : Type 0) (f : Work T)
    → (moved f j o).cut ≡ (whole_job f j).cut
accepted-orders-cut-as-the-whole-job j o ok a T f = (demand3.values j o ok a T f).cut

-- these are all occurrences of the done list that cut cloth, in its own order
pub accepted-orders-cut-in-turn : (j : Job) (o : List ℕ) → Runs j → Accepted j o → (T : Type 0) (f : Work T)
    → (moved f j o).cut ≡ cut_all (λ i. get_or (occurrences_of j) i blank) (in_turn 0 (length j.done))
accepted-orders-cut-in-turn j o ok a T f = moved-cuts j ok o a.0 f
