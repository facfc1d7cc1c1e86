-- Row 23 is the answer exactly where a step reads what no step of its route writes and no earlier row refuses: of a
-- route, of a job, of a route that is put. A step fails the test exactly where some variable that it reads is in no
-- step's writes, and the first step that fails it tells the line.
use mathlib.Core.Path.{◌≡◌, refl, sym, ap, ◌∙◌}
use mathlib.Core.Logic.{◌↔◌, ◌⊎◌, inl, inr}
use mathlib.Core.Bool.{Bool, true, false, not}
use mathlib.Core.List.{List, [], ◌∷◌, ◌++◌}
use Prim.Native.Nat.{ℕ, zero, suc, ◌+◌, ◌<◌}
use native.Mathlib.Omega.{arith}
use lib.Dec.{eqb}
use lib.ListN.{length, get_or}
use borrow.Author.Tests.{eqb-true, eqb-false, eq-eqb, not-true}
use Rattle.mask.specs.Mask.{has, without}
use Rattle.mask.proofs.Laws.{has-without, within_all, member_of}
use Rattle.mask.proofs.Sets.{without-none}
use Rattle.mask.proofs.Truth.{both, split}
use Rattle.refusal.specs.Rows.{refuse, first, AllPass, each_line}
use Rattle.refusal.specs.declared.Outcome.{Outcome}
use Rattle.refusal.proofs.Rows.{row-passes, row-refuses, rows_end, head-passes, head-refuses, head_passed, first_alone}
use Rattle.refusal.proofs.Rows.{rows_pass, rows-refuse, rows-passed, first-number}
use Rattle.route.specs.Steps.{blank, steps_of, union}
use Rattle.route.specs.declared.Places.{Places}
use Rattle.route.specs.declared.Route.{Route}
use Rattle.route.specs.declared.Step.{Step}
use Rattle.occurrences.proofs.Union.{union-iff}
use Rattle.opening.specs.Unwritten.{reads_written, unwritten_rows}
use Rattle.opening.specs.Net.{net_row, open_row}
use Rattle.job.specs.Job.{Job, new_line}
use Rattle.job.specs.Lines.{route_rows, line_rows, checked}
use Rattle.job.specs.Alone.{alone_rows}
use Rattle.shelf.specs.Put.{shelf_rows, put_row}
use Rattle.shelf.specs.declared.Shelf.{Shelf}
use Rattle.theorems.specs.Unwritten.{Written, FirstUnwritten, RefusedBy23, PutRefusedBy23}
use Rattle.theorems.proofs.RowNumbers.{Below, none-below, net-below, lines-below, route-below, shelf-below}

abbrev writes : Step → ℕ
writes s = s.writes

-- ---- what is written is what some step writes

in-union : (l : List Step) (v : ℕ) → (has (union writes l) v ≡ true) ↔ Written l v
in-union l v = union-iff writes v l

-- a step fails the test exactly where it reads a variable that no step writes
test-fails : (l : List Step) (s : Step)
    → (reads_written l s ≡ false) ↔ ((v : ℕ) × (has s.reads v ≡ true) × (Written l v → ⊥))
test-fails l s = (to, from)
  where
    to : reads_written l s ≡ false → (v : ℕ) × (has s.reads v ≡ true) × (Written l v → ⊥)
    to e =
        let (v, is) = member_of (without s.reads (union writes l))
        (eqb-false _ 0 (without-none s.reads (union writes l) ∙ e)) in
        let (read, off) = both (has s.reads v) (not (has (union writes l) v))
        (sym (has-without s.reads (union writes l) v) ∙ is) in (
          v,
          read,
          λ w. absurd (let z : true ≡ false = sym ((in-union l v).1 w)
              ∙ not-true (has (union writes l) v) off in cc),
        )

    from : (v : ℕ) × (has s.reads v ≡ true) × (Written l v → ⊥) → reads_written l s ≡ false
    from (v, read, none) =
        split (λ (t : Bool). t ≡ false) (reads_written l s)
        (λ e. absurd (none ((in-union l v).0 (within_all s.reads (union writes l) e v read)))) (λ e. refl)

-- ---- the first line that fails a test

record FirstFails (test : Step → Bool) (line : ℕ) (l : List Step) (at : ℕ) : Type 0 where
  pub step : ℕ
  pub inside : step < length l
  pub fails : test (get_or l step blank) ≡ false
  pub above : (i : ℕ) → i < step → test (get_or l i blank) ≡ true
  pub at-line : at ≡ line + step

module _ (test : Step → Bool) (n : ℕ) (some : eqb n 0 ≡ false) where
  each-to : (line at : ℕ) (l : List Step) → first (each_line test n line l) ≡ refuse n at → FirstFails test line l at
  unfolding each_line
  each-to line at [] e =
      absurd (eqb-false n 0 some (ap (λ (o : Outcome). o.number) (sym e ∙ rows_end)))
  each-to line at (s ∷ l) e = go (test s) refl (each-to (line + 1) at l)
    where
      go : (t : Bool) → test s ≡ t
          → (first (each_line test n (line + 1) l) ≡ refuse n at → FirstFails test (line + 1) l at)
          → FirstFails test line (s ∷ l) at
      go true own ih =
          let r = ih (sym (row-passes (test s) n line _ own) ∙ e) in
          record {
            step = suc r.step;
            inside = omega (arith, r.inside);
            fails = r.fails;
            above = above r.step r.above;
            at-line = omega (arith, r.at-line);
          }
        where
          above : (k : ℕ) → ((i : ℕ) → i < k → test (get_or l i blank) ≡ true) → (i : ℕ) → i < suc k
              → test (get_or (s ∷ l) i blank) ≡ true
          above k f zero h = own
          above k f (suc i) h = f i (omega (arith, h))
      go false own ih =
          let here = ap (λ (o : Outcome). o.second) (sym e ∙ row-refuses (test s) n line _ own some) in
          record {
            step = 0;
            inside = omega arith;
            fails = own;
            above = λ i h. absurd (omega (arith, h));
            at-line = omega (arith, here);
          }

  each-from : (line at k : ℕ) (l : List Step) → k < length l → test (get_or l k blank) ≡ false
      → ((i : ℕ) → i < k → test (get_or l i blank) ≡ true) → at ≡ line + k
      → first (each_line test n line l) ≡ refuse n at
  unfolding each_line
  each-from line at k [] h fails above is = absurd (omega (arith, h))
  each-from line at zero (s ∷ l) h fails above is =
      row-refuses (test s) n line _ fails some ∙ ap (λ (a : ℕ). refuse n a) (omega (arith, is))
  each-from line at (suc k) (s ∷ l) h fails above is =
      row-passes (test s) n line _ (above 0 (omega arith))
      ∙ each-from (line + 1) at k l (omega (arith, h)) fails (λ i g. above (suc i) (omega (arith, g)))
      (omega (arith, is))

-- the rows of readings answer 23 exactly at the first such step
unwritten-iff : (line : ℕ) (l : List Step) (at : ℕ)
    → (first (unwritten_rows line l) ≡ refuse 23 at) ↔ FirstUnwritten line l at
unfolding unwritten_rows
unwritten-iff line l at = (to, from)
  where
    to : first (each_line (reads_written l) 23 (line + 2) l) ≡ refuse 23 at → FirstUnwritten line l at
    to e =
        let r = each-to (reads_written l) 23 refl (line + 2) at l e in
        record {
          step = r.step;
          reads = (r.inside, (test-fails l (get_or l r.step blank)).0 r.fails);
          none_above = λ i h u.
              absurd (let z : false ≡ true = sym ((test-fails l (get_or l i blank)).1 u.1) ∙ r.above i h in cc);
          at-line = r.at-line;
        }

    from : FirstUnwritten line l at → first (each_line (reads_written l) 23 (line + 2) l) ≡ refuse 23 at
    from f =
        each-from (reads_written l) 23 refl (line + 2) at f.step l f.reads.0
        ((test-fails l (get_or l f.step blank)).1 f.reads.1) (λ i h. passes i h) f.at-line
      where
        passes : (i : ℕ) → i < f.step → reads_written l (get_or l i blank) ≡ true
        passes i h =
            split (λ (t : Bool). t ≡ true) (reads_written l (get_or l i blank)) (λ e. refl)
            (λ e. absurd (f.none_above i h (omega (arith, h, f.reads.0), (test-fails l (get_or l i blank)).0 e)))

-- ---- past rows that answer no 23

module _ (a b : List Outcome) (low : Below (first a).number) (at : ℕ) where
  past-rows : (first (a ++ b) ≡ refuse 23 at) ↔ (AllPass a × (first b ≡ refuse 23 at))
  past-rows = (to (eqb (first a).number 0) refl, λ h. rows_pass a b (eq-eqb _ 0 h.0) ∙ h.1)
    where
      to : (t : Bool) → eqb (first a).number 0 ≡ t → first (a ++ b) ≡ refuse 23 at
          → AllPass a × (first b ≡ refuse 23 at)
      to true p e = (eqb-true _ 0 p, sym (rows_pass a b p) ∙ e)
      to false p e = absurd (omega (arith, low, ap (λ (o : Outcome). o.number) (sym (rows-refuse a b p) ∙ e)))

-- two parts of rows pass together exactly where each does
pass-both : (a b : List Outcome) → AllPass a → AllPass b → AllPass (a ++ b)
pass-both a b p q = ap (λ (o : Outcome). o.number) (rows_pass a b (eq-eqb _ 0 p)) ∙ q

pass-parts : (a b : List Outcome) → AllPass (a ++ b) → AllPass a × AllPass b
pass-parts a b e = let (p, q) = rows-passed a b (eq-eqb _ 0 e) in (eqb-true _ 0 p, eqb-true _ 0 q)

-- ---- a route
module _ (line : ℕ) (places : Places) (l : List Step) (at : ℕ) where
  abbrev net : Outcome
  net = net_row line places l

  open-iff : (open_row line places l ≡ refuse 23 at) ↔ (AllPass (net ∷ []) × FirstUnwritten line l at)
  unfolding open_row
  open-iff =
      let rows = past-rows (net ∷ []) (unwritten_rows line l) net-low at in (
        λ e. let (p, q) = rows.0 e in (p, (unwritten-iff line l at).0 q),
        λ h. rows.1 (h.0, (unwritten-iff line l at).1 h.1),
      )
    where
      net-low : Below (first (net ∷ [])).number
      net-low = first-number Below net [] (net-below line (line + 1) places l) none-below

  open-alone : first (open_row line places l ∷ []) ≡ open_row line places l
  unfolding open_row
  open-alone = first_alone (net ∷ unwritten_rows line l)

-- ---- a job: its lines, then the old route, then the new

-- one row, then a second
two-rows : (a b : Outcome) (at : ℕ) → (first (a ∷ b ∷ []) ≡ refuse 23 at)
    ↔ ((a ≡ refuse 23 at) ⊎ (AllPass (a ∷ []) × (first (b ∷ []) ≡ refuse 23 at)))
two-rows a b at = (to (eqb a.number 0) refl, from)
  where
    to : (t : Bool) → eqb a.number 0 ≡ t → first (a ∷ b ∷ []) ≡ refuse 23 at
        → (a ≡ refuse 23 at) ⊎ (AllPass (a ∷ []) × (first (b ∷ []) ≡ refuse 23 at))
    to true p e = inr (
      ap (λ (o : Outcome). o.number) (head-passes a [] p ∙ rows_end),
      sym (head-passes a (b ∷ []) p) ∙ e,
    )
    to false p e = inl (sym (head-refuses a (b ∷ []) p) ∙ e)

    from : (a ≡ refuse 23 at) ⊎ (AllPass (a ∷ []) × (first (b ∷ []) ≡ refuse 23 at)) → first (a ∷ b ∷ []) ≡ refuse 23 at
    from (inl e) = head-refuses a (b ∷ []) (ap (λ (o : Outcome). eqb o.number 0) e) ∙ e
    from (inr (p, e)) = head-passes a (b ∷ []) (head_passed a [] (eq-eqb _ 0 p)).0 ∙ e

module _ (j : Job) (at : ℕ) where
  abbrev old : Outcome
  old = open_row 1 j.old_places j.old

  abbrev new : Outcome
  new = open_row (new_line j) j.new_places j.new

  abbrev old_net : Outcome
  old_net = net_row 1 j.old_places j.old

  abbrev new_net : Outcome
  new_net = net_row (new_line j) j.new_places j.new

  pub refused-iff : (checked j ≡ refuse 23 at) ↔ RefusedBy23 j at
  unfolding checked
  refused-iff = (to, from)
    where
      lines : (first (line_rows j ++ (old ∷ new ∷ [])) ≡ refuse 23 at)
          ↔ (AllPass (line_rows j) × (first (old ∷ new ∷ []) ≡ refuse 23 at))
      lines = past-rows (line_rows j) (old ∷ new ∷ []) (lines-below j) at

      to : first (line_rows j ++ (old ∷ new ∷ [])) ≡ refuse 23 at → RefusedBy23 j at
      to e = let (p, q) = lines.0 e in go p ((two-rows old new at).0 q)
        where
          go : AllPass (line_rows j) → (old ≡ refuse 23 at) ⊎ (AllPass (old ∷ []) × (first (new ∷ []) ≡ refuse 23 at))
              → RefusedBy23 j at
          go p (inl is) =
              let (net, reads) = (open-iff 1 j.old_places j.old at).0 is in
              inl (pass-both (line_rows j) (old_net ∷ []) p net, reads)
          go p (inr (passes, is)) =
              let (net, reads) = (open-iff (new_line j) j.new_places j.new at).0
              (sym (open-alone (new_line j) j.new_places j.new at) ∙ is) in
              inr (
                pass-both (line_rows j) (old ∷ new_net ∷ []) p (pass-both (old ∷ []) (new_net ∷ []) passes net),
                reads,
              )

      from : RefusedBy23 j at → first (line_rows j ++ (old ∷ new ∷ [])) ≡ refuse 23 at
      from (inl (rows, reads)) =
          let (p, net) = pass-parts (line_rows j) (old_net ∷ []) rows in
          lines.1 (p, (two-rows old new at).1 (inl ((open-iff 1 j.old_places j.old at).1 (net, reads))))
      from (inr (rows, reads)) =
          let (p, both-nets) = pass-parts (line_rows j) (old ∷ new_net ∷ []) rows in
          let (passes, net) = pass-parts (old ∷ []) (new_net ∷ []) both-nets in
          let is = (open-iff (new_line j) j.new_places j.new at).1 (net, reads) in
          lines.1 (
            p,
            (two-rows old new at).1 (inr (passes, open-alone (new_line j) j.new_places j.new at ∙ is)),
          )

-- ---- a route that is put on a shelf
module _ (s : Shelf) (n : ℕ) (r : Route) (at : ℕ) where
  abbrev steps : List Step
  steps = steps_of r

  abbrev lines : List Outcome
  lines = route_rows 1 r.places steps

  abbrev whole : Outcome
  whole = open_row 1 r.places steps

  pub put-refused-iff : (put_row s n r ≡ refuse 23 at) ↔ PutRefusedBy23 s n r at
  unfolding put_row alone_rows
  put-refused-iff = (to, from)
    where
      to : first (shelf_rows s n ++ (lines ++ (whole ∷ []))) ≡ refuse 23 at → PutRefusedBy23 s n r at
      to e =
          let (a, rest) = (past-rows (shelf_rows s n) (lines ++ (whole ∷ [])) (shelf-below s n) at).0 e in
          let (b, last) = (past-rows lines (whole ∷ []) (route-below 1 r.places steps) at).0 rest in
          let (net, reads) = (open-iff 1 r.places steps at).0 (sym (open-alone 1 r.places steps at) ∙ last) in (
            pass-both (shelf_rows s n) (lines ++ (net_row 1 r.places steps ∷ [])) a
                (pass-both lines (net_row 1 r.places steps ∷ []) b net),
            reads,
          )

      from : PutRefusedBy23 s n r at → first (shelf_rows s n ++ (lines ++ (whole ∷ []))) ≡ refuse 23 at
      from (rows, reads) =
          let (a, rest) = pass-parts (shelf_rows s n) (lines ++ (net_row 1 r.places steps ∷ [])) rows in
          let (b, net) = pass-parts lines (net_row 1 r.places steps ∷ []) rest in
          let is = (open-iff 1 r.places steps at).1 (net, reads) in
          (past-rows (shelf_rows s n) (lines ++ (whole ∷ [])) (shelf-below s n) at).1 (
            a,
            (past-rows lines (whole ∷ []) (route-below 1 r.places steps) at).1
                (b, open-alone 1 r.places steps at ∙ is),
          )
