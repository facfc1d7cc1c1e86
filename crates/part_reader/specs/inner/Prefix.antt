-- The lines so far: where reading stands between two lines, and what the lines before gave.
use Rattle.std.specs.Prelude.{◌≡◌, true, List, [], ◌∷◌, ℕ, ◌+◌, ◌≤◌, length, get_or, replicate, Result, Ok, Err}
use Rattle.refusal.specs.Refusal.{outcome_of}
use Rattle.refusal.specs.declared.Outcome.{Outcome}
use Rattle.refusal.specs.declared.Refusal.{Refusal}
use Rattle.route.specs.Steps.{blank, no_places}
use Rattle.route.specs.declared.Step.{Step}
use Rattle.route.specs.declared.Places.{Places}
use Rattle.route.specs.declared.Route.{Route}
use Rattle.version.specs.declared.Version.{Version}
use Rattle.layout.specs.Text.{Form, Lines}
use Rattle.layout.specs.Points.{past_head}
use Rattle.layout.specs.Parse.{no_line, put_start}
use Rattle.layout.specs.declared.Part.{Part}
use Rattle.layout.specs.declared.Part.TheVariants.{OldRoute, NewRoute, JobPart}
use Rattle.layout.specs.declared.Point.TheVariants.{Open}
use Rattle.facts.specs.Facts.{State, failed, settled, with_old, with_new, old_head, new_head, job_head, done_in}
use Rattle.facts.specs.Facts.{step_in}
use Rattle.facts.specs.Facts.{more, more_start, nothing}
use Rattle.facts.specs.declared.Sheet.{Sheet}
use Rattle.tokens.specs.inner.Tokens.{Reading, Breaks}
use Rattle.tokens.specs.declared.Broken.{Broken}
use Rattle.line_reader.specs.inner.Lines.{has_steps}
use Rattle.part_reader.specs.declared.Pass.{Pass}
use Rattle.part_reader.specs.declared.Head.{Head}
use Rattle.part_reader.specs.declared.Filled.{Filled}

-- ---- what the lines gave, the latest first in each list

unfoldable pub back_steps : Version → Part → List Form → State → State
back_steps v p [] k = k
back_steps v p (f ∷ l) k = more (λ n s. step_in v p n f s) (back_steps v p l k)

unfoldable pub back_dones : Version → List ℕ → State → State
back_dones v [] k = k
back_dones v (n ∷ l) k = more (λ i s. done_in v i n s) (back_dones v l k)

-- after the lines of a part
unfoldable pub old_state : Version → Lines → State
old_state v t = back_steps v OldRoute t.old (more_start v OldRoute t.old_start
    (more (λ i s. old_head i t.old_places s) nothing))

unfoldable pub new_state : Version → Lines → State
new_state v t = back_steps v NewRoute t.new (more_start v NewRoute t.new_start
    (more (λ i s. new_head i t.new_places s) (old_state v t)))

unfoldable pub job_state : Version → Lines → State
job_state v t = back_dones v t.done (more job_head (new_state v t))

unfoldable pub state_of : Version → Part → Lines → State
state_of v OldRoute t = old_state v t
state_of v NewRoute t = new_state v t
state_of v JobPart t = job_state v t

-- ---- where reading stands

-- the first row that refuses a line, if any does
abbrev pub Rows : Type 0
Rows = Result (Unit {0}) Refusal

-- at the start of a line of the part q, after lines that gave k
pub record Prefix (v : Version) (s : List ℕ) (i : ℕ) (q : Part) (k : State) : Type 0 where
  pub lines : Lines
  pub reading : Reading v s i (Open q) no_line lines
  pub state : state_of v q lines ≡ k

-- past a head's line, after lines that gave k: its start line follows, or none where the version has none
pub record Headed (v : Version) (s : List ℕ) (i : ℕ) (q : Part) (k : State) : Type 0 where
  pub lines : Lines
  pub reading : Reading v s i (past_head v q) no_line lines
  pub starts : (l : List ℕ) → state_of v q (put_start q l lines) ≡ more_start v q l k
  pub none : state_of v q lines ≡ more_start v q [] k

-- that many lines, their outcome, and their facts where none is refused
abbrev pub passed : ℕ → Outcome → Sheet → State
passed n o z = record { lines = n; sheet = settled o z }

-- there are no more lines than bytes
pub record Placed (s : List ℕ) (p : Pass) : Type 0 where
  pub within : p.at ≤ length s
  pub few : p.lines ≤ p.at

-- ---- the heads

-- no step begins there
abbrev pub NoStep : List ℕ → ℕ → Type 0
NoStep s i = get_or s (i + 1) 0 ≡ 115 → ⊥

unfoldable pub with_route : Part → Route → Sheet → Sheet
with_route OldRoute r z = with_old r z
with_route NewRoute r z = with_new r z
with_route JobPart r z = z

-- a route of which only the places are known
abbrev pub bare : Places → Route
bare n = record { places = n; len = 0; steps = replicate 64 blank }

-- what a head's line tells of the places
abbrev pub unstarted : ℕ → Places
unstarted n = record { count = n; start = 0 }

-- the start line, where the version has one: the mask is that of its places where no row refuses
pub record StartLineTo (v : Version) (s : List ℕ) (p : Pass) (count : ℕ) (r : Head) : Type 0 where
  pub placed : Placed s r.pass
  pub fits : (outcome_of r.pass.rows).number ≡ 0 → r.places.count ≤ 64
  pub goes : (q : Part) (z : Sheet) → has_steps q ≡ true → z.number ≡ 0
      → Headed v s p.at q (passed p.lines (outcome_of p.rows) (with_route q (bare (unstarted count)) z))
      → Prefix v s r.pass.at q (passed r.pass.lines (outcome_of r.pass.rows) (with_route q (bare r.places) z))

-- it breaks, whatever the lines gave
pub record StartLineBreaks (v : Version) (s : List ℕ) (p : Pass) (at : ℕ) : Type 0 where
  pub within : at ≤ length s
  pub goes : (q : Part) (k : State) → Headed v s p.at q k → Breaks v s at

abbrev pub StartLineOn : Version → List ℕ → Pass → ℕ → Result Head Broken → Type 0
StartLineOn v s p count (Ok r) = StartLineTo v s p count r
StartLineOn v s p count (Err e) = StartLineBreaks v s p e.at

pub record OldTo (v : Version) (s : List ℕ) (r : Head) : Type 0 where
  pub placed : Placed s r.pass
  pub fits : (outcome_of r.pass.rows).number ≡ 0 → r.places.count ≤ 64
  pub goes : Prefix v s r.pass.at OldRoute
      (passed r.pass.lines (outcome_of r.pass.rows) (with_old (bare r.places) (failed 0 0)))

abbrev pub OldOn : Version → List ℕ → Result Head Broken → Type 0
OldOn v s (Ok r) = OldTo v s r
OldOn v s (Err e) = Breaks v s e.at

-- the new route's head without its start line
pub record NewLineTo (v : Version) (s : List ℕ) (p : Pass) (above : ℕ) (r : Head) : Type 0 where
  pub placed : Placed s r.pass
  pub fits : (outcome_of r.pass.rows).number ≡ 0 → r.places.count ≤ 64
  pub goes : (z : Sheet) → z.number ≡ 0 → z.old.len ≡ above → NoStep s p.at
      → Prefix v s p.at OldRoute (passed p.lines (outcome_of p.rows) (with_new (bare no_places) z))
      → Headed v s r.pass.at NewRoute
      (passed r.pass.lines (outcome_of r.pass.rows) (with_new (bare (unstarted r.places.count)) z))

-- and with it
pub record NewTo (v : Version) (s : List ℕ) (p : Pass) (above : ℕ) (r : Head) : Type 0 where
  pub placed : Placed s r.pass
  pub fits : (outcome_of r.pass.rows).number ≡ 0 → r.places.count ≤ 64
  pub goes : (z : Sheet) → z.number ≡ 0 → z.old.len ≡ above → NoStep s p.at
      → Prefix v s p.at OldRoute (passed p.lines (outcome_of p.rows) (with_new (bare no_places) z))
      → Prefix v s r.pass.at NewRoute
      (passed r.pass.lines (outcome_of r.pass.rows) (with_new (bare r.places) z))

pub record NewBreaks (v : Version) (s : List ℕ) (p : Pass) (above at : ℕ) : Type 0 where
  pub within : at ≤ length s
  pub goes : (z : Sheet) → z.number ≡ 0 → z.old.len ≡ above → NoStep s p.at
      → Prefix v s p.at OldRoute (passed p.lines (outcome_of p.rows) (with_new (bare no_places) z)) → Breaks v s at

-- below the steps of the part q a head's line breaks, whatever the lines gave
pub record HeadBreaks (v : Version) (s : List ℕ) (p : Pass) (q : Part) (at : ℕ) : Type 0 where
  pub within : at ≤ length s
  pub goes : (k : State) → NoStep s p.at → Prefix v s p.at q k → Breaks v s at

abbrev pub NewLineOn : Version → List ℕ → Pass → ℕ → Result Head Broken → Type 0
NewLineOn v s p above (Ok r) = NewLineTo v s p above r
NewLineOn v s p above (Err e) = HeadBreaks v s p OldRoute e.at

abbrev pub NewOn : Version → List ℕ → Pass → ℕ → Result Head Broken → Type 0
NewOn v s p above (Ok r) = NewTo v s p above r
NewOn v s p above (Err e) = NewBreaks v s p above e.at

pub record JobTo (s : List ℕ) (p : Pass) (above : ℕ) (r : Pass) : Type 0 where
  pub placed : Placed s r
  pub goes : (v : Version) (z : Sheet) → z.number ≡ 0 → z.new.len ≡ above → NoStep s p.at
      → Prefix v s p.at NewRoute (passed p.lines (outcome_of p.rows) z)
      → Prefix v s r.at JobPart (passed r.lines (outcome_of r.rows) z)

abbrev pub JobOn : List ℕ → Pass → ℕ → Result Pass Broken → Type 0
JobOn s p above (Ok r) = JobTo s p above r
JobOn s p above (Err e) = (v : Version) → HeadBreaks v s p NewRoute e.at

-- ---- steps and done names

pub record StepsTo (v : Version) (s : List ℕ) (p : Pass) (places : Places) (r : Filled) (list : List Step) : Type 0
  where
    pub placed : Placed s r.pass
    pub few : r.len ≤ 64
    pub over : NoStep s r.pass.at
    pub goes : (q : Part) (z : Sheet) → has_steps q ≡ true → z.number ≡ 0
        → Prefix v s p.at q (passed p.lines (outcome_of p.rows) (with_route q (bare places) z))
        → Prefix v s r.pass.at q (passed r.pass.lines (outcome_of r.pass.rows)
        (with_route q (record { places = places; len = r.len; steps = list }) z))

pub record StepsBreak (v : Version) (s : List ℕ) (p : Pass) (places : Places) (at : ℕ) : Type 0 where
  pub within : at ≤ length s
  pub goes : (q : Part) (z : Sheet) → has_steps q ≡ true → z.number ≡ 0
      → Prefix v s p.at q (passed p.lines (outcome_of p.rows) (with_route q (bare places) z)) → Breaks v s at

abbrev pub StepsOn : Version → List ℕ → Pass → Places → Result Filled Broken → List Step → Type 0
StepsOn v s p places (Ok r) list = StepsTo v s p places r list
StepsOn v s p places (Err e) list = StepsBreak v s p places e.at

abbrev pub with_dones : ℕ → List ℕ → Sheet → Sheet
with_dones n l z = record {
  number = z.number;
  second = z.second;
  old = z.old;
  new = z.new;
  done_len = n;
  done = l;
}

pub record DonesTo (v : Version) (s : List ℕ) (p : Pass) (r : Filled) (before after : List ℕ) : Type 0 where
  pub within : r.pass.at ≤ length s
  pub few : r.len ≤ 64
  pub all : length s ≤ r.pass.at
  pub goes : (z : Sheet) → z.number ≡ 0 → Prefix v s p.at JobPart (passed p.lines (outcome_of p.rows)
      (with_dones 0 before z))
      → Prefix v s r.pass.at JobPart (passed r.pass.lines (outcome_of r.pass.rows) (with_dones r.len after z))

pub record DonesBreak (v : Version) (s : List ℕ) (p : Pass) (before : List ℕ) (at : ℕ) : Type 0 where
  pub within : at ≤ length s
  pub goes : (z : Sheet) → z.number ≡ 0 → Prefix v s p.at JobPart (passed p.lines (outcome_of p.rows)
      (with_dones 0 before z))
      → Breaks v s at

abbrev pub DonesOn : Version → List ℕ → Pass → Result Filled Broken → List ℕ → List ℕ → Type 0
DonesOn v s p (Ok r) before after = DonesTo v s p r before after
DonesOn v s p (Err e) before after = DonesBreak v s p before e.at
