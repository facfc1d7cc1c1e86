-- The lines of records: each mask's entries rise, those of the start too, and a step has its mark.
use Rattle.std.specs.Prelude.{List, [], ◌∷◌, map, ◌<◌, ◌^◌}
use Rattle.std.specs.Int.Bits.{bit_and}
use Rattle.mask.specs.Mask.{below, members}
use Rattle.route.specs.declared.Step.{Step}
use Rattle.job.specs.Job.{Job}
use Rattle.layout.specs.Text.{Form, Lines}

unfoldable pub form_of : Step → Form
form_of s = record {
  name = s.name;
  ins = members 64 s.ins;
  outs = members 64 s.outs;
  reads = members 32 s.reads;
  writes = members 32 s.writes;
  cloth = s.cloth;
}

unfoldable pub lines_of : Job → Lines
lines_of j = record {
  old_places = j.old_places.count;
  old_start = members 64 j.old_places.start;
  old = map form_of j.old;
  new_places = j.new_places.count;
  new_start = members 64 j.new_places.start;
  new = map form_of j.new;
  done = j.done;
}

-- a record's masks have their width
pub record Wide (s : Step) : Type 0 where
  pub ins : s.ins < 2 ^ 64
  pub outs : s.outs < 2 ^ 64
  pub reads : s.reads < 2 ^ 32
  pub writes : s.writes < 2 ^ 32

abbrev pub AllWide : List Step → Type 0
AllWide [] = Unit {0}
AllWide (s ∷ l) = Wide s × AllWide l

-- the masks of a job's records have their widths
pub record WideJob (j : Job) : Type 0 where
  pub old_start : j.old_places.start < 2 ^ 64
  pub old : AllWide j.old
  pub new_start : j.new_places.start < 2 ^ 64
  pub new : AllWide j.new

-- A step as a record holds it: its variables are those below 32. In the code a mask of variables has 32 bits, and
-- `as_record` changes no such step; here a mask may be any number, and the rows ask nothing of a bit past 32. (Row 2
-- bounds the places by itself, those of the start too.)
unfoldable pub as_record : Step → Step
as_record s = record {
  name = s.name;
  cloth = s.cloth;
  ins = s.ins;
  outs = s.outs;
  reads = bit_and s.reads (below 32);
  writes = bit_and s.writes (below 32);
}

unfoldable pub as_records : Job → Job
as_records j = record {
  old_places = j.old_places;
  old = map as_record j.old;
  new_places = j.new_places;
  new = map as_record j.new;
  done = j.done;
}
