-- The lists of a sheet before it is read.
use Rattle.std.specs.Prelude.{replicate}
use Rattle.reader.specs.declared.lists.Lists.{Lists}

-- 0 throughout
abbrev pub no_lists : Lists
no_lists = record { old_steps = replicate 256 0; new_steps = replicate 256 0; done = replicate 64 0 }
