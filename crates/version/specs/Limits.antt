-- The limits of a version: 01's values, the present ones, and what every version keeps to.
use Rattle.std.specs.Prelude.{◌≡◌, Bool, true, false, ◌&&◌, ℕ, ◌^◌, ◌≤◌, ◌<◌, leb}
use Rattle.version.specs.declared.Version.{Version}

-- "A number has one to five digits", "a name (1 to 65,535)"; a start that "is only implied"
abbrev pub scope : Version
scope = record { digits = 5; greatest = 65535; cloth = false; starts = false }

-- 02: "A name may be 1 to 4,294,967,295 and every number up to ten digits long.", "A step form may end with ` (cloth)`
-- inside its bracket.", "A line `(start ..)` [..] follows each head"
abbrev pub present : Version
present = record { digits = 10; greatest = 4294967295; cloth = true; starts = true }

-- a name is 1 to the greatest
unfoldable pub name_fits : Version → ℕ → Bool
name_fits v n = leb 1 n && leb n v.greatest

-- Every place count and entry that passes row 2 can be written, and every name; a number that was read fits 64 bits, a
-- name 32.
pub record Limits (v : Version) : Type 0 where
  pub two : 2 ≤ v.digits
  pub ten : v.digits ≤ 10
  pub written : v.greatest < 10 ^ v.digits
  pub stored : v.greatest < 2 ^ 32

-- the version w allows every name and every mark that v allows, and has start lines exactly where v has them
pub record Wider (v w : Version) : Type 0 where
  pub names : v.greatest ≤ w.greatest
  pub marks : v.cloth ≡ true → w.cloth ≡ true
  pub starts : v.starts ≡ w.starts
