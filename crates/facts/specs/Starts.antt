-- The start lines of a sheet's lines: where there may be none, nothing is said of a start; and lines and facts with
-- other starts.
use Rattle.std.specs.Prelude.{◌≡◌, Bool, true, false, List, [], ℕ}
use Rattle.layout.specs.Text.{Lines}
use Rattle.facts.specs.Forms.{all_below, rising}
use Rattle.facts.specs.Facts.{started, with_old, with_new}
use Rattle.facts.specs.declared.Sheet.{Sheet}

-- where a version has no start lines, both starts are empty
pub record StartsTo (may : Bool) (x : Lines) : Type 0 where
  pub old : may ≡ false → x.old_start ≡ []
  pub new : may ≡ false → x.new_start ≡ []

-- a start line whose rows pass: "rising places", each below the count
pub record RisingBelow (count : ℕ) (l : List ℕ) : Type 0 where
  pub low : all_below count l ≡ true
  pub rises : rising 0 l ≡ true

-- the lines, and the facts, with these starts
abbrev pub started_lines : List ℕ → List ℕ → Lines → Lines
started_lines a b x = record {
  old_places = x.old_places;
  old_start = a;
  old = x.old;
  new_places = x.new_places;
  new_start = b;
  new = x.new;
  done = x.done;
}

abbrev pub started_both : List ℕ → List ℕ → Sheet → Sheet
started_both a b z = with_new (started b z.new) (with_old (started a z.old) z)
