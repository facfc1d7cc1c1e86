-- The marks of a sheet's lines: where steps may not be marked, none is.
use Rattle.std.specs.Prelude.{◌≡◌, Bool, true, List, [], ◌∷◌}
use Rattle.layout.specs.Text.{Form, Lines}

abbrev pub Marks : Bool → List Form → Type 0
Marks may [] = Unit {0}
Marks may (f ∷ l) = (f.cloth ≡ true → may ≡ true) × Marks may l

-- those of both routes
pub record MarksTo (may : Bool) (x : Lines) : Type 0 where
  pub old : Marks may x.old
  pub new : Marks may x.new
