-- The names of a sheet's lines within a range.
use Rattle.std.specs.Prelude.{List, [], ◌∷◌, map, ℕ, ◌≤◌}
use Rattle.layout.specs.Text.{Form, Lines}

-- each is 1 to n
abbrev pub Within : ℕ → List ℕ → Type 0
Within n [] = Unit {0}
Within n (m ∷ l) = ((1 ≤ m) × (m ≤ n)) × Within n l

abbrev pub form_names : List Form → List ℕ
form_names l = map (λ (f : Form). f.name) l

-- those of the steps and those done
pub record NamesTo (n : ℕ) (x : Lines) : Type 0 where
  pub old : Within n (form_names x.old)
  pub new : Within n (form_names x.new)
  pub done : Within n x.done
