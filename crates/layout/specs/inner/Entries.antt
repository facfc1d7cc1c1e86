-- A list's entries in turn, each put away by its word.
use Rattle.std.specs.Prelude.{List, [], ◌∷◌, ℕ}
use Rattle.layout.specs.Parse.{Line, with_num, stored}
use Rattle.layout.specs.declared.Word.{Word}

-- the line with these entries of a word's list
unfoldable pub with_entries : Word → List ℕ → Line → Line
with_entries w [] c = c
with_entries w (n ∷ l) c = with_entries w l (stored w (with_num n c))
