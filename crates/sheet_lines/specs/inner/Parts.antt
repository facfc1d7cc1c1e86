-- The parts of a text that an emitter writes at once.
use Rattle.std.specs.Prelude.{List, [], ◌∷◌, map, ℕ}
use Rattle.mask.specs.Mask.{members}
use Rattle.version.specs.declared.Version.{Version}
use Rattle.route.specs.declared.Places.{Places}
use Rattle.route.specs.declared.Step.{Step}
use Rattle.layout.specs.Words.{spelling}
use Rattle.layout.specs.Text.{Form, listed, word_line, start_line, step_lines}
use Rattle.layout.specs.declared.Word.{Word}
use Rattle.layout.specs.declared.Word.TheVariants.{In, Out, Read, Write}
use Rattle.facts.specs.LinesOf.{form_of}

abbrev pub opening : Word → List ℕ
opening w = 40 ∷ spelling w

abbrev pub closing : List ℕ
closing = 41 ∷ 10 ∷ []

-- in front of what follows, as the texts of a sheet are
abbrev pub lists : Form → List ℕ → List ℕ
lists f s = listed In f.ins (listed Out f.outs (listed Read f.reads (listed Write f.writes s)))

-- by a version: a head, its start line, its steps
abbrev pub route_text : Version → Word → Places → List Step → List ℕ → List ℕ
route_text v w places l s =
    word_line w places.count (start_line v (members 64 places.start) (step_lines (map form_of l) s))
