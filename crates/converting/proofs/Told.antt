-- What the code finds of the second line. Assumes nothing.
use mathlib.Core.Path.{◌≡◌, ap, ◌∙◌}
use mathlib.Core.Bool.{Bool}
use mathlib.Core.List.{List, ◌∷◌}
use Prim.Native.Nat.{ℕ, ◌-◌, ◌≤◌}
use native.Mathlib.Omega.{arith}
use Rattle.std.specs.List.{starts_with}
use lib.Dec.{eqb}
use lib.ListN.{length, take, drop, length-drop}
use lib.Seq.{take_all}
use Rattle.facts.specs.JobPart.{PastLines}
use Rattle.layout.specs.Words.{spelling}
use Rattle.layout.specs.declared.Word.TheVariants.{Start}
use Rattle.converting.specs.Either.{has_start_line}

-- the code looks from past the first line on
pub tells : (s : List ℕ) (k : ℕ) → PastLines 1 s k → (b : Bool)
    → b ≡ starts_with eqb (take (length s - k) (drop k s)) (40 ∷ spelling Start) → b ≡ has_start_line s
unfolding has_start_line
tells s k past b is =
    let long : length (drop k s) ≤ length s - k = omega (arith, length-drop k s) in
    is ∙ ap (λ (l : List ℕ). starts_with eqb l (40 ∷ spelling Start))
    (take_all (length s - k) (drop k s) long ∙ past.rest)
