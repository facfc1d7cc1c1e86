-- What an emitter does with a text, a slice and a place in it.
use Rattle.std.specs.Prelude.{◌≡◌, List, ℕ, ◌+◌, ◌≤◌, length}
use Rattle.std.proofs.lemmas.List.Edits.{sets}

-- from the place on the slice has room for the text
pub record Room (text out : List ℕ) (at : ℕ) : Type 0 where
  pub fits : at + length text ≤ length out

-- the bytes of the text are stored one after another from the place on, and the place after them comes back
pub record Emits (text out : List ℕ) (at : ℕ) (after : List ℕ) (end : ℕ) : Type 0 where
  pub bytes : after ≡ sets out at text
  pub place : end ≡ at + length text
