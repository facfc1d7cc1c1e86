-- What an iterator over a mask's members gives.
use Rattle.std.specs.Prelude.{◌≡◌, ℕ, ◌≤◌, ◌<◌, true, not, ◌&&◌, ◌∷◌, eqb}
use Rattle.mask.specs.Mask.{has, members}

-- v is taken from m, a mask of w bits, and m' is what is left: v is the lowest member, and no other goes
pub record Takes (w m v m' : ℕ) : Type 0 where
  pub first : members w m ≡ v ∷ members w m'
  pub held : has m v ≡ true
  pub low : v < w
  pub least : (u : ℕ) → has m u ≡ true → v ≤ u
  pub rest : (u : ℕ) → has m' u ≡ (has m u && not (eqb u v))
  pub less : m' < m
