-- A list of steps as a list of numbers, four for each step: its name, in the lower 32 bits, with the cloth mark above
-- them; its in-places; its out-places; and its variables, those it reads in the lower 32 bits and those it writes in
-- the upper 32.
use Rattle.std.specs.Prelude.{◌≡◌, Bool, cond, List, [], ◌∷◌, ℕ, ◌+◌, ◌*◌, ◌/◌, ◌%◌, ◌≤◌, leb, length, take}
use Rattle.route.specs.declared.Step.{Step}
use Rattle.flat.specs.declared.Iter.{Iter}

-- the step of four numbers
abbrev pub step_from : ℕ → ℕ → ℕ → ℕ → Step
step_from n i o v =
    record {
      name = n % 4294967296;
      cloth = leb 4294967296 n;
      ins = i;
      outs = o;
      reads = v % 4294967296;
      writes = v / 4294967296 % 4294967296;
    }

-- a step's first number
abbrev pub first_number : ℕ → Bool → ℕ
first_number n cloth = cond cloth (n + 4294967296) n

-- the steps that the numbers stand for
unfoldable pub steps_in : List ℕ → List Step
steps_in [] = []
steps_in (n ∷ []) = []
steps_in (n ∷ i ∷ []) = []
steps_in (n ∷ i ∷ o ∷ []) = []
steps_in (n ∷ i ∷ o ∷ v ∷ w) = step_from n i o v ∷ steps_in w

-- the steps that an iterator has still to give
abbrev pub steps_left : Iter → List Step
steps_left i = steps_in i.0.now

-- the numbers begin with those of the steps l
pub record Holds (l : List Step) (w : List ℕ) : Type 0 where
  pub steps-are : steps_in (take (4 * length l) w) ≡ l

-- the first n numbers are those of the first 65 of the steps l
pub record Laid (l : List Step) (n : ℕ) (w : List ℕ) : Type 0 where
  pub within : n ≤ 260
  pub steps-are : steps_in (take n w) ≡ take 65 l
