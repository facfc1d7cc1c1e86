-- A route by value of a list of steps: an array made by a call at each place, which gives the step there.
-- Assumes nothing.
use mathlib.Core.Path.{◌≡◌, sym, ap, ◌∙◌}
use mathlib.Core.List.{List}
use Prim.Native.Nat.{ℕ, zero, suc, ◌+◌, ◌<◌}
use native.Mathlib.Omega.{arith}
use denote.Param.Members.{Mut, Called}
use lib.ListN.{length, get_or}
use Rattle.std.specs.Array.{IsFromFnResult, IsFromFnResultFrom}
use Rattle.std.proofs.lemmas.List.{same_lists, get_or_default}
use Rattle.route.specs.Steps.{blank}
use Rattle.flat.specs.Flat.{steps_in}
use Rattle.route.specs.declared.Step.{Step}
use Rattle.flat.proofs.FlatSteps.{length-flat}

pub steps-room : (list : List ℕ) (i : ℕ) → length list ≡ 256 → i < 64 → i < length (steps_in list)
steps-room list i h r = omega (arith, length-flat list, h)

-- a call at i gives the step at i, and keeps what the next call needs
module _ {F : Type 0} (g : Mut F (ℕ × Unit {0}) Step) (Keeps : F → Type 0) (l : List Step)
    (gives : (f q : F) (i : ℕ) (s : Step) → Keeps f → Called g f (i, tt) s q → Keeps q × (s ≡ get_or l i blank)) where
  made_from : (f : F) (ys : List Step) (i n : ℕ) → Keeps f → IsFromFnResultFrom g f ys i n → (k : ℕ) → k < n
      → get_or ys (i + k) blank ≡ get_or l (i + k) blank
  made_from f ys i zero h c k less = absurd (omega (arith, less))
  made_from f ys i (suc n) h c zero less =
      let here : i + 0 ≡ i = omega arith in
      ap (λ (x : ℕ). get_or ys x blank) here ∙ c.2.1 blank ∙ (gives f c.0 i c.1 h c.3).1
      ∙ ap (λ (x : ℕ). get_or l x blank) (sym here)
  made_from f ys i (suc n) h c (suc k) less =
      let on : i + suc k ≡ (i + 1) + k = omega arith in
      ap (λ (x : ℕ). get_or ys x blank) on
      ∙ made_from c.0 ys (i + 1) n (gives f c.0 i c.1 h c.3).0 c.4 k (omega (arith, less))
      ∙ ap (λ (x : ℕ). get_or l x blank) (sym on)

  pub made : (f : F) (ys : List Step) (n : ℕ) → Keeps f → length l ≡ n → IsFromFnResult g f ys n → ys ≡ l
  made f ys n h long c =
      same_lists ys l (c.long ∙ sym long)
      (λ k d less. let here : k ≡ 0 + k = omega arith in
      get_or_default ys k d blank less
      ∙ ap (λ (x : ℕ). get_or ys x blank) here
      ∙ made_from f ys 0 n h c.each k (omega (arith, less, c.long))
      ∙ ap (λ (x : ℕ). get_or l x blank) (sym here)
      ∙ get_or_default l k blank d (omega (arith, less, c.long, long)))
