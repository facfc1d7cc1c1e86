-- What a converter writes lies in the out slice.
use mathlib.Core.Path.{◌≡◌, refl, sym, subst}
use mathlib.Core.Bool.{Bool, true, false, cond}
use mathlib.Core.List.{List}
use Prim.Native.Nat.{ℕ, ◌≤◌}
use native.Mathlib.Omega.{arith}
use lib.Dec.{eqb, leb}
use lib.ListN.{length}
use borrow.Author.Tests.{leb-true}
use Rattle.refusal.specs.declared.Outcome.{Outcome}
use Rattle.out_slice.specs.declared.Wrote.{Wrote}
use Rattle.out_slice.specs.OutSlice.{unwritten, whole, wrote_text, wrote_past}
use Rattle.converting.specs.Up.{raised, up_row, up_text}
use Rattle.converting.specs.Down.{lowered, down_row, down_text}
use Rattle.converting.specs.Either.{has_start_line, converted}

past-fits : (o : Outcome) (t : List ℕ) (room : ℕ) → (wrote_past o t room).written ≤ room
unfolding wrote_past wrote_text
past-fits o t room = go (eqb o.number 0) (leb (length t) room) refl
  where
    go : (p u : Bool) → leb (length t) room ≡ u
        → (cond p (cond u (whole (length t)) (unwritten 15 (length t))) (unwritten o.number o.second)).written ≤ room
    go true true e = leb-true (length t) room e
    go true false e = omega arith
    go false u e = omega arith

pub converted-fits : (a : Wrote) (s : List ℕ) (room : ℕ) → a ≡ converted s room → a.written ≤ room
unfolding converted
converted-fits a s room is = subst (λ (w : Wrote). w.written ≤ room) (sym is) (go (has_start_line s))
  where
    go : (t : Bool) → (cond t (lowered s room) (raised s room)).written ≤ room
    go true = past-fits (down_row s) (down_text s) room
    go false = past-fits (up_row s) (up_text s) room
