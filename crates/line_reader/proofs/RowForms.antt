-- The four rows of a step's line in turn, on what is kept of it.
-- Assumes nothing.
use mathlib.Core.Path.{◌≡◌, refl, sym, ap, ◌∙◌}
use mathlib.Core.Bool.{Bool, true, false, not}
use mathlib.Core.List.{List, [], ◌∷◌}
use Prim.Native.Nat.{ℕ, ◌^◌, ◌%◌, ◌≤◌, ◌<◌}
use native.Mathlib.Omega.{arith}
use lib.Dec.{ltb}
use borrow.Author.Tests.{lt-ltb, le-ltb, not-true, not-false}
use Rattle.refusal.specs.Rows.{pass, refuse, unless, first}
use Rattle.refusal.specs.declared.Outcome.{Outcome}
use Rattle.refusal.proofs.Rows.{row-passes, row-refuses, rows_end}
use Rattle.name_set.specs.Among.{among}
use Rattle.version.specs.Limits.{name_fits, Limits}
use Rattle.version.specs.declared.Version.{Version}
use Rattle.version.proofs.Limits.{name-stored}
use Rattle.mask.proofs.Truth.{both}
use Rattle.layout.specs.Text.{Form}
use Rattle.facts.specs.Forms.{form_fits, form_lists, form_row}
use Rattle.line_reader.specs.inner.Lines.{IsForm, line_fits, line_lists}
use Rattle.line_reader.specs.declared.StepLine.{StepLine}
use Rattle.line_reader.proofs.LineForm.{fits-form, lists-form}

module _ (v : Version) (limits : Limits v) (line places above : ℕ) (earlier : List ℕ) (l : StepLine)
    (k : ℕ) (many : k ≡ above) where
  pub row-four : (f : Form) → 64 ≤ k → refuse 4 line ≡ form_row v line places above earlier f
  unfolding form_row
  row-four f h = sym (row-refuses _ 4 line _ (le-ltb above 64 (omega (arith, h, many))) refl)

  module _ (room : k < 64) (x : Bool) (fits : x ≡ line_fits v places l) where
    four-on : (r : List Outcome) → first (unless (ltb above 64) 4 line ∷ r) ≡ first r
    four-on r = row-passes _ 4 line _ (lt-ltb above 64 (omega (arith, room, many)))

    pub row-two : (f : Form) → IsForm l f → not x ≡ true → refuse 2 line ≡ form_row v line places above earlier f
    unfolding form_row
    row-two f is t = sym (row-refuses (form_fits v places f) 2 line _
        (sym (fits-form l f is v places) ∙ sym fits ∙ not-true x t) refl) ∙ sym (four-on _)

    module _ (fit : not x ≡ false) (y : Bool) (lists : y ≡ line_lists l) where
      two-on : (f : Form) → IsForm l f → (r : List Outcome)
          → first (unless (ltb above 64) 4 line ∷ unless (form_fits v places f) 2 line ∷ r) ≡ first r
      two-on f is r = four-on _ ∙ row-passes (form_fits v places f) 2 line r
          (sym (fits-form l f is v places) ∙ sym fits ∙ not-false x fit)

      pub row-three : (f : Form) → IsForm l f → not y ≡ true → refuse 3 line ≡ form_row v line places above earlier f
      unfolding form_row
      row-three f is t = sym (row-refuses (form_lists f) 3 line _
          (sym (lists-form l f is) ∙ sym lists ∙ not-true y t) refl) ∙ sym (two-on f is _)

      module _ (fine : not y ≡ false) (known : Bool) (name : ℕ) (name-is : name ≡ l.name % 4294967296)
          (known-is : known ≡ among name earlier) where
        three-on : (f : Form) → IsForm l f → (r : List Outcome)
            → first (unless (ltb above 64) 4 line ∷ unless (form_fits v places f) 2 line ∷ unless (form_lists f) 3 line
            ∷ r) ≡ first r
        three-on f is r = two-on f is _ ∙ row-passes (form_lists f) 3 line r
            (sym (lists-form l f is) ∙ sym lists ∙ not-false y fine)

        stored : l.name < 2 ^ 32
        unfolding line_fits
        stored = name-stored v limits l.name (both (name_fits v l.name) _ (sym fits ∙ not-false x fit)).0

        known-form : (f : Form) → IsForm l f → known ≡ among f.name earlier
        known-form f is = let same : name ≡ f.name =
            omega (arith, stored, is.name, name-is) in known-is ∙ ap (λ (n : ℕ). among n earlier) same

        pub row-five : (f : Form) → IsForm l f → known ≡ true → refuse 5 line ≡ form_row v line places above earlier f
        unfolding form_row
        row-five f is e = sym (row-refuses (not (among f.name earlier)) 5 line []
            (ap not (sym (known-form f is) ∙ e)) refl) ∙ sym (three-on f is _)

        pub row-none : (f : Form) → IsForm l f → known ≡ false → pass ≡ form_row v line places above earlier f
        unfolding form_row
        row-none f is e = sym rows_end ∙ sym
            (row-passes (not (among f.name earlier)) 5 line [] (ap not (sym (known-form f is) ∙ e)))
            ∙ sym (three-on f is _)
