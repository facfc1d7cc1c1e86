-- Lists that are gathered with the latest first, and their texts.
-- Assumes nothing.
use mathlib.Core.Path.{◌≡◌, refl}
use mathlib.Core.List.{List, [], ◌∷◌, reverse_aux}
use Prim.Native.Nat.{ℕ}
use Rattle.version.specs.declared.Version.{Version}
use Rattle.layout.specs.Text.{Form, number, entries, step_line, word_line, step_lines, done_lines, Shorts, ShortForms}
use Rattle.layout.specs.declared.Word.TheVariants.{Done}

unfoldable pub entries_back : List ℕ → List ℕ → List ℕ
entries_back [] s = s
entries_back (n ∷ l) s = entries_back l (32 ∷ number n s)

unfoldable pub steps_back : List Form → List ℕ → List ℕ
steps_back [] s = s
steps_back (f ∷ l) s = steps_back l (step_line f s)

unfoldable pub dones_back : List ℕ → List ℕ → List ℕ
dones_back [] s = s
dones_back (n ∷ l) s = dones_back l (word_line Done n s)

pub entries-back : (l r s : List ℕ) → entries (reverse_aux l r) s ≡ entries_back l (entries r s)
unfolding entries_back entries
entries-back [] r s = refl
entries-back (n ∷ l) r s = entries-back l (n ∷ r) s

pub steps_back_lem : (l r : List Form) (s : List ℕ) → step_lines (reverse_aux l r) s ≡ steps_back l (step_lines r s)
unfolding steps_back step_lines
steps_back_lem [] r s = refl
steps_back_lem (f ∷ l) r s = steps_back_lem l (f ∷ r) s

pub dones-back : (l r s : List ℕ) → done_lines (reverse_aux l r) s ≡ dones_back l (done_lines r s)
unfolding dones_back done_lines
dones-back [] r s = refl
dones-back (n ∷ l) r s = dones-back l (n ∷ r) s

pub shorts-back : (v : Version) (l r : List ℕ) → Shorts v l → Shorts v r → Shorts v (reverse_aux l r)
shorts-back v [] r h k = k
shorts-back v (n ∷ l) r h k = shorts-back v l (n ∷ r) h.1 (h.0, k)

pub forms-back : (v : Version) (l r : List Form) → ShortForms v l → ShortForms v r → ShortForms v (reverse_aux l r)
forms-back v [] r h k = k
forms-back v (f ∷ l) r h k = forms-back v l (f ∷ r) h.1 (h.0, k)
