-- Each text of a sheet stands in front of what follows; its numbers are those that an emitter writes.
-- Assumes nothing.
use mathlib.Core.Path.{◌≡◌, refl, sym, ap, ◌∙◌}
use mathlib.Core.Bool.{Bool, true, false, cond}
use mathlib.Core.List.{List, [], ◌∷◌, ◌++◌, append_assoc, append-nil, map}
use Prim.Native.Nat.{ℕ, zero, suc, ◌+◌, ◌/◌, ◌%◌}
use lib.Dec.{ltb}
use Rattle.mask.specs.Mask.{members}
use Rattle.mask.proofs.Truth.{split}
use Rattle.emit.specs.Numbers.{decimal, entry, over}
use Rattle.emit.specs.Numbers as N
use Rattle.version.specs.declared.Version.{Version}
use Rattle.route.specs.declared.Places.{Places}
use Rattle.route.specs.declared.Step.{Step}
use Rattle.layout.specs.Words.{spelling}
use Rattle.layout.specs.Text.{Form, digits, number, entries, listed, marked}
use Rattle.layout.specs.Text.{step_line, word_line, start_line, step_lines}
use Rattle.layout.specs.declared.Word.{Word}
use Rattle.layout.specs.declared.Word.TheVariants.{In, Out, Read, Write}
use Rattle.layout.specs.declared.Word.TheVariants as W
use Rattle.facts.specs.LinesOf.{form_of}
use Rattle.sheet_lines.specs.inner.Parts.{lists, route_text}

-- the digits of a sheet's number and those of an emitter's are the same
digits_are : (k n : ℕ) (s : List ℕ) → digits k n s ≡ N.digits k n ++ s
unfolding digits N.digits
digits_are zero n s = refl
digits_are (suc k) n s =
    split (λ (t : Bool). cond t ((48 + n) ∷ s) (digits k (n / 10) ((48 + n % 10) ∷ s))
    ≡ cond t ((48 + n) ∷ []) (N.digits k (n / 10) ++ ((48 + n % 10) ∷ [])) ++ s) (ltb n 10)
    (λ e. refl)
    (λ e. digits_are k (n / 10) ((48 + n % 10) ∷ s) ∙ sym (append_assoc (N.digits k (n / 10)) ((48 + n % 10) ∷ []) s))

pub number_is : (n : ℕ) (s : List ℕ) → number n s ≡ decimal n ++ s
unfolding number decimal
number_is n s = digits_are 20 n s

pub entries-are : (l s : List ℕ) → entries l s ≡ over entry l ++ s
unfolding entries over entry
entries-are [] s = refl
entries-are (n ∷ l) s =
    ap (λ (t : List ℕ). 32 ∷ number n t) (entries-are l s)
    ∙ ap (λ (t : List ℕ). 32 ∷ t) (number_is n (over entry l ++ s) ∙ sym (append_assoc (decimal n) (over entry l) s))

-- ---- what follows may stand behind

abbrev pub Front : (List ℕ → List ℕ) → Type 0
Front f = (s : List ℕ) → f s ≡ f [] ++ s

front-then : (f g : List ℕ → List ℕ) → Front f → Front g → Front (λ s. f (g s))
front-then f g a b s =
    a (g s) ∙ ap (λ (t : List ℕ). f [] ++ t) (b s) ∙ sym (append_assoc (f []) (g []) s)
    ∙ ap (λ (t : List ℕ). t ++ s) (sym (a (g [])))

front-text : (t : List ℕ) → Front (λ s. t ++ s)
front-text t s = ap (λ (x : List ℕ). x ++ s) (sym (append-nil t))

number-front : (n : ℕ) → Front (number n)
number-front n s = number_is n s ∙ ap (λ (t : List ℕ). t ++ s) (sym (number_is n [] ∙ append-nil (decimal n)))

entries-front : (l : List ℕ) → Front (entries l)
unfolding entries
entries-front [] s = refl
entries-front (n ∷ l) s = front-then (λ s. 32 ∷ s) (λ s. number n (entries l s)) (λ s. refl)
    (front-then (number n) (entries l) (number-front n) (entries-front l)) s

pub listed-front : (w : Word) (l : List ℕ) → Front (listed w l)
unfolding listed
listed-front w l =
    front-then (λ s. 32 ∷ 40 ∷ s) (λ s. spelling w ++ entries l (41 ∷ s)) (λ s. refl)
    (front-then (λ s. spelling w ++ s) (λ s. entries l (41 ∷ s)) (front-text (spelling w))
    (front-then (entries l) (λ s. 41 ∷ s) (entries-front l) (λ s. refl)))

pub lists-front : (f : Form) → Front (lists f)
lists-front f =
    front-then (listed In f.ins) _ (listed-front In f.ins)
    (front-then (listed Out f.outs) _ (listed-front Out f.outs)
    (front-then (listed Read f.reads) (listed Write f.writes) (listed-front Read f.reads)
    (listed-front Write f.writes)))

marked-front : (m : Bool) → Front (marked m)
unfolding marked spelling
marked-front true s = refl
marked-front false s = refl

pub step-front : (f : Form) → Front (step_line f)
unfolding step_line
step-front f =
    front-then (λ s. 40 ∷ (spelling W.Step ++ s))
    (λ s. 32 ∷ number f.name (lists f (marked f.cloth (41 ∷ 10 ∷ s))))
    (front-text (40 ∷ spelling W.Step))
    (front-then (λ s. 32 ∷ s) (λ s. number f.name (lists f (marked f.cloth (41 ∷ 10 ∷ s)))) (λ s. refl)
    (front-then (number f.name) (λ s. lists f (marked f.cloth (41 ∷ 10 ∷ s))) (number-front f.name)
    (front-then (lists f) (λ s. marked f.cloth (41 ∷ 10 ∷ s)) (lists-front f)
    (front-then (marked f.cloth) (λ s. 41 ∷ 10 ∷ s) (marked-front f.cloth) (λ s. refl)))))

pub word-front : (w : Word) (n : ℕ) → Front (word_line w n)
unfolding word_line
word-front w n =
    front-then (λ s. 40 ∷ (spelling w ++ s)) (λ s. 32 ∷ number n (41 ∷ 10 ∷ s)) (front-text (40 ∷ spelling w))
    (front-then (λ s. 32 ∷ s) (λ s. number n (41 ∷ 10 ∷ s)) (λ s. refl)
    (front-then (number n) (λ s. 41 ∷ 10 ∷ s) (number-front n) (λ s. refl)))

pub start-front : (v : Version) (l : List ℕ) → Front (start_line v l)
unfolding start_line
start-front v l = go v.starts
  where
    go : (t : Bool) → Front (λ s. cond t (40 ∷ (spelling W.Start ++ entries l (41 ∷ 10 ∷ s))) s)
    go true s =
        front-then (λ s. 40 ∷ (spelling W.Start ++ s)) (λ s. entries l (41 ∷ 10 ∷ s))
        (front-text (40 ∷ spelling W.Start)) (front-then (entries l) (λ s. 41 ∷ 10 ∷ s) (entries-front l) (λ s. refl)) s
    go false s = refl

steps_front : (l : List Form) → Front (step_lines l)
unfolding step_lines
steps_front [] s = refl
steps_front (f ∷ l) s = front-then (step_line f) (step_lines l) (step-front f) (steps_front l) s

pub route-front : (v : Version) (w : Word) (places : Places) (l : List Step) → Front (route_text v w places l)
route-front v w places l =
    front-then (word_line w places.count) _ (word-front w places.count)
    (front-then (start_line v (members 64 places.start)) (step_lines (map form_of l))
    (start-front v (members 64 places.start)) (steps_front (map form_of l)))
