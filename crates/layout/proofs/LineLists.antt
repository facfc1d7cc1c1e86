-- The line in hand after a step's name and its four lists: its form is that name with those lists, marked or not. After
-- a start line's list it has those places.
use mathlib.Core.Path.{◌≡◌, refl, ap, ◌∙◌}
use mathlib.Core.List.{List, [], ◌∷◌, reverse, reverse_aux, reverse-reverse}
use Prim.Native.Nat.{ℕ}
use Rattle.layout.specs.Text.{Form}
use Rattle.layout.specs.Parse.{Line, no_line, with_num, with_form, stored, form_of}
use Rattle.layout.specs.inner.Entries.{with_entries}
use Rattle.layout.specs.declared.Word.TheVariants.{Step, In, Out, Read, Write, Start}

-- the number in hand after a list
last : List ℕ → ℕ → ℕ
last [] m = m
last (n ∷ l) m = last l n

-- the line with one of its lists gathered
abbrev after : List ℕ → Line → Line
after l c = with_num (last l c.num) c

abbrev with_ins : List ℕ → Line → Line
with_ins l c = with_form (after l c) c.head (reverse_aux l c.ins) c.outs c.reads c.writes

abbrev with_outs : List ℕ → Line → Line
with_outs l c = with_form (after l c) c.head c.ins (reverse_aux l c.outs) c.reads c.writes

abbrev with_reads : List ℕ → Line → Line
with_reads l c = with_form (after l c) c.head c.ins c.outs (reverse_aux l c.reads) c.writes

abbrev with_writes : List ℕ → Line → Line
with_writes l c = with_form (after l c) c.head c.ins c.outs c.reads (reverse_aux l c.writes)

with_entries-ins : (l : List ℕ) (c : Line) → with_entries In l c ≡ with_ins l c
unfolding with_entries stored last
with_entries-ins [] c = refl
with_entries-ins (n ∷ l) c = with_entries-ins l (stored In (with_num n c))

with_entries-start : (l : List ℕ) (c : Line) → with_entries Start l c ≡ with_ins l c
unfolding with_entries stored last
with_entries-start [] c = refl
with_entries-start (n ∷ l) c = with_entries-start l (stored Start (with_num n c))

with_entries-outs : (l : List ℕ) (c : Line) → with_entries Out l c ≡ with_outs l c
unfolding with_entries stored last
with_entries-outs [] c = refl
with_entries-outs (n ∷ l) c = with_entries-outs l (stored Out (with_num n c))

with_entries-reads : (l : List ℕ) (c : Line) → with_entries Read l c ≡ with_reads l c
unfolding with_entries stored last
with_entries-reads [] c = refl
with_entries-reads (n ∷ l) c = with_entries-reads l (stored Read (with_num n c))

with_entries-writes : (l : List ℕ) (c : Line) → with_entries Write l c ≡ with_writes l c
unfolding with_entries stored last
with_entries-writes [] c = refl
with_entries-writes (n ∷ l) c = with_entries-writes l (stored Write (with_num n c))

-- the line of a step, before its LF
abbrev pub line_with : Form → Line
line_with f = with_entries Write f.writes (with_entries Read f.reads
    (with_entries Out f.outs (with_entries In f.ins (stored Step (with_num f.name no_line)))))

pub form_of-line_with : (f : Form) → form_of f.cloth (line_with f) ≡ f
unfolding stored
form_of-line_with f =
    ap (form_of f.cloth)
    (with_entries-writes f.writes _
    ∙ ap (with_writes f.writes) (with_entries-reads f.reads _
    ∙ ap (with_reads f.reads) (with_entries-outs f.outs _
    ∙ ap (with_outs f.outs) (with_entries-ins f.ins _))))
    ∙ (λ i. record {
      name = f.name;
      ins = reverse-reverse f.ins i;
      outs = reverse-reverse f.outs i;
      reads = reverse-reverse f.reads i;
      writes = reverse-reverse f.writes i;
      cloth = f.cloth;
    })

-- the places of a start line, from what was gathered
pub places_of-start : (l : List ℕ) → reverse (with_entries Start l no_line).ins ≡ l
places_of-start l = ap (λ (c : Line). reverse c.ins) (with_entries-start l no_line) ∙ reverse-reverse l
