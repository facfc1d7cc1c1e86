-- What is written is read: the text of lines leads from point to point, and gathers those lines.
-- Assumes nothing.
use mathlib.Core.Path.{◌≡◌, refl, sym, ap, ◌∙◌}
use mathlib.Core.Bool.{Bool, true, false, cond}
use mathlib.Core.List.{List, [], ◌∷◌, ◌++◌, reverse_aux, reverse-reverse}
use Prim.Native.Nat.{ℕ}
use Rattle.version.specs.Limits.{Limits}
use Rattle.version.specs.declared.Version.{Version}
use Rattle.layout.specs.Words.{spelling}
use Rattle.layout.specs.Text.{Form, Lines, number, entries, listed, marked, step_line, word_line, start_line}
use Rattle.layout.specs.Text.{job_line, step_lines, done_lines, job_text, text, Short, Shorts, ShortForm, ShortForms}
use Rattle.layout.specs.Text.{ShortStart, ShortLines}
use Rattle.layout.specs.Points.{digit, alive, expect, chosen, spelt, list_end, in_list, past_word, ended, more}
use Rattle.layout.specs.Points.{closed, past_head, past_line, next}
use Rattle.layout.specs.Parse.{Line, Parsed, broken, no_line, no_lines, with_num, stored, took, form_of, put_step}
use Rattle.layout.specs.Parse.{put_start, put_line, keep, at_end, run, parse}
use Rattle.layout.specs.inner.Entries.{with_entries}
use Rattle.layout.specs.declared.Word.{Word}
use Rattle.layout.specs.declared.Word.TheVariants.{Old, New, Done, Step, In, Out, Read, Write, Cloth, Start}
use Rattle.layout.specs.declared.Part.{Part}
use Rattle.layout.specs.declared.Part.TheVariants.{OldRoute, NewRoute, JobPart}
use Rattle.layout.specs.declared.Point.TheVariants.{Top, Open, Past, Digit, Digits, Gap, Closed, Lf, Stuck}
use Rattle.layout.proofs.Numbers.{run_on, number-run}
use Rattle.layout.proofs.LineLists.{form_of-line_with, places_of-start}
use Rattle.layout.proofs.PrefixStep.{at_head, head-alive, start-some, start_none}

module _ (v : Version) (limits : Limits v) where
  -- ---- the entries of a list

  module _ (w : Word) (p : Part) (t : Lines) (past-on : (c : Line) (s : List ℕ)
      → run v (Past w p) c t (32 ∷ s) ≡ run v (Digit w p) c t s)
      (past_end : (c : Line) (s : List ℕ) → run v (Past w p) c t (41 ∷ s) ≡ run v (list_end w p) c t s)
      (num-on : (c : Line) (s : List ℕ) → run v (Digits w p 0) c t (32 ∷ s) ≡ run v (Digit w p) (stored w c) t s)
      (num-end : (c : Line) (s : List ℕ) → run v (Digits w p 0) c t (41 ∷ s) ≡ run v (list_end w p) (stored w c) t s)
    where
      one_more : (n : ℕ) (l : List ℕ) (c : Line) (s : List ℕ) → Short v n
          → run v (Digit w p) c t (number n (entries l (41 ∷ s)))
          ≡ run v (Digits w p 0) (with_num n c) t (entries l (41 ∷ s))
      unfolding entries digit
      one_more n [] c s h = number-run v limits w p c t n 41 s h refl
      one_more n (m ∷ l) c s h = number-run v limits w p c t n 32 (number m (entries l (41 ∷ s))) h refl

      rest-run : (l : List ℕ) (c : Line) (s : List ℕ) → Shorts v l
          → run v (Digits w p 0) c t (entries l (41 ∷ s)) ≡ run v (list_end w p) (with_entries w l (stored w c)) t s
      unfolding entries with_entries
      rest-run [] c s h = num-end c s
      rest-run (n ∷ l) c s h = num-on c (number n (entries l (41 ∷ s))) ∙ one_more n l (stored w c) s h.0
          ∙ rest-run l (with_num n (stored w c)) s h.1

      list-run : (l : List ℕ) (c : Line) (s : List ℕ) → Shorts v l
          → run v (Past w p) c t (entries l (41 ∷ s)) ≡ run v (list_end w p) (with_entries w l c) t s
      unfolding entries with_entries
      list-run [] c s h = past_end c s
      list-run (n ∷ l) c s h = past-on c (number n (entries l (41 ∷ s))) ∙ one_more n l c s h.0
          ∙ rest-run l (with_num n c) s h.1

  pub ins-run : (p : Part) (t : Lines) (l : List ℕ) (c : Line) (s : List ℕ) → Shorts v l
      → run v (Past In p) c t (entries l (41 ∷ s)) ≡ run v (Closed In p) (with_entries In l c) t s
  unfolding run next past_word in_list list_end more ended alive digit expect took keep
  ins-run p t = list-run In p t (λ c s. refl) (λ c s. refl) (λ c s. refl) (λ c s. refl)

  pub outs-run : (p : Part) (t : Lines) (l : List ℕ) (c : Line) (s : List ℕ) → Shorts v l
      → run v (Past Out p) c t (entries l (41 ∷ s)) ≡ run v (Closed Out p) (with_entries Out l c) t s
  unfolding run next past_word in_list list_end more ended alive digit expect took keep
  outs-run p t = list-run Out p t (λ c s. refl) (λ c s. refl) (λ c s. refl) (λ c s. refl)

  pub reads-run : (p : Part) (t : Lines) (l : List ℕ) (c : Line) (s : List ℕ) → Shorts v l
      → run v (Past Read p) c t (entries l (41 ∷ s)) ≡ run v (Closed Read p) (with_entries Read l c) t s
  unfolding run next past_word in_list list_end more ended alive digit expect took keep
  reads-run p t = list-run Read p t (λ c s. refl) (λ c s. refl) (λ c s. refl) (λ c s. refl)

  pub writes-run : (p : Part) (t : Lines) (l : List ℕ) (c : Line) (s : List ℕ) → Shorts v l
      → run v (Past Write p) c t (entries l (41 ∷ s)) ≡ run v (Closed Write p) (with_entries Write l c) t s
  unfolding run next past_word in_list list_end more ended alive digit expect took keep
  writes-run p t = list-run Write p t (λ c s. refl) (λ c s. refl) (λ c s. refl) (λ c s. refl)

  start-run : (p : Part) (t : Lines) (l : List ℕ) (c : Line) (s : List ℕ) → Shorts v l
      → run v (Past Start p) c t (entries l (41 ∷ s)) ≡ run v (Lf Start p) (with_entries Start l c) t s
  unfolding run next past_word in_list list_end more ended alive digit expect took keep
  start-run p t = list-run Start p t (λ c s. refl) (λ c s. refl) (λ c s. refl) (λ c s. refl)

  -- ---- the lines

  -- the space before the mark
  mark-opens : (p : Part) → v.cloth ≡ true → (t : Lines) (c : Line) (s : List ℕ)
      → run v (Closed Write p) c t (32 ∷ s) ≡ run v (Gap Cloth p) c t s
  unfolding run next closed alive expect took keep
  mark-opens p h t c s =
      ap (λ (b : Bool). cond (alive (cond b (Gap Cloth p) Stuck)) (run v (cond b (Gap Cloth p) Stuck) c t s)
      (broken (32 ∷ s))) h

  -- past the last list, to the line's end
  marked-run : (p : Part) (m : Bool) → (m ≡ true → v.cloth ≡ true) → (t : Lines) (c : Line) (s : List ℕ)
      → run v (Closed Write p) c t (marked m (41 ∷ 10 ∷ s)) ≡ run v (Open p) no_line (put_step p (form_of m c) t) s
  unfolding marked run next closed past_line alive expect took keep put_line spelt spelling past_word
  marked-run p false h t c s = refl
  marked-run p true h t c s = mark-opens p (h refl) t c (40 ∷ (spelling Cloth ++ (41 ∷ 41 ∷ 10 ∷ s)))

  module _ (p : Part) (t : Lines) (f : Form) (short : ShortForm v f) where
    -- from the step's name to the line's end
    step_run : (s : List ℕ) → run v (Digit Step p) no_line t
        (number f.name (listed In f.ins (listed Out f.outs
        (listed Read f.reads (listed Write f.writes (marked f.cloth (41 ∷ 10 ∷ s)))))))
        ≡ run v (Open p) no_line (put_step p f t) s
    unfolding listed run next past_word ended more closed spelt spelling alive digit expect took stored keep put_line
    step_run s =
        number-run v limits Step p no_line t f.name 32 _ short.name refl
        ∙ ins-run p t f.ins _ _ short.ins
        ∙ outs-run p t f.outs _ _ short.outs
        ∙ reads-run p t f.reads _ _ short.reads
        ∙ writes-run p t f.writes _ _ short.writes
        ∙ marked-run p f.cloth short.cloth t _ s
        ∙ ap (λ (g : Form). run v (Open p) no_line (put_step p g t) s) (form_of-line_with f)

  pub old-step : (t : Lines) (f : Form) (s : List ℕ) → ShortForm v f
      → run v (Open OldRoute) no_line t (step_line f s) ≡ run v (Open OldRoute) no_line (put_step OldRoute f t) s
  unfolding step_line run next chosen spelt spelling past_word alive expect took keep
  old-step t f s h = step_run OldRoute t f h s

  pub new-step : (t : Lines) (f : Form) (s : List ℕ) → ShortForm v f
      → run v (Open NewRoute) no_line t (step_line f s) ≡ run v (Open NewRoute) no_line (put_step NewRoute f t) s
  unfolding step_line run next chosen spelt spelling past_word alive expect took keep
  new-step t f s h = step_run NewRoute t f h s

  -- past a head, and its start line where the version has one
  start-line : (p : Part) (t u : Lines) (l s : List ℕ) → Shorts v l → (v.starts ≡ true → put_start p l t ≡ u)
      → (v.starts ≡ false → t ≡ u) → run v (past_head v p) no_line t (start_line v l s) ≡ run v (Open p) no_line u s
  unfolding run next past_line spelt spelling alive expect took keep put_line
  start-line p t u l s h put same = at_head v p (λ q. run v q no_line t (start_line v l s) ≡ run v (Open p) no_line u s)
      (λ has. ap (run v (Gap Start p) no_line t) (start-some v l s has)
      ∙ start-run p t l no_line (10 ∷ s) h
      ∙ ap (λ (m : List ℕ). run v (Open p) no_line (put_start p m t) s) (places_of-start l)
      ∙ ap (λ (x : Lines). run v (Open p) no_line x s) (put has))
      (λ lacks. ap (run v (Open p) no_line t) (start_none v l s lacks)
      ∙ ap (λ (x : Lines). run v (Open p) no_line x s) (same lacks))

  old-line : (t : Lines) (n : ℕ) (s : List ℕ) → Short v n
      → run v Top no_line t (word_line Old n s) ≡ run v (past_head v OldRoute) no_line (record {
        old_places = n;
        old_start = [];
        old = [];
        new_places = 0;
        new_start = [];
        new = [];
        done = [];
      }) s
  unfolding word_line run next past_line spelt spelling past_word more ended alive digit expect took stored keep put_line
  old-line t n s h = number-run v limits Old OldRoute no_line t n 41 (10 ∷ s) h refl
      ∙ run_on v (Lf Old OldRoute) (past_head v OldRoute) 10 (stored Old (with_num n no_line)) t s refl
      (head-alive v OldRoute)

  new_line_lem : (t : Lines) (n : ℕ) (s : List ℕ) → Short v n
      → run v (Open OldRoute) no_line t (word_line New n s)
      ≡ run v (past_head v NewRoute) no_line (record {
        old_places = t.old_places;
        old_start = t.old_start;
        old = t.old;
        new_places = n;
        new_start = [];
        new = [];
        done = [];
      }) s
  unfolding word_line run next past_line chosen spelt spelling past_word more ended alive digit expect took stored keep
      put_line
  new_line_lem t n s h = number-run v limits New NewRoute no_line t n 41 (10 ∷ s) h refl
      ∙ run_on v (Lf New NewRoute) (past_head v NewRoute) 10 (stored New (with_num n no_line)) t s refl
      (head-alive v NewRoute)

  -- a head with its start
  old-head : (t : Lines) (n : ℕ) (l s : List ℕ) → Short v n → ShortStart v l
      → run v Top no_line t (word_line Old n (start_line v l s)) ≡ run v (Open OldRoute) no_line (record {
        old_places = n;
        old_start = l;
        old = [];
        new_places = 0;
        new_start = [];
        new = [];
        done = [];
      }) s
  unfolding put_start
  old-head t n l s h k = old-line t n (start_line v l s) h ∙ start-line OldRoute _ _ l s k.entries (λ has. refl)
      (λ lacks. ap (λ (m : List ℕ). record {
        old_places = n;
        old_start = m;
        old = [];
        new_places = 0;
        new_start = [];
        new = [];
        done = [];
      }) (sym (k.none lacks)))

  new-head : (t : Lines) (n : ℕ) (l s : List ℕ) → Short v n → ShortStart v l
      → run v (Open OldRoute) no_line t (word_line New n (start_line v l s)) ≡ run v (Open NewRoute) no_line (record {
        old_places = t.old_places;
        old_start = t.old_start;
        old = t.old;
        new_places = n;
        new_start = l;
        new = [];
        done = [];
      }) s
  unfolding put_start
  new-head t n l s h k = new_line_lem t n (start_line v l s) h ∙ start-line NewRoute _ _ l s k.entries (λ has. refl)
      (λ lacks. ap (λ (m : List ℕ). record {
        old_places = t.old_places;
        old_start = t.old_start;
        old = t.old;
        new_places = n;
        new_start = m;
        new = [];
        done = [];
      }) (sym (k.none lacks)))

  pub done-line : (t : Lines) (n : ℕ) (s : List ℕ) → Short v n
      → run v (Open JobPart) no_line t (word_line Done n s)
      ≡ run v (Open JobPart) no_line (record {
        old_places = t.old_places;
        old_start = t.old_start;
        old = t.old;
        new_places = t.new_places;
        new_start = t.new_start;
        new = t.new;
        done = n ∷ t.done;
      }) s
  unfolding word_line run next past_line chosen spelt spelling past_word more ended alive digit expect took stored keep
      put_line
  done-line t n s h = number-run v limits Done JobPart no_line t n 41 (10 ∷ s) h refl

  pub job-line : (t : Lines) (s : List ℕ) → run v (Open NewRoute) no_line t (job_line s)
      ≡ run v (Open JobPart) no_line (record {
        old_places = t.old_places;
        old_start = t.old_start;
        old = t.old;
        new_places = t.new_places;
        new_start = t.new_start;
        new = t.new;
        done = [];
      }) s
  unfolding job_line run next past_line chosen spelt spelling past_word alive expect took keep put_line
  job-line t s = refl

  -- ---- the parts, and the whole

  old-steps : (l : List Form) (t : Lines) (s : List ℕ) → ShortForms v l
      → run v (Open OldRoute) no_line t (step_lines l s)
      ≡ run v (Open OldRoute) no_line (record {
        old_places = t.old_places;
        old_start = t.old_start;
        old = reverse_aux l t.old;
        new_places = t.new_places;
        new_start = t.new_start;
        new = t.new;
        done = t.done;
      }) s
  unfolding step_lines put_step
  old-steps [] t s h = refl
  old-steps (f ∷ l) t s h = old-step t f (step_lines l s) h.0 ∙ old-steps l (put_step OldRoute f t) s h.1

  new-steps : (l : List Form) (t : Lines) (s : List ℕ) → ShortForms v l
      → run v (Open NewRoute) no_line t (step_lines l s)
      ≡ run v (Open NewRoute) no_line (record {
        old_places = t.old_places;
        old_start = t.old_start;
        old = t.old;
        new_places = t.new_places;
        new_start = t.new_start;
        new = reverse_aux l t.new;
        done = t.done;
      }) s
  unfolding step_lines put_step
  new-steps [] t s h = refl
  new-steps (f ∷ l) t s h = new-step t f (step_lines l s) h.0 ∙ new-steps l (put_step NewRoute f t) s h.1

  dones : (l : List ℕ) (t : Lines) (s : List ℕ) → Shorts v l
      → run v (Open JobPart) no_line t (done_lines l s)
      ≡ run v (Open JobPart) no_line (record {
        old_places = t.old_places;
        old_start = t.old_start;
        old = t.old;
        new_places = t.new_places;
        new_start = t.new_start;
        new = t.new;
        done = reverse_aux l t.done;
      }) s
  unfolding done_lines
  dones [] t s h = refl
  dones (n ∷ l) t s h = done-line t n (done_lines l s) h.0
      ∙ dones l (record {
        old_places = t.old_places;
        old_start = t.old_start;
        old = t.old;
        new_places = t.new_places;
        new_start = t.new_start;
        new = t.new;
        done = n ∷ t.done;
      }) s h.1

  -- reading the text of lines gives the lines back
  pub complete : (x : Lines) → ShortLines v x → parse v (text v x) ≡ Parsed.read x
  unfolding parse text job_text run at_end
  complete x h =
      old-head no_lines x.old_places x.old_start _ h.old_places h.old_start
      ∙ old-steps x.old _ _ h.old
      ∙ new-head _ x.new_places x.new_start _ h.new_places h.new_start
      ∙ new-steps x.new _ _ h.new
      ∙ job-line _ _
      ∙ dones x.done _ [] h.done
      ∙ (λ i. Parsed.read (record {
        old_places = x.old_places;
        old_start = x.old_start;
        old = reverse-reverse x.old i;
        new_places = x.new_places;
        new_start = x.new_start;
        new = reverse-reverse x.new i;
        done = reverse-reverse x.done i;
      }))
