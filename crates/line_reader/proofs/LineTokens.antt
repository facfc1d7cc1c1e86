-- The lines through their tokens.
-- Assumes nothing.
use mathlib.Core.Path.{◌≡◌, refl, sym, ◌∙◌, subst}
use mathlib.Core.Bool.{Bool, true, false, ◌&&◌}
use mathlib.Core.List.{List, [], ◌∷◌}
use Prim.Native.Nat.{ℕ, ◌+◌, ◌<◌}
use native.Mathlib.Omega.{arith}
use lib.Dec.{eqb}
use lib.ListN.{get_or}
use borrow.Author.Tests.{eqb-true}
use Rattle.std.specs.Prelude.{Result, Ok, Err}
use Rattle.mask.proofs.Truth.{both}
use Rattle.version.specs.declared.Version.{Version}
use Rattle.layout.specs.Text.{Form, Lines}
use Rattle.layout.specs.Points.{list_end}
use Rattle.layout.specs.Parse.{Line, no_line, with_num, stored, put_step, put_start, put_line}
use Rattle.layout.specs.inner.Entries.{with_entries}
use Rattle.layout.specs.declared.Word.{Word}
use Rattle.layout.specs.declared.Word.TheVariants.{Step, In, Out, Read, Write, Cloth, Start}
use Rattle.layout.specs.declared.Part.{Part}
use Rattle.layout.specs.declared.Point.{Point}
use Rattle.layout.specs.declared.Point.TheVariants.{Open, Digits, Past, Gap, Closed}
use Rattle.layout.proofs.LineLists.{form_of-line_with, places_of-start}
use Rattle.tokens.specs.inner.Tokens.{Reading, Spells, TextTo, TextBreaks, NumberTo, NumberBreaks, ListOn, list_word}
use Rattle.tokens.specs.declared.Broken.{Broken}
use Rattle.tokens.specs.declared.Numeral.{Numeral}
use Rattle.tokens.specs.declared.Listed.{Listed}
use Rattle.line_reader.specs.inner.Lines.{has_steps, NumberedTo, NumberedBreaks, ListedTo, ListedBreaks, ListedOn}
use Rattle.line_reader.specs.inner.Lines.{StartTo, StartBreaks, EndingTo, EndingBreaks, StepTo, StepBreaks}
use Rattle.line_reader.specs.declared.Ending.{Ending}
use Rattle.line_reader.proofs.LineTexts.{end-spells, start-spells, start-end-spells, step-spells, in-spells}
use Rattle.line_reader.proofs.LineTexts.{out-spells, read-spells, write-spells, write-end-spells, cloth-spells}
use Rattle.line_reader.proofs.LineTexts.{cloth-end-spells}

-- ---- a line of one word and one number

module _ (v : Version) (s : List ℕ) (from : ℕ) (w : List ℕ) where
  pub word-breaks : (at : ℕ) → TextBreaks s from w at → NumberedBreaks v s from w at
  word-breaks at first = record { within = first.within; goes = λ p c t x q h way r. first.goes v p c t _ _ _ way r }

  module _ (a : ℕ) (first : TextTo s from w a) where
    pub number-breaks : (at : ℕ) → NumberBreaks v s a at → NumberedBreaks v s from w at
    number-breaks at number = record {
      within = number.within;
      goes = λ p c t x q h way r. number.goes x q c t (first.goes v p c t _ _ _ way r);
    }

    module _ (n : Numeral) (number : NumberTo v s a n) where
      pub end-breaks : (at : ℕ) → TextBreaks s n.at (41 ∷ 10 ∷ []) at → NumberedBreaks v s from w at
      end-breaks at end = record {
        within = end.within;
        goes = λ p c t x q h way r. end.goes v _ _ _ _ _ _ (end-spells v s n.at x q (with_num n.value c) t h)
            (number.goes x q c t (first.goes v p c t _ _ _ way r));
      }

      pub numbered-on : (at : ℕ) → TextTo s n.at (41 ∷ 10 ∷ []) at
          → NumberedTo v s from w (record { at = at; value = n.value })
      numbered-on at end = record {
        past = omega (arith, first.past, number.later, end.past);
        within = end.within;
        goes = λ p c t x q h way r. end.goes v _ _ _ _ _ _ (end-spells v s n.at x q (with_num n.value c) t h)
            (number.goes x q c t (first.goes v p c t _ _ _ way r));
      }

-- ---- a list with its text

module _ (v : Version) (s : List ℕ) (from : ℕ) (w : List ℕ) where
  pub text-breaks : (at : ℕ) → TextBreaks s from w at → ListedBreaks v s from w at
  text-breaks at first = record { within = first.within; goes = λ p c d t x q h way r. first.goes v p c t _ _ _ way r }

  module _ (a : ℕ) (first : TextTo s from w a) where
    pub listed-on : (r : Result Listed Broken) → ListOn v s a r → ListedOn v s from w r
    listed-on (Ok r) list = record {
      later = omega (arith, first.past, list.later);
      within = list.within;
      entries = list.entries;
      kept = list.kept;
      goes = λ p c d t x q h way r. list.goes x q d t h (first.goes v p c t _ _ _ way r);
    }
    listed-on (Err e) list = record {
      within = list.within;
      goes = λ p c d t x q h way r. list.goes x q d t h (first.goes v p c t _ _ _ way r);
    }

-- ---- a start line

module _ (v : Version) (s : List ℕ) (from : ℕ) where
  pub places-breaks : (at : ℕ) → ListedBreaks v s from (40 ∷ 115 ∷ 116 ∷ 97 ∷ 114 ∷ 116 ∷ []) at
      → StartBreaks v s from at
  places-breaks at stop = record {
    within = stop.within;
    goes = λ q t h. stop.goes _ _ _ _ Start q (unfold list_word in refl) (start-spells v s from q no_line t) h;
  }

  module _ (l : Listed) (list : ListedTo v s from (40 ∷ 115 ∷ 116 ∷ 97 ∷ 114 ∷ 116 ∷ []) l) where
    past-places : (q : Part) (t : Lines) → Reading v s from (Gap Start q) no_line t
        → Reading v s l.at (list_end Start q) (with_entries Start list.entries no_line) t
    past-places q t h = list.goes _ _ _ _ Start q (unfold list_word in refl) (start-spells v s from q no_line t) h

    pub lf-breaks : (at : ℕ) → TextBreaks s l.at (10 ∷ []) at → StartBreaks v s from at
    unfolding list_end
    lf-breaks at lf = record {
      within = lf.within;
      goes = λ q t h. lf.goes v _ _ _ _ _ _ (start-end-spells v s l.at q _ t) (past-places q t h);
    }

    pub start-on : (at : ℕ) → TextTo s l.at (10 ∷ []) at → StartTo v s from (record { at = at; entries = l.entries })
    unfolding list_end put_line
    start-on at lf = record {
      past = omega (arith, list.later, lf.past);
      within = lf.within;
      places = list.entries;
      kept = list.kept;
      goes = λ q t h. subst (λ (x : List ℕ). Reading v s at (Open q) no_line (put_start q x t))
          (places_of-start list.entries)
          (lf.goes v _ _ _ _ _ _ (start-end-spells v s l.at q _ t) (past-places q t h));
    }

-- ---- the end of a step's line, with the mark and without

module _ (v : Version) (s : List ℕ) (from : ℕ) (x : Bool) (marks : x ≡ (eqb (get_or s from 0) 32 && v.cloth)) where
  module _ (is : x ≡ true) where
    pub mark-breaks : (at : ℕ) → TextBreaks s from (32 ∷ 40 ∷ 99 ∷ 108 ∷ 111 ∷ 116 ∷ 104 ∷ 41 ∷ []) at
        → EndingBreaks v s from at
    mark-breaks at mark =
        let (space, has) = both (eqb (get_or s from 0) 32) v.cloth (sym marks ∙ is) in
        record {
          within = mark.within;
          goes = λ q c t r. mark.goes v _ _ _ _ _ _ (cloth-spells v s from q c t (eqb-true _ 32 space) has) r;
        }

    module _ (m : ℕ) (mark : TextTo s from (32 ∷ 40 ∷ 99 ∷ 108 ∷ 111 ∷ 116 ∷ 104 ∷ 41 ∷ []) m) where
      past-mark : (q : Part) (c : Line) (t : Lines) → Reading v s from (Closed Write q) c t
          → Reading v s m (Closed Cloth q) c t
      past-mark q c t r =
          let (space, has) = both (eqb (get_or s from 0) 32) v.cloth (sym marks ∙ is) in
          mark.goes v _ _ _ _ _ _ (cloth-spells v s from q c t (eqb-true _ 32 space) has) r

      pub marked-breaks : (at : ℕ) → TextBreaks s m (41 ∷ 10 ∷ []) at → EndingBreaks v s from at
      marked-breaks at end = record {
        within = end.within;
        goes = λ q c t r. end.goes v _ _ _ _ _ _ (cloth-end-spells v s m q c t) (past-mark q c t r);
      }

      pub marked-on : (at : ℕ) → TextTo s m (41 ∷ 10 ∷ []) at → EndingTo v s from (record { at = at; cloth = true })
      unfolding put_line
      marked-on at end = record {
        past = omega (arith, mark.past, end.past);
        within = end.within;
        goes = λ q c t r. end.goes v _ _ _ _ _ _ (cloth-end-spells v s m q c t) (past-mark q c t r);
      }

  module _ (is : x ≡ false) where
    pub unmarked-breaks : (at : ℕ) → TextBreaks s from (41 ∷ 10 ∷ []) at → EndingBreaks v s from at
    unmarked-breaks at end = record {
      within = end.within;
      goes = λ q c t r. end.goes v _ _ _ _ _ _ (write-end-spells v s from q c t (sym marks ∙ is)) r;
    }

    pub unmarked-on : (at : ℕ) → TextTo s from (41 ∷ 10 ∷ []) at → EndingTo v s from (record { at = at; cloth = false })
    unfolding put_line
    unmarked-on at end = record {
      past = omega (arith, end.past);
      within = end.within;
      goes = λ q c t r. end.goes v _ _ _ _ _ _ (write-end-spells v s from q c t (sym marks ∙ is)) r;
    }

-- ---- a step's line

-- in a step's line reading has come to i, whatever its part: at this point, with this line in hand
record Came (v : Version) (s : List ℕ) (from i : ℕ) (p : Part → Point) (c : Line) : Type 0 where
  past : from < i
  goes : (q : Part) (t : Lines) → has_steps q ≡ true → get_or s (from + 1) 0 ≡ 115
      → Reading v s from (Open q) no_line t → Reading v s i (p q) c t

module _ (v : Version) (s : List ℕ) (from i : ℕ) (p : Part → Point) (c : Line) (w : List ℕ) (x : Word) (d : Line)
    (h : Came v s from i p c) (l : list_word x ≡ true)
    (way : (q : Part) (t : Lines) → Spells v s i (p q) c t w (Past x q) d t) where
  past_list : (r : Listed) (to : ListedTo v s i w r) → Came v s from r.at (list_end x) (with_entries x to.entries d)
  past_list r to = record {
    past = omega (arith, h.past, to.later);
    goes = λ q t route is so. to.goes (p q) c d t x q l (way q t) (h.goes q t route is so);
  }

  list_breaks : (at : ℕ) → ListedBreaks v s i w at → StepBreaks v s from at
  list_breaks at stop = record {
    within = stop.within;
    goes = λ q t route is so. stop.goes (p q) c d t x q l (way q t) (h.goes q t route is so);
  }

-- token by token
module _ (v : Version) (s : List ℕ) (from : ℕ) where
  pub step-breaks : (at : ℕ) → TextBreaks s from (40 ∷ 115 ∷ 116 ∷ 101 ∷ 112 ∷ 32 ∷ []) at → StepBreaks v s from at
  step-breaks at stop = record {
    within = stop.within;
    goes = λ q t route is so. stop.goes v _ _ _ _ _ _ (step-spells v s from q no_line t route is) so;
  }

  module _ (a : ℕ) (ha : TextTo s from (40 ∷ 115 ∷ 116 ∷ 101 ∷ 112 ∷ 32 ∷ []) a) where
    pub name-breaks : (at : ℕ) → NumberBreaks v s a at → StepBreaks v s from at
    name-breaks at stop = record {
      within = stop.within;
      goes = λ q t route is so. stop.goes Step q no_line t
          (ha.goes v _ _ _ _ _ _ (step-spells v s from q no_line t route is) so);
    }

    module _ (n : Numeral) (hn : NumberTo v s a n) where
      named : Came v s from n.at (λ q. Digits Step q 0) (with_num n.value no_line)
      named = record {
        past = omega (arith, ha.past, hn.later);
        goes = λ q t route is so. hn.goes Step q no_line t
            (ha.goes v _ _ _ _ _ _ (step-spells v s from q no_line t route is) so);
      }

      pub in-breaks : (at : ℕ) → ListedBreaks v s n.at (32 ∷ 40 ∷ 105 ∷ 110 ∷ []) at → StepBreaks v s from at
      in-breaks = list_breaks v s from n.at _ _ _ In _ named (unfold list_word in refl)
          (λ q t. in-spells v s n.at q (with_num n.value no_line) t)

      module _ (i : Listed) (hi : ListedTo v s n.at (32 ∷ 40 ∷ 105 ∷ 110 ∷ []) i) where
        abbrev in_line : Line
        in_line = with_entries In hi.entries (stored Step (with_num n.value no_line))

        past-in : Came v s from i.at (Closed In) in_line
        unfolding list_end
        past-in = past_list v s from n.at _ _ _ In _ named (unfold list_word in refl)
            (λ q t. in-spells v s n.at q (with_num n.value no_line) t) i hi

        pub out-breaks : (at : ℕ) → ListedBreaks v s i.at (32 ∷ 40 ∷ 111 ∷ 117 ∷ 116 ∷ []) at → StepBreaks v s from at
        out-breaks = list_breaks v s from i.at _ _ _ Out _ past-in (unfold list_word in refl)
            (λ q t. out-spells v s i.at q _ t)

        module _ (o : Listed) (ho : ListedTo v s i.at (32 ∷ 40 ∷ 111 ∷ 117 ∷ 116 ∷ []) o) where
          abbrev out_line : Line
          out_line = with_entries Out ho.entries in_line

          past-out : Came v s from o.at (Closed Out) out_line
          unfolding list_end
          past-out = past_list v s from i.at _ _ _ Out _ past-in (unfold list_word in refl)
              (λ q t. out-spells v s i.at q _ t) o ho

          pub read-breaks : (at : ℕ) → ListedBreaks v s o.at (32 ∷ 40 ∷ 114 ∷ 101 ∷ 97 ∷ 100 ∷ []) at
              → StepBreaks v s from at
          read-breaks = list_breaks v s from o.at _ _ _ Read _ past-out (unfold list_word in refl)
              (λ q t. read-spells v s o.at q _ t)

          module _ (r : Listed) (hr : ListedTo v s o.at (32 ∷ 40 ∷ 114 ∷ 101 ∷ 97 ∷ 100 ∷ []) r) where
            abbrev read_line : Line
            read_line = with_entries Read hr.entries out_line

            past-read : Came v s from r.at (Closed Read) read_line
            unfolding list_end
            past-read = past_list v s from o.at _ _ _ Read _ past-out (unfold list_word in refl)
                (λ q t. read-spells v s o.at q _ t) r hr

            pub write-breaks : (at : ℕ) → ListedBreaks v s r.at (32 ∷ 40 ∷ 119 ∷ 114 ∷ 105 ∷ 116 ∷ 101 ∷ []) at
                → StepBreaks v s from at
            write-breaks = list_breaks v s from r.at _ _ _ Write _ past-read (unfold list_word in refl)
                (λ q t. write-spells v s r.at q _ t)

            module _ (w : Listed) (hw : ListedTo v s r.at (32 ∷ 40 ∷ 119 ∷ 114 ∷ 105 ∷ 116 ∷ 101 ∷ []) w) where
              abbrev write_line : Line
              write_line = with_entries Write hw.entries read_line

              past-write : Came v s from w.at (Closed Write) write_line
              unfolding list_end
              past-write = past_list v s from r.at _ _ _ Write _ past-read (unfold list_word in refl)
                  (λ q t. write-spells v s r.at q _ t) w hw

              pub ending-breaks : (at : ℕ) → EndingBreaks v s w.at at → StepBreaks v s from at
              ending-breaks at stop = record {
                within = stop.within;
                goes = λ q t route is so. stop.goes q _ t (past-write.goes q t route is so);
              }

              module _ (e : Ending) (he : EndingTo v s w.at e) where
                -- the form that was read
                abbrev read : Form
                read = record {
                  name = n.value;
                  ins = hi.entries;
                  outs = ho.entries;
                  reads = hr.entries;
                  writes = hw.entries;
                  cloth = e.cloth;
                }

                pub step-on : StepTo v s from (record {
                  at = e.at;
                  name = n.value;
                  ins = i.entries;
                  outs = o.entries;
                  reads = r.entries;
                  writes = w.entries;
                  cloth = e.cloth;
                })
                step-on = record {
                  past = omega (arith, past-write.past, he.past);
                  within = he.within;
                  form = read;
                  is = record {
                    name = refl;
                    ins = hi.kept;
                    outs = ho.kept;
                    reads = hr.kept;
                    writes = hw.kept;
                    cloth = refl;
                  };
                  goes = λ q t route is so. subst (λ (x : Form). Reading v s e.at (Open q) no_line (put_step q x t))
                      (form_of-line_with read) (he.goes q _ t (past-write.goes q t route is so));
                }
