-- A list's bytes: what the byte after an entry does.
-- Assumes nothing.
use mathlib.Core.Path.{◌≡◌, refl, sym, ap, ◌∙◌}
use mathlib.Core.Bool.{Bool, true, false, cond, true≢false}
use mathlib.Core.List.{List, [], ◌∷◌, ◌++◌}
use Prim.Native.Nat.{ℕ, ◌+◌, ◌%◌, ◌≤◌, ◌<◌}
use native.Mathlib.Omega.{arith}
use lib.Bits.{bit_or}
use lib.ListN.{length, drop, get_or}
use borrow.Author.Tests.{eq-eqb, ne_eqb, lt-ltb, le-ltb}
use Rattle.mask.specs.Mask.{bit}
use Rattle.version.specs.declared.Version.{Version}
use Rattle.layout.specs.Text.{Lines}
use Rattle.layout.specs.Points.{digit, alive, next, expect, list_end, in_list, past_word, more, ended}
use Rattle.layout.specs.Parse.{Line, Parsed, with_num, grown, stored, took, keep, at_end, run}
use Rattle.layout.specs.inner.Entries.{with_entries}
use Rattle.layout.specs.declared.Word.{Word}
use Rattle.layout.specs.declared.Word.TheVariants.{Old, New, Job, Done, Step, In, Out, Read, Write, Cloth, Start}
use Rattle.layout.specs.declared.Part.{Part}
use Rattle.layout.specs.declared.Point.{Point}
use Rattle.layout.specs.declared.Point.TheVariants.{Digit, Digits, Past, Stuck}
use Rattle.tokens.specs.inner.Tokens.{Reading, NumberTo, NumberBreaks, list_word, no_entries, added, along, ListTo}
use Rattle.tokens.specs.inner.Tokens.{ListBreaks}
use Rattle.tokens.specs.declared.Numeral.{Numeral}
use Rattle.tokens.specs.declared.Entries.{Entries}
use Rattle.tokens.proofs.Bytes.{byte-on, byte-stuck, bytes-over}

-- ---- the five words that head a list

past-list : (w : Word) → list_word w ≡ true → (q : Part) (b : ℕ) → past_word w q b ≡ in_list w q b
unfolding list_word past_word
past-list Old h q b = cc
past-list New h q b = cc
past-list Job h q b = cc
past-list Done h q b = cc
past-list Step h q b = cc
past-list In h q b = refl
past-list Out h q b = refl
past-list Read h q b = refl
past-list Write h q b = refl
past-list Cloth h q b = cc
past-list Start h q b = refl

ended-list : (w : Word) → list_word w ≡ true → (q : Part) (b : ℕ) → ended w q b ≡ in_list w q b
unfolding list_word ended
ended-list Old h q b = cc
ended-list New h q b = cc
ended-list Job h q b = cc
ended-list Done h q b = cc
ended-list Step h q b = cc
ended-list In h q b = refl
ended-list Out h q b = refl
ended-list Read h q b = refl
ended-list Write h q b = refl
ended-list Cloth h q b = cc
ended-list Start h q b = refl

end-alive : (w : Word) (q : Part) → alive (list_end w q) ≡ true
unfolding list_end alive
end-alive Old q = refl
end-alive New q = refl
end-alive Job q = refl
end-alive Done q = refl
end-alive Step q = refl
end-alive In q = refl
end-alive Out q = refl
end-alive Read q = refl
end-alive Write q = refl
end-alive Cloth q = refl
end-alive Start q = refl

-- ---- the byte past an entry

in-space : (w : Word) (q : Part) (b : ℕ) → b ≡ 32 → in_list w q b ≡ Digit w q
unfolding in_list
in-space w q b e = ap (λ (x : Bool). cond x (Digit w q) (expect b 41 (list_end w q))) (eq-eqb b 32 e)

in-bracket : (w : Word) (q : Part) (b : ℕ) → b ≡ 41 → in_list w q b ≡ list_end w q
unfolding in_list expect
in-bracket w q b e =
    ap (λ (x : Bool). cond x (Digit w q) (expect b 41 (list_end w q))) (ne_eqb b 32 (λ f. omega (arith, e, f)))
    ∙ ap (λ (x : Bool). cond x (list_end w q) Stuck) (eq-eqb b 41 e)

in-other : (w : Word) (q : Part) (b : ℕ) → (b ≡ 32 → ⊥) → (b ≡ 41 → ⊥) → in_list w q b ≡ Stuck
unfolding in_list expect
in-other w q b e f =
    ap (λ (x : Bool). cond x (Digit w q) (expect b 41 (list_end w q))) (ne_eqb b 32 e)
    ∙ ap (λ (x : Bool). cond x (list_end w q) Stuck) (ne_eqb b 41 f)

digit-in : (w : Word) (q : Part) (b : ℕ) → digit b ≡ true → in_list w q b ≡ Stuck
unfolding digit
digit-in w q b d = in-other w q b (λ e. true≢false (sym d ∙ ap digit e)) (λ e. true≢false (sym d ∙ ap digit e))

-- past an entry the list stands as past its word
run-back : (v : Version) (w : Word) (q : Part) → list_word w ≡ true → (n : ℕ) (c : Line) (t : Lines) (l : List ℕ)
    → run v (Digits w q 0) (with_num n c) t l ≡ run v (Past w q) (stored w (with_num n c)) t l
unfolding run next more took keep at_end alive
run-back v w q h n c t [] = refl
run-back v w q h n c t (b ∷ l) = go (digit b) refl
  where
    go : (x : Bool) → digit b ≡ x → cond (alive (cond x Stuck (ended w q b)))
        (run v (cond x Stuck (ended w q b)) (cond x (with_num (grown n b) c) (stored w (with_num n c))) t l)
        (Parsed.broken (b ∷ l)) ≡ cond (alive (past_word w q b)) (run v (past_word w q b) (stored w (with_num n c)) t l)
        (Parsed.broken (b ∷ l))
    go true d = ap (λ (y : Point). cond (alive y) (run v y (stored w (with_num n c)) t l) (Parsed.broken (b ∷ l)))
        (sym (past-list w h q b ∙ digit-in w q b d))
    go false d = ap (λ (y : Point). cond (alive y) (run v y (stored w (with_num n c)) t l) (Parsed.broken (b ∷ l)))
        (ended-list w h q b ∙ sym (past-list w h q b))

-- ---- one more entry

with-more : (w : Word) (l : List ℕ) (n : ℕ) (c : Line)
    → stored w (with_num n (with_entries w l c)) ≡ with_entries w (l ++ (n ∷ [])) c
unfolding with_entries
with-more w [] n c = refl
with-more w (m ∷ l) n c = with-more w l n (stored w (with_num m c))

along-more : (e : Entries) (l : List ℕ) (n : ℕ) → added n (along e l) ≡ along e (l ++ (n ∷ []))
unfolding along
along-more e [] n = refl
along-more e (m ∷ l) n = along-more (added m e) l n

-- entries read so far, and what is kept of them
pub record Entered (v : Version) (s : List ℕ) (from : ℕ) (e : Entries) (i : ℕ) : Type 0 where
  pub later : from + e.count ≤ i
  pub within : i ≤ length s
  pub entries : List ℕ
  pub kept : e ≡ along no_entries entries
  pub goes : (w : Word) (q : Part) (c : Line) (t : Lines) → list_word w ≡ true → Reading v s from (Past w q) c t
      → Reading v s i (Past w q) (with_entries w entries c) t

pub entered-init : (v : Version) (s : List ℕ) (from : ℕ) → from ≤ length s → Entered v s from no_entries from
unfolding along with_entries
entered-init v s from h = record {
  later = omega arith;
  within = h;
  entries = [];
  kept = refl;
  goes = λ w q c t l r. r;
}

module _ (v : Version) (s : List ℕ) (from : ℕ) (e : Entries) (i : ℕ) (h : Entered v s from e i)
    (room : i < length s) where
  space-on : get_or s i 0 ≡ 32 → (w : Word) (q : Part) (c : Line) (t : Lines) → list_word w ≡ true
      → Reading v s from (Past w q) c t → Reading v s (i + 1) (Digit w q) (with_entries w h.entries c) t
  unfolding next took keep alive
  space-on sp w q c t l r = byte-on v s i (Past w q) _ t (h.goes w q c t l r) room (Digit w q)
      (past-list w l q (get_or s i 0) ∙ in-space w q (get_or s i 0) sp) refl

  pub entered-next : (n : Numeral) (e' : Entries) → get_or s i 0 ≡ 32 → NumberTo v s (i + 1) n
      → e' ≡ added n.value e → Entered v s from e' n.at
  unfolding added
  entered-next n e' sp to is =
      record {
        later = omega (arith, h.later, to.later, ap (λ (x : Entries). x.count) is);
        within = to.within;
        entries = h.entries ++ (n.value ∷ []);
        kept = is ∙ ap (added n.value) h.kept ∙ along-more no_entries h.entries n.value;
        goes = λ w q c t l so.
            let on = to.goes w q (with_entries w h.entries c) t (space-on sp w q c t l so) in
            record {
              within = on.within;
              same = on.same
                  ∙ run-back v w q l n.value (with_entries w h.entries c) t (drop n.at s)
                  ∙ ap (λ (x : Line). run v (Past w q) x t (drop n.at s)) (with-more w h.entries n.value c);
            };
      }

  pub list-closes : get_or s i 0 ≡ 41 → ListTo v s from (record { at = i + 1; entries = e })
  unfolding next took keep
  list-closes x =
      record {
        later = omega (arith, h.later);
        within = omega (arith, room);
        entries = h.entries;
        kept = h.kept;
        goes = λ w q c t l r. byte-on v s i (Past w q) _ t (h.goes w q c t l r) room (list_end w q)
            (past-list w l q (get_or s i 0) ∙ in-bracket w q (get_or s i 0) x) (end-alive w q);
      }

  pub list-other : (get_or s i 0 ≡ 41 → ⊥) → (get_or s i 0 ≡ 32 → ⊥) → ListBreaks v s from i
  unfolding next
  list-other x y =
      record {
        later = omega (arith, h.later);
        within = h.within;
        goes = λ w q c t l r. byte-stuck v s i (Past w q) _ t (h.goes w q c t l r) room
            (past-list w l q (get_or s i 0) ∙ in-other w q (get_or s i 0) y x);
      }

  pub list-number : (at : ℕ) → get_or s i 0 ≡ 32 → NumberBreaks v s (i + 1) at → ListBreaks v s from at
  list-number at sp n =
      record {
        later = omega (arith, h.later, n.later);
        within = n.within;
        goes = λ w q c t l so. n.goes w q (with_entries w h.entries c) t (space-on sp w q c t l so);
      }

pub list-over : (v : Version) (s : List ℕ) (from : ℕ) (e : Entries) (i : ℕ) → Entered v s from e i → length s ≤ i
    → ListBreaks v s from i
unfolding at_end
list-over v s from e i h over =
    record {
      later = omega (arith, h.later);
      within = h.within;
      goes = λ w q c t l r. bytes-over v s i (Past w q) _ t (h.goes w q c t l r) over refl;
    }

-- ---- as the code takes an entry in: below one before, or above all

module _ (v : Version) (s : List ℕ) (from mask top count : ℕ) (falls : Bool) (i : ℕ) (n : Numeral) (m : ℕ)
    (h : Entered v s from (record { mask = mask; top = top; count = count; falls = falls }) i) (room : i < length s)
    (sp : get_or s i 0 ≡ 32) (to : NumberTo v s (i + 1) n) (is : m ≡ bit (n.value % 64)) where
  pub entered-low : n.value < top → Entered v s from
      (record { mask = bit_or mask m; top = top; count = count + 1; falls = true }) n.at
  unfolding added
  entered-low x =
      entered-next v s from _ i h room n _ sp to
      (ap (λ (k : ℕ). record { mask = bit_or mask k; top = top; count = count + 1; falls = true }) is
      ∙ ap (λ (t : Bool). record {
        mask = bit_or mask (bit (n.value % 64));
        top = cond t top (n.value + 1);
        count = count + 1;
        falls = cond t true falls;
      }) (sym (lt-ltb n.value top x)))

  pub entered-high : top ≤ n.value → Entered v s from
      (record { mask = bit_or mask m; top = n.value + 1; count = count + 1; falls = falls }) n.at
  unfolding added
  entered-high x =
      entered-next v s from _ i h room n _ sp to
      (ap (λ (k : ℕ). record { mask = bit_or mask k; top = n.value + 1; count = count + 1; falls = falls }) is
      ∙ ap (λ (t : Bool). record {
        mask = bit_or mask (bit (n.value % 64));
        top = cond t top (n.value + 1);
        count = count + 1;
        falls = cond t true falls;
      }) (sym (le-ltb n.value top x)))
