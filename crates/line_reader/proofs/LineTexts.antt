-- The texts of the lines lead from point to point.
-- Assumes nothing.
use mathlib.Core.Path.{◌≡◌, refl, sym, ap, ◌∙◌, subst}
use mathlib.Core.Bool.{Bool, true, false, cond, ◌&&◌, false≢true}
use mathlib.Core.List.{List, [], ◌∷◌}
use Prim.Native.Nat.{ℕ, ◌+◌, ◌-◌, ◌≤◌, ◌<◌}
use native.Mathlib.Omega.{arith}
use lib.Dec.{eqb}
use lib.ListN.{length, get_or, get_or-eq_default}
use borrow.Author.Tests.{ne_eqb}
use Rattle.version.specs.declared.Version.{Version}
use Rattle.layout.specs.Words.{spelling}
use Rattle.layout.specs.Text.{Lines}
use Rattle.layout.specs.Points.{digit, alive, next, expect, chosen, spelt, more, ended, closed, past_word}
use Rattle.layout.specs.Points.{past_line}
use Rattle.layout.specs.Parse.{Line, no_line, stored, took, keep, put_line, at_end}
use Rattle.layout.specs.declared.Word.{Word}
use Rattle.layout.specs.declared.Word.TheVariants.{Old, New, Job, Done, Step, In, Out, Read, Write, Cloth, Start}
use Rattle.layout.specs.declared.Part.{Part}
use Rattle.layout.specs.declared.Part.TheVariants.{OldRoute, NewRoute, JobPart}
use Rattle.layout.specs.declared.Point.{Point}
use Rattle.layout.specs.declared.Point.TheVariants.{Top, Open, Past, Digit, Digits, Gap, Closed, Lf, Stuck}
use Rattle.layout.proofs.PrefixStep.{head-alive}
use Rattle.tokens.specs.inner.Tokens.{Spells}
use Rattle.line_reader.specs.inner.Lines.{head_word, has_steps}

-- where another byte stands than the one that the layout has
other : (b c : ℕ) (p : Point) → (b ≡ c → ⊥) → cond (eqb b c) p Stuck ≡ Stuck
other b c p far = ap (λ (x : Bool). cond x p Stuck) (ne_eqb b c far)

-- past a number, where no digit can follow
after : (x : Bool) (b c : ℕ) (p : Point) → (b ≡ c → ⊥) → cond x Stuck (cond (eqb b c) p Stuck) ≡ Stuck
after true b c p far = refl
after false b c p far = other b c p far

-- where two lines may begin
neither : (b c d : ℕ) (p q : Point) → (b ≡ c → ⊥) → (b ≡ d → ⊥) → cond (eqb b c) p (cond (eqb b d) q Stuck) ≡ Stuck
neither b c d p q far further = ap (λ (x : Bool). cond x p (cond (eqb b d) q Stuck)) (ne_eqb b c far)
    ∙ other b d q further

-- no letter and no space past the end
pub no-letter : (s : List ℕ) (i : ℕ) → length s - i < 2 → false ≡ eqb (get_or s (i + 1) 0) 115
no-letter s i h =
    let past : get_or s (i + 1) 0 ≡ 0 = get_or-eq_default s 0 (omega (arith, h)) in
    sym (ne_eqb (get_or s (i + 1) 0) 115 (λ e. omega (arith, e, past)))

pub no-space : (s : List ℕ) (i : ℕ) (may : Bool) → length s ≤ i → false ≡ (eqb (get_or s i 0) 32 && may)
no-space s i may h =
    let past : get_or s i 0 ≡ 0 = get_or-eq_default s 0 h in
    ap (λ (x : Bool). x && may) (sym (ne_eqb (get_or s i 0) 32 (λ e. omega (arith, e, past))))

-- one byte of a text: the layout has it there, no other, and doesn't end there; and what follows
byte : {A B C D : Type 0} → A → B → C → D → A × (B × (C × D))
byte live far ends on = (live, (far, (ends, on)))

-- ---- the heads and the done lines

pub old-spells : (v : Version) (s : List ℕ) (i : ℕ) (c : Line) (t : Lines)
    → Spells v s i Top c t (40 ∷ 111 ∷ 108 ∷ 100 ∷ 32 ∷ []) (Digit Old OldRoute) c t
unfolding Spells next expect alive took keep at_end spelt spelling past_word
old-spells v s i c t =
    byte refl (λ far. other _ 40 _ far) (λ _. refl) (λ is.
    byte refl (λ far. other _ 111 _ far) (λ _. refl) (λ is.
    byte refl (λ far. other _ 108 _ far) (λ _. refl) (λ is.
    byte refl (λ far. other _ 100 _ far) (λ _. refl) (λ is.
    byte refl (λ far. other _ 32 _ far) (λ _. refl) (λ is.
    (refl, (refl, refl)))))))

pub new-spells : (v : Version) (s : List ℕ) (i : ℕ) (c : Line) (t : Lines) → (get_or s (i + 1) 0 ≡ 115 → ⊥)
    → Spells v s i (Open OldRoute) c t (40 ∷ 110 ∷ 101 ∷ 119 ∷ 32 ∷ []) (Digit New NewRoute) c t
unfolding Spells next expect alive took keep at_end chosen spelt spelling past_word
new-spells v s i c t far₀ =
    byte refl (λ far. other _ 40 _ far) (λ _. refl) (λ is.
    byte refl (λ far. neither _ 115 110 _ _ far₀ far) (λ _. refl) (λ is.
    byte refl (λ far. other _ 101 _ far) (λ _. refl) (λ is.
    byte refl (λ far. other _ 119 _ far) (λ _. refl) (λ is.
    byte refl (λ far. other _ 32 _ far) (λ _. refl) (λ is.
    (refl, (refl, refl)))))))

pub job-spells : (v : Version) (s : List ℕ) (i : ℕ) (c : Line) (t : Lines) → (get_or s (i + 1) 0 ≡ 115 → ⊥)
    → Spells v s i (Open NewRoute) c t (40 ∷ 106 ∷ 111 ∷ 98 ∷ 41 ∷ 10 ∷ []) (Open JobPart) no_line
    (put_line Job JobPart c t)
unfolding Spells next past_line expect alive took keep at_end chosen spelt spelling past_word
job-spells v s i c t far₀ =
    byte refl (λ far. other _ 40 _ far) (λ _. refl) (λ is.
    byte refl (λ far. neither _ 115 106 _ _ far₀ far) (λ _. refl) (λ is.
    byte refl (λ far. other _ 111 _ far) (λ _. refl) (λ is.
    byte refl (λ far. other _ 98 _ far) (λ _. refl) (λ is.
    byte refl (λ far. other _ 41 _ far) (λ _. refl) (λ is.
    byte refl (λ far. other _ 10 _ far) (λ _. refl) (λ is.
    (refl, (refl, refl))))))))

pub done-spells : (v : Version) (s : List ℕ) (i : ℕ) (c : Line) (t : Lines) → i < length s
    → Spells v s i (Open JobPart) c t (40 ∷ 100 ∷ 111 ∷ 110 ∷ 101 ∷ 32 ∷ []) (Digit Done JobPart) c t
unfolding Spells next expect alive took keep at_end chosen spelt spelling past_word
done-spells v s i c t room =
    byte refl (λ far. other _ 40 _ far) (λ over. absurd (omega (arith, over, room))) (λ is.
    byte refl (λ far. other _ 100 _ far) (λ _. refl) (λ is.
    byte refl (λ far. other _ 111 _ far) (λ _. refl) (λ is.
    byte refl (λ far. other _ 110 _ far) (λ _. refl) (λ is.
    byte refl (λ far. other _ 101 _ far) (λ _. refl) (λ is.
    byte refl (λ far. other _ 32 _ far) (λ _. refl) (λ is.
    (refl, (refl, refl))))))))

-- past the number of such a line: the bracket and the LF
pub end-spells : (v : Version) (s : List ℕ) (i : ℕ) (w : Word) (q : Part) (c : Line) (t : Lines) → head_word w ≡ true
    → Spells v s i (Digits w q 0) c t (41 ∷ 10 ∷ []) (past_line v w q) no_line (put_line w q (stored w c) t)
unfolding Spells head_word next more ended past_line expect digit alive took keep at_end
end-spells v s i Old q c t h =
    byte refl (λ far. after (digit (get_or s i 0)) (get_or s i 0) 41 (Lf Old q) far) (λ _. refl) (λ is.
    byte (head-alive v q) (λ far. other _ 10 _ far) (λ _. refl) (λ is.
    (refl, (refl, refl))))
end-spells v s i New q c t h =
    byte refl (λ far. after (digit (get_or s i 0)) (get_or s i 0) 41 (Lf New q) far) (λ _. refl) (λ is.
    byte (head-alive v q) (λ far. other _ 10 _ far) (λ _. refl) (λ is.
    (refl, (refl, refl))))
end-spells v s i Done q c t h =
    byte refl (λ far. after (digit (get_or s i 0)) (get_or s i 0) 41 (Lf Done q) far) (λ _. refl) (λ is.
    byte refl (λ far. other _ 10 _ far) (λ _. refl) (λ is.
    (refl, (refl, refl))))
end-spells v s i Job q c t h = absurd (false≢true h)
end-spells v s i Step q c t h = absurd (false≢true h)
end-spells v s i In q c t h = absurd (false≢true h)
end-spells v s i Out q c t h = absurd (false≢true h)
end-spells v s i Read q c t h = absurd (false≢true h)
end-spells v s i Write q c t h = absurd (false≢true h)
end-spells v s i Cloth q c t h = absurd (false≢true h)
end-spells v s i Start q c t h = absurd (false≢true h)

-- ---- a start line

pub start-spells : (v : Version) (s : List ℕ) (i : ℕ) (q : Part) (c : Line) (t : Lines)
    → Spells v s i (Gap Start q) c t (40 ∷ 115 ∷ 116 ∷ 97 ∷ 114 ∷ 116 ∷ []) (Past Start q) c t
unfolding Spells next expect alive took keep at_end spelt spelling
start-spells v s i q c t =
    byte refl (λ far. other _ 40 _ far) (λ _. refl) (λ is.
    byte refl (λ far. other _ 115 _ far) (λ _. refl) (λ is.
    byte refl (λ far. other _ 116 _ far) (λ _. refl) (λ is.
    byte refl (λ far. other _ 97 _ far) (λ _. refl) (λ is.
    byte refl (λ far. other _ 114 _ far) (λ _. refl) (λ is.
    byte refl (λ far. other _ 116 _ far) (λ _. refl) (λ is.
    (refl, (refl, refl))))))))

pub start-end-spells : (v : Version) (s : List ℕ) (i : ℕ) (q : Part) (c : Line) (t : Lines)
    → Spells v s i (Lf Start q) c t (10 ∷ []) (Open q) no_line (put_line Start q c t)
unfolding Spells next past_line expect alive took keep at_end
start-end-spells v s i q c t =
    byte refl (λ far. other _ 10 _ far) (λ _. refl) (λ is.
    (refl, (refl, refl)))

-- ---- a step's line

pub step-spells : (v : Version) (s : List ℕ) (i : ℕ) (q : Part) (c : Line) (t : Lines) → has_steps q ≡ true
    → get_or s (i + 1) 0 ≡ 115 → Spells v s i (Open q) c t (40 ∷ 115 ∷ 116 ∷ 101 ∷ 112 ∷ 32 ∷ []) (Digit Step q) c t
unfolding has_steps Spells next expect alive took keep at_end chosen spelt spelling past_word
step-spells v s i OldRoute c t r h =
    byte refl (λ far. other _ 40 _ far) (λ _. refl) (λ is.
    byte refl (λ far. absurd (far h)) (λ _. refl) (λ is.
    byte refl (λ far. other _ 116 _ far) (λ _. refl) (λ is.
    byte refl (λ far. other _ 101 _ far) (λ _. refl) (λ is.
    byte refl (λ far. other _ 112 _ far) (λ _. refl) (λ is.
    byte refl (λ far. other _ 32 _ far) (λ _. refl) (λ is.
    (refl, (refl, refl))))))))
step-spells v s i NewRoute c t r h =
    byte refl (λ far. other _ 40 _ far) (λ _. refl) (λ is.
    byte refl (λ far. absurd (far h)) (λ _. refl) (λ is.
    byte refl (λ far. other _ 116 _ far) (λ _. refl) (λ is.
    byte refl (λ far. other _ 101 _ far) (λ _. refl) (λ is.
    byte refl (λ far. other _ 112 _ far) (λ _. refl) (λ is.
    byte refl (λ far. other _ 32 _ far) (λ _. refl) (λ is.
    (refl, (refl, refl))))))))
step-spells v s i JobPart c t r h = absurd (false≢true r)

pub in-spells : (v : Version) (s : List ℕ) (i : ℕ) (q : Part) (c : Line) (t : Lines)
    → Spells v s i (Digits Step q 0) c t (32 ∷ 40 ∷ 105 ∷ 110 ∷ []) (Past In q) (stored Step c) t
unfolding Spells next expect alive took keep at_end more ended digit spelt spelling
in-spells v s i q c t =
    byte refl (λ far. after (digit (get_or s i 0)) (get_or s i 0) 32 (Gap In q) far) (λ _. refl) (λ is.
    byte refl (λ far. other _ 40 _ far) (λ _. refl) (λ is.
    byte refl (λ far. other _ 105 _ far) (λ _. refl) (λ is.
    byte refl (λ far. other _ 110 _ far) (λ _. refl) (λ is.
    (refl, (refl, refl))))))

pub out-spells : (v : Version) (s : List ℕ) (i : ℕ) (q : Part) (c : Line) (t : Lines)
    → Spells v s i (Closed In q) c t (32 ∷ 40 ∷ 111 ∷ 117 ∷ 116 ∷ []) (Past Out q) c t
unfolding Spells next expect alive took keep at_end closed spelt spelling
out-spells v s i q c t =
    byte refl (λ far. other _ 32 _ far) (λ _. refl) (λ is.
    byte refl (λ far. other _ 40 _ far) (λ _. refl) (λ is.
    byte refl (λ far. other _ 111 _ far) (λ _. refl) (λ is.
    byte refl (λ far. other _ 117 _ far) (λ _. refl) (λ is.
    byte refl (λ far. other _ 116 _ far) (λ _. refl) (λ is.
    (refl, (refl, refl)))))))

pub read-spells : (v : Version) (s : List ℕ) (i : ℕ) (q : Part) (c : Line) (t : Lines)
    → Spells v s i (Closed Out q) c t (32 ∷ 40 ∷ 114 ∷ 101 ∷ 97 ∷ 100 ∷ []) (Past Read q) c t
unfolding Spells next expect alive took keep at_end closed spelt spelling
read-spells v s i q c t =
    byte refl (λ far. other _ 32 _ far) (λ _. refl) (λ is.
    byte refl (λ far. other _ 40 _ far) (λ _. refl) (λ is.
    byte refl (λ far. other _ 114 _ far) (λ _. refl) (λ is.
    byte refl (λ far. other _ 101 _ far) (λ _. refl) (λ is.
    byte refl (λ far. other _ 97 _ far) (λ _. refl) (λ is.
    byte refl (λ far. other _ 100 _ far) (λ _. refl) (λ is.
    (refl, (refl, refl))))))))

pub write-spells : (v : Version) (s : List ℕ) (i : ℕ) (q : Part) (c : Line) (t : Lines)
    → Spells v s i (Closed Read q) c t (32 ∷ 40 ∷ 119 ∷ 114 ∷ 105 ∷ 116 ∷ 101 ∷ []) (Past Write q) c t
unfolding Spells next expect alive took keep at_end closed spelt spelling
write-spells v s i q c t =
    byte refl (λ far. other _ 32 _ far) (λ _. refl) (λ is.
    byte refl (λ far. other _ 40 _ far) (λ _. refl) (λ is.
    byte refl (λ far. other _ 119 _ far) (λ _. refl) (λ is.
    byte refl (λ far. other _ 114 _ far) (λ _. refl) (λ is.
    byte refl (λ far. other _ 105 _ far) (λ _. refl) (λ is.
    byte refl (λ far. other _ 116 _ far) (λ _. refl) (λ is.
    byte refl (λ far. other _ 101 _ far) (λ _. refl) (λ is.
    (refl, (refl, refl)))))))))

-- past the last list, where no mark stands
pub write-end-spells : (v : Version) (s : List ℕ) (i : ℕ) (q : Part) (c : Line) (t : Lines)
    → (eqb (get_or s i 0) 32 && v.cloth) ≡ false
    → Spells v s i (Closed Write q) c t (41 ∷ 10 ∷ []) (Open q) no_line (put_line Write q c t)
unfolding Spells next past_line expect alive took keep at_end closed
write-end-spells v s i q c t none =
    byte refl (λ far. ap (λ (x : Bool). cond x (Gap Cloth q) (expect (get_or s i 0) 41 (Lf Write q))) none
    ∙ other _ 41 _ far) (λ _. refl) (λ is.
    byte refl (λ far. other _ 10 _ far) (λ _. refl) (λ is.
    (refl, (refl, refl))))

-- and where one does: from its bracket, and from the space
bracket-spells : (v : Version) (s : List ℕ) (i : ℕ) (q : Part) (c : Line) (t : Lines)
    → Spells v s i (Gap Cloth q) c t (40 ∷ 99 ∷ 108 ∷ 111 ∷ 116 ∷ 104 ∷ 41 ∷ []) (Closed Cloth q) c t
unfolding Spells next expect alive took keep at_end spelt spelling past_word
bracket-spells v s i q c t =
    byte refl (λ far. other _ 40 _ far) (λ _. refl) (λ is.
    byte refl (λ far. other _ 99 _ far) (λ _. refl) (λ is.
    byte refl (λ far. other _ 108 _ far) (λ _. refl) (λ is.
    byte refl (λ far. other _ 111 _ far) (λ _. refl) (λ is.
    byte refl (λ far. other _ 116 _ far) (λ _. refl) (λ is.
    byte refl (λ far. other _ 104 _ far) (λ _. refl) (λ is.
    byte refl (λ far. other _ 41 _ far) (λ _. refl) (λ is.
    (refl, (refl, refl)))))))))

space-on : (v : Version) (q : Part) → v.cloth ≡ true → Gap Cloth q ≡ next v (Closed Write q) 32
unfolding next closed
space-on v q has = ap (λ (x : Bool). cond x (Gap Cloth q) (expect 32 41 (Lf Write q))) (sym has)

pub cloth-spells : (v : Version) (s : List ℕ) (i : ℕ) (q : Part) (c : Line) (t : Lines) → get_or s i 0 ≡ 32
    → v.cloth ≡ true
    → Spells v s i (Closed Write q) c t (32 ∷ 40 ∷ 99 ∷ 108 ∷ 111 ∷ 116 ∷ 104 ∷ 41 ∷ []) (Closed Cloth q) c t
unfolding Spells took keep at_end
cloth-spells v s i q c t space has =
    byte (ap alive (sym (space-on v q has)) ∙ (unfold alive in refl)) (λ far. absurd (far space)) (λ _. refl) (λ is.
    subst (λ (p : Point). Spells v s (i + 1) p c t (40 ∷ 99 ∷ 108 ∷ 111 ∷ 116 ∷ 104 ∷ 41 ∷ []) (Closed Cloth q) c t)
    (space-on v q has) (bracket-spells v s (i + 1) q c t))

pub cloth-end-spells : (v : Version) (s : List ℕ) (i : ℕ) (q : Part) (c : Line) (t : Lines)
    → Spells v s i (Closed Cloth q) c t (41 ∷ 10 ∷ []) (Open q) no_line (put_line Cloth q c t)
unfolding Spells next past_line expect alive took keep at_end closed
cloth-end-spells v s i q c t =
    byte refl (λ far. other _ 41 _ far) (λ _. refl) (λ is.
    byte refl (λ far. other _ 10 _ far) (λ _. refl) (λ is.
    (refl, (refl, refl))))
