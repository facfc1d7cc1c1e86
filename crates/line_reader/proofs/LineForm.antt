-- What is kept of a list tells all that the rows ask of it, and its mask.
-- Assumes nothing.
use mathlib.Core.Path.{◌≡◌, refl, sym, ap, ap₂, ◌∙◌}
use mathlib.Core.Bool.{Bool, true, false, not, cond, ◌&&◌, and-false, false≢true}
use mathlib.Core.List.{List, [], ◌∷◌}
use Prim.Native.Nat.{ℕ, suc, ◌+◌, ◌%◌, ◌≤◌, ◌<◌}
use native.Mathlib.Numerals.{add-one}
use native.Mathlib.Omega.{arith}
use lib.Dec.{eqb, ltb, leb, lit<}
use lib.ListN.{length}
use lib.Bits.{bit_or}
use borrow.Author.Tests.{lt-ltb, le-leb, lt-leb, ltb-true, ltb-false, leb-true}
use Rattle.mask.specs.Mask.{bit}
use Rattle.version.specs.Limits.{name_fits, Limits}
use Rattle.version.specs.declared.Version.{Version}
use Rattle.version.proofs.Limits.{name-stored}
use Rattle.layout.specs.Text.{Form}
use Rattle.facts.specs.Forms.{all_below, rising, list_fits, form_fits, form_lists, masked, record_of}
use Rattle.facts.proofs.Masks.{masked_below}
use Rattle.tokens.specs.inner.Tokens.{no_entries, added, along}
use Rattle.tokens.specs.declared.Entries.{Entries}
use Rattle.line_reader.specs.inner.Lines.{IsForm, entries_fit, line_fits, line_lists}
use Rattle.line_reader.specs.declared.StepLine.{StepLine}

right : (x : Bool) → (x && true) ≡ x
right true = refl
right false = refl

assoc : (x y z : Bool) → ((x && y) && z) ≡ (x && (y && z))
assoc true y z = refl
assoc false y z = refl

and_left : (x y : Bool) → (x && y) ≡ true → x ≡ true
and_left true y h = refl
and_left false y h = h

and_right : (x y : Bool) → (x && y) ≡ true → y ≡ true
and_right true y h = h
and_right false y h = absurd (false≢true h)

-- ---- along a list

along-top : (e : Entries) (l : List ℕ) (n : ℕ) → leb (along e l).top n ≡ (leb e.top n && all_below n l)
unfolding along added all_below
along-top e [] n = sym (right (leb e.top n))
along-top e (v ∷ l) n = along-top (added v e) l n ∙ ap (λ (x : Bool). x && all_below n l) (step (ltb v e.top) refl)
    ∙ assoc (leb e.top n) (ltb v n) (all_below n l)
  where
    both : (x : Bool) → leb e.top n ≡ x → v < e.top → x ≡ (x && ltb v n)
    both true p h = sym (lt-ltb v n (omega (arith, leb-true e.top n p)))
    both false p h = refl

    last : (x : Bool) → ltb v n ≡ x → e.top ≤ v → x ≡ (leb e.top n && x)
    last true p h = sym (ap (λ (y : Bool). y && true) (le-leb e.top n (omega (arith, ltb-true v n p))))
    last false p h = sym (and-false (leb e.top n))

    step : (x : Bool) → ltb v e.top ≡ x → leb (cond x e.top (v + 1)) n ≡ (leb e.top n && ltb v n)
    step true p = both (leb e.top n) refl (ltb-true v e.top p)
    step false p = ap (λ (m : ℕ). leb m n) (add-one v) ∙ last (ltb v n) refl (ltb-false v e.top p)

along-count : (e : Entries) (l : List ℕ) → (along e l).count ≡ e.count + length l
unfolding along added
along-count e [] = omega arith
along-count e (n ∷ l) = along-count (added n e) l ∙ omega arith

along-falls : (e : Entries) (l : List ℕ) → not (along e l).falls ≡ (not e.falls && rising e.top l)
unfolding along added rising
along-falls e [] = sym (right (not e.falls))
along-falls e (v ∷ l) = along-falls (added v e) l ∙ step (ltb v e.top) refl
  where
    step : (x : Bool) → ltb v e.top ≡ x → (not (cond x true e.falls) && rising (cond x e.top (v + 1)) l)
        ≡ (not e.falls && (leb e.top v && rising (suc v) l))
    step true p = sym (and-false (not e.falls))
        ∙ ap (λ (y : Bool). not e.falls && (y && rising (suc v) l)) (sym (lt-leb e.top v (ltb-true v e.top p)))
    step false p = ap (λ (m : ℕ). not e.falls && rising m l) (add-one v)
        ∙ ap (λ (y : Bool). not e.falls && (y && rising (suc v) l))
        (sym (le-leb e.top v (ltb-false v e.top p)))

along-mask : (w : ℕ) → w ≤ 64 → (e : Entries) (l : List ℕ) → all_below w l ≡ true
    → (along e l).mask ≡ masked w e.mask l
unfolding along added all_below masked
along-mask w h e [] b = refl
along-mask w h e (v ∷ l) b =
    let small = ltb-true v w (and_left (ltb v w) (all_below w l) b) in
    along-mask w h (added v e) l (and_right (ltb v w) (all_below w l) b)
    ∙ ap (λ (m : ℕ). masked w (bit_or e.mask m) l)
    (ap bit (omega (arith, h, small)) ∙ sym (ap (λ (x : Bool). cond x (bit v) 0) (lt-ltb v w small)))

-- an entry below the bound is below a wider one
below_wider : (m n : ℕ) (l : List ℕ) → m ≤ n → all_below m l ≡ true → all_below n l ≡ true
unfolding all_below
below_wider m n [] h e = refl
below_wider m n (v ∷ l) h e =
    let small = ltb-true v m (and_left (ltb v m) (all_below m l) e) in
    ap (λ (y : Bool). y && all_below n l) (lt-ltb v n (omega (arith, h, small)))
    ∙ below_wider m n l h (and_right (ltb v m) (all_below m l) e)

-- ---- a whole list

top-is : (l : List ℕ) (n : ℕ) → leb (along no_entries l).top n ≡ all_below n l
top-is l n = along-top no_entries l n ∙ ap (λ (x : Bool). x && all_below n l) (le-leb 0 n (omega arith))

count-is : (l : List ℕ) → (along no_entries l).count ≡ length l
count-is l = along-count no_entries l ∙ omega arith

fits-is : (l : List ℕ) → entries_fit (along no_entries l) ≡ list_fits l
unfolding entries_fit list_fits
fits-is l = ap₂ (λ (x y : Bool). x && y) (ap (λ (n : ℕ). leb n 8) (count-is l)) (along-falls no_entries l)

-- the mask of places below the count
places-mask : (count : ℕ) (l : List ℕ) → count ≤ 64 → all_below count l ≡ true
    → (along no_entries l).mask ≡ masked 64 0 l
places-mask count l few b = along-mask 64 (omega arith) no_entries l (below_wider count 64 l few b)

-- ---- a start line

module _ (e : Entries) (l : List ℕ) (is : e ≡ along no_entries l) where
  pub start_fits : (count : ℕ) → leb e.top count ≡ all_below count l
  start_fits count = ap (λ (x : Entries). leb x.top count) is ∙ top-is l count

  pub start-rises : not e.falls ≡ rising 0 l
  start-rises = ap (λ (x : Entries). not x.falls) is ∙ along-falls no_entries l

  pub start-mask : (count : ℕ) → count ≤ 64 → all_below count l ≡ true → e.mask ≡ masked 64 0 l
  start-mask count few b = ap (λ (x : Entries). x.mask) is ∙ places-mask count l few b

-- ---- a step's line

module _ (r : StepLine) (f : Form) (h : IsForm r f) where
  pub fits-form : (v : Version) (places : ℕ) → line_fits v places r ≡ form_fits v places f
  unfolding line_fits form_fits
  fits-form v places =
      ap₂ (λ (x y : Bool). x && y) (ap (name_fits v) h.name)
      (ap₂ (λ (x y : Bool). x && y) (ap (λ (e : Entries). leb e.top places) h.ins ∙ top-is f.ins places)
      (ap₂ (λ (x y : Bool). x && y) (ap (λ (e : Entries). leb e.top places) h.outs ∙ top-is f.outs places)
      (ap₂ (λ (x y : Bool). x && y) (ap (λ (e : Entries). leb e.top 32) h.reads ∙ top-is f.reads 32)
      (ap (λ (e : Entries). leb e.top 32) h.writes ∙ top-is f.writes 32))))

  pub lists-form : line_lists r ≡ form_lists f
  unfolding line_lists form_lists
  lists-form =
      ap₂ (λ (x y : Bool). not x && y) (ap (λ (e : Entries). eqb e.count 0) h.ins
      ∙ ap (λ (n : ℕ). eqb n 0) (count-is f.ins))
      (ap₂ (λ (x y : Bool). not x && y) (ap (λ (e : Entries). eqb e.count 0) h.outs
      ∙ ap (λ (n : ℕ). eqb n 0) (count-is f.outs))
      (ap₂ (λ (x y : Bool). x && y) (ap entries_fit h.ins ∙ fits-is f.ins)
      (ap₂ (λ (x y : Bool). x && y) (ap entries_fit h.outs ∙ fits-is f.outs)
      (ap₂ (λ (x y : Bool). x && y) (ap entries_fit h.reads ∙ fits-is f.reads)
      (ap entries_fit h.writes ∙ fits-is f.writes)))))

  pub step-form : (v : Version) (places : ℕ) → Limits v → places ≤ 64 → form_fits v places f ≡ true
      → record {
        name = r.name % 4294967296;
        cloth = r.cloth;
        ins = r.ins.mask;
        outs = r.outs.mask;
        reads = r.reads.mask % 4294967296;
        writes = r.writes.mask % 4294967296;
      } ≡ record_of f
  unfolding form_fits record_of
  step-form v places limits few fits =
      let rest = and_right (name_fits v f.name) _ fits in
      let rest₁ = and_right (all_below places f.ins) _ rest in
      let rest₂ = and_right (all_below places f.outs) _ rest₁ in
      let ins = places-mask places f.ins few (and_left (all_below places f.ins) _ rest) in
      let outs = places-mask places f.outs few (and_left (all_below places f.outs) _ rest₁) in
      let reads = vars-mask f.reads (and_left (all_below 32 f.reads) _ rest₂) in
      let writes = vars-mask f.writes (and_right (all_below 32 f.reads) _ rest₂) in
      let name : r.name % 4294967296 ≡ f.name =
      omega (arith, name-stored v limits f.name (and_left (name_fits v f.name) _ fits), h.name) in
      λ j. record {
        name = name j;
        cloth = h.cloth j;
        ins = (ap (λ (e : Entries). e.mask) h.ins ∙ ins) j;
        outs = (ap (λ (e : Entries). e.mask) h.outs ∙ outs) j;
        reads = (ap (λ (e : Entries). e.mask % 4294967296) h.reads ∙ reads) j;
        writes = (ap (λ (e : Entries). e.mask % 4294967296) h.writes ∙ writes) j;
      }
    where
      vars-mask : (l : List ℕ) → all_below 32 l ≡ true → (along no_entries l).mask % 4294967296 ≡ masked 32 0 l
      vars-mask l b =
          let small : masked 32 0 l < 4294967296 = masked_below 32 0 l (lit< tt) in
          ap (λ (n : ℕ). n % 4294967296) (along-mask 32 (omega arith) no_entries l b) ∙ omega arith
