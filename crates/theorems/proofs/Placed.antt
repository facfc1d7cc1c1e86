-- A list of candidates is allowed in turn exactly when each is new and their positions are in order and fire: a
-- candidate may be put next when all that it comes after are placed, and what is placed is what stands before it.
use mathlib.Core.Path.{◌≡◌, refl, sym, ap, ap₂, ◌∙◌}
use mathlib.Core.Bool.{Bool, true, false, not, cond, ◌&&◌, false≢true}
use mathlib.Core.List.{List, [], ◌∷◌, map}
use mathlib.Core.Option.{Option, none, some, none-ne-some, some-injective}
use Prim.Native.Nat.{ℕ, ◌+◌, ◌<◌}
use native.Mathlib.Omega.{arith}
use native.Mathlib.Decide.{dec_lt}
use lib.Dec.{ltb}
use lib.ListN.{length, get_or}
use lib.Bits.{bit_or}
use borrow.Author.Tests.{not-true, ltb-true, lt-ltb}
use Rattle.mask.specs.Mask.{has, bit, within}
use Rattle.mask.proofs.Laws.{has-collect, within_all, all-within}
use Rattle.mask.proofs.Truth.{both}
use Rattle.route.specs.Steps.{blank, lookup}
use Rattle.route.specs.Firing.{fire, if_fires, fire_next}
use Rattle.route.specs.declared.Step.{Step}
use Rattle.route.proofs.IfFires.{if_fires-can, if_fires-elim}
use Rattle.precedence.specs.Precedence.{comes_after}
use Rattle.precedence.specs.Order.{times, none_of, in_order}
use Rattle.matching.specs.Straight.{fire_all, steps_on}
use Rattle.candidates.specs.Placing.{before, place_next}
use Rattle.search.proofs.Finds.{Allowed, done, then}
use Rattle.precedence.proofs.Times.{times-head, times-cons-elim}
use Rattle.theorems.proofs.Entries.{none_of-elim, none_of-intro, in_order-cons}
use Rattle.precedence.proofs.Rows.{not_after}
use Rattle.mask.proofs.Count.{one, one-some, one_same, has_more, one_more}
use Rattle.mask.proofs.Members.{Rises}
use Rattle.precedence.proofs.EachOnce.{fresh, fresh-out}
use Rattle.theorems.proofs.Fires.{fire_all-cons}
use Rattle.theorems.proofs.Candidates.{Below, map-entry, times-at}

-- firing next, and firing in turn
next-fires : (m m' : ℕ) (q : Option Step) (next : ℕ → Option ℕ) → fire_next m q ≡ some m'
    → if_fires m q none none (λ s. next) ≡ next m'
next-fires m m' q next e =
    let f = if_fires-elim (λ (r : Option ℕ). r ≡ some m') m q none none _ (none-ne-some m')
    (none-ne-some m') e in
    if_fires-can m q none none _ f.step f.there f.can
    ∙ ap next (some-injective (fire m f.step) m' f.onward)

module _ (new l : List Step) (ks : List ℕ) (up : Rises ks) where
  abbrev at : ℕ → ℕ
  at k = get_or ks k 0

  abbrev step_of : ℕ → Option Step
  step_of k = lookup (get_or l (at k) blank).name new

  -- the candidates that k comes after
  has-before : (k v : ℕ) → has (before l ks k) v ≡ (ltb v (length ks) && comes_after l (at k) (at v))
  unfolding before
  has-before k v = has-collect (λ (j : ℕ). comes_after l (at k) (at j)) (length ks) v

  record Next (placed m k m' : ℕ) : Type 0 where
    fresh-one : has placed k ≡ false
    after : within (before l ks k) placed ≡ true
    fires : fire_next m (step_of k) ≡ some m'

  next_one : (placed m k m' : ℕ) → place_next new l ks placed m k ≡ some m' → Next placed m k m'
  unfolding place_next
  next_one placed m k m' e = go (not (has placed k) && within (before l ks k) placed) refl e
    where
      go : (t : Bool) → (not (has placed k) && within (before l ks k) placed) ≡ t
          → cond t (fire_next m (step_of k)) none ≡ some m' → Next placed m k m'
      go true h e = let (a, b) = both (not (has placed k)) (within (before l ks k) placed) h in record
          { fresh-one = not-true (has placed k) a; after = b; fires = e }
      go false h e = absurd (none-ne-some m' e)

  one-next : (placed m k m' : ℕ) → Next placed m k m' → place_next new l ks placed m k ≡ some m'
  unfolding place_next
  one-next placed m k m' r = rw (r.fresh-one, r.after) r.fires

  -- what an allowed list has
  pub record Placed (placed m : ℕ) (o : List ℕ) : Type 0 where
    pub low : Below (length ks) o
    pub each : fresh placed o ≡ true
    pub order : in_order l (map at o) ≡ true
    pub end : ℕ
    pub fires : fire_all new m (steps_on l (map at o)) ≡ some end

  -- none of those that stand after k are placed when k is, so k comes after none of them
  none_after : (placed m k m' : ℕ) (o : List ℕ) → Next placed m k m' → Below (length ks) o
      → fresh (bit_or placed (bit k)) o ≡ true → none_of (comes_after l (at k)) (map at o) ≡ true
  none_after placed m k m' o r b f = none_of-intro (comes_after l (at k)) (map at o)
      (λ i n. let (x, h, e) = map-entry at o i n in rw (← e) (go x h (comes_after l (at k) (at x)) refl))
    where
      go : (x : ℕ) → 0 < times x o → (t : Bool) → comes_after l (at k) (at x) ≡ t → t ≡ false
      go x h true e =
          let inside : has (before l ks k) x ≡ true = has-before k x ∙ rw (lt-ltb x (length ks) (b x h), e) in
          let own : has placed x ≡ true = within_all (before l ks k) placed r.after x inside in
          let more : has (bit_or placed (bit k)) x ≡ true = has_more placed k x ∙ rw own in
          sym more ∙ fresh-out o (bit_or placed (bit k)) f x h
      go x h false e = refl

  pub allowed-placed : {placed m : ℕ} {o : List ℕ} → Allowed (place_next new l ks) (length ks) placed m o
      → Placed placed m o
  unfolding fresh in_order fire_all steps_on times
  allowed-placed {placed} {m} done = record {
    low = λ k n. absurd (omega arith);
    each = refl;
    order = refl;
    end = m;
    fires = refl;
  }
  allowed-placed {placed} {m} (then {k = k} {m' = m'} {o = o} low a r) =
      let p = allowed-placed r in
      let s = next_one placed m k m' a in
      record {
        low = times-cons-elim (λ x. x < length ks) k o low p.low;
        each = rw s.fresh-one p.each;
        order = ap₂ (λ (x y : Bool). x && y) (none_after placed m k m' o s p.low p.each) p.order;
        end = p.end;
        fires = next-fires m m' (step_of k) (λ m''. fire_all new m'' (steps_on l (map at o))) s.fires ∙ p.fires;
      }

  -- all that are not placed stand in the list
  abbrev Rest : ℕ → List ℕ → Type 0
  Rest placed q = (k : ℕ) → k < length ks → one (has placed k) + times k q ≡ 1

  -- those that k comes after don't stand after it, so they are placed
  all-before : (placed k : ℕ) (q : List ℕ) → Below (length ks) q → Rest placed (k ∷ q)
      → none_of (comes_after l (at k)) (map at q) ≡ true → within (before l ks k) placed ≡ true
  all-before placed k q b rest h = all-within (before l ks k) placed
      (λ v e. let (a, c) = both (ltb v (length ks)) (comes_after l (at k) (at v)) (sym (has-before k v) ∙ e) in go v
      (ltb-true v (length ks) a) c (dec_lt 0 (times v (k ∷ q))))
    where
      none : (v : ℕ) → 0 < times v (k ∷ q) → comes_after l (at k) (at v) ≡ false
      none = times-cons-elim (λ v. comes_after l (at k) (at v) ≡ false) k q (not_after l (at k) (at k) (omega arith))
          (λ v n. none_of-elim (comes_after l (at k)) (map at q) h (at v) (rw (times-at ks up q b v (b v n)) n))

      go : (v : ℕ) → v < length ks → comes_after l (at k) (at v) ≡ true → Dec (0 < times v (k ∷ q)) → has placed v ≡ true
      go v a c (yes n) = absurd (false≢true (sym (none v n) ∙ c))
      go v a c (no n) = one-some (has placed v) (omega (arith, rest v a))

  pub placed-allowed : (q : List ℕ) (placed m e : ℕ) → Below (length ks) q → Rest placed q
      → in_order l (map at q) ≡ true → fire_all new m (steps_on l (map at q)) ≡ some e
      → Allowed (place_next new l ks) (length ks) placed m q
  unfolding fire_all steps_on times
  placed-allowed [] placed m e b rest h f = done
  placed-allowed (k ∷ q) placed m e b rest h f =
      let (n, i) = in_order-cons l (at k) (map at q) h in
      let r = fire_all-cons new m e (get_or l (at k) blank) (steps_on l (map at q)) f in
      let low : k < length ks = b k (times-head k (times k q)) in
      let below : Below (length ks) q = λ x c. b x (omega arith) in
      let out : has placed k ≡ false = one_same (has placed k) false
      (omega (arith, rest k low, times-head k (times k q))) in
      let s : Next placed m k (fire m r.step) =
      record {
        fresh-one = out;
        after = all-before placed k q below rest n;
        fires = if_fires-can m (step_of k) none none _ r.step r.there r.can;
      } in
      then low (one-next placed m k (fire m r.step) s)
      (placed-allowed q (bit_or placed (bit k)) (fire m r.step) e below
      (λ v c. omega (arith, rest v c, one_more placed k v out)) i r.onward)
