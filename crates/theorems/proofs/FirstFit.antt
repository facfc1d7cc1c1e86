-- What the search finds is the first fit list of the kept. The lists of candidates that it may find are those whose
-- positions are a fit list, and candidates keep the dictionary order of their positions.
use mathlib.Core.Path.{◌≡◌, refl, sym, ap, ◌∙◌}
use mathlib.Core.Logic.{inr}
use mathlib.Core.Bool.{Bool, true, false, cond, true≢false}
use mathlib.Core.List.{List, map}
use mathlib.Core.Option
use mathlib.Core.Option.{Option, none, some, none-ne-some, some-ne-none}
use mathlib.Core.Option.{some-injective}
use Prim.Native.Nat.{ℕ, ◌+◌, ◌≤◌, ◌<◌}
use native.Mathlib.Omega.{arith}
use native.Mathlib.Decide.{dec_lt}
use lib.ListN.{length, get_or, length-map}
use Rattle.mask.specs.Mask.{has, members, count}
use Rattle.mask.proofs.Laws.{has-zero}
use Rattle.route.specs.declared.Step.{Step}
use Rattle.precedence.specs.Order.{times, EachOnce}
use Rattle.search.specs.Search.{is_some, search}
use Rattle.matching.specs.Straight.{same_step, fire_all, steps_on}
use Rattle.matching.specs.Fit.{kept_of, KeptFit}
use Rattle.search.specs.Dictionary.{NotAfter}
use Rattle.candidates.specs.Placing.{place_next}
use Rattle.candidates.specs.FirstFit.{first_of, first_fit}
use Rattle.search.proofs.Finds.{Allowed, search-sound, search-complete, search-least}
use Rattle.precedence.proofs.Times.{each_once-has, has-each_once}
use Rattle.theorems.proofs.Entries.{all_of-steps_on-intro}
use Rattle.mask.proofs.Count.{one, count_none, count-full}
use Rattle.mask.proofs.Members.{members-rise}
use Rattle.precedence.proofs.EachOnce.{marks, fresh, fresh-times, fresh-count, length-each_once}
use Rattle.theorems.proofs.KeptRows.{KeptPass, kept-short, all-kept}
use Rattle.theorems.proofs.FitList.{fit-fires}
use Rattle.theorems.proofs.Dictionary.{not_after-map}
use Rattle.theorems.proofs.Candidates.{Below, entry_at, at_entry, map-entry, times-at, find_at}
use Rattle.theorems.proofs.Placed.{allowed-placed, placed-allowed}

map-some : {A B : Type 0} (f : A → B) (q : Option A) (b : B) → Option.map f q ≡ some b
    → (a : A) × (q ≡ some a) × (b ≡ f a)
map-some f none b e = absurd (none-ne-some b e)
map-some f (some a) b e = (a, refl, some-injective b (f a) (sym e))

module _ (from : ℕ) (new l : List Step) (short : length l ≤ 64) where
  -- the candidates
  abbrev ks : List ℕ
  ks = members 64 (kept_of new l)

  abbrev at : ℕ → ℕ
  at k = get_or ks k 0

  abbrev found : Option (List ℕ)
  found = search (place_next new l ks) (length ks) (length ks) 0 from

  kept_at : (k : ℕ) → k < length ks → has (kept_of new l) (at k) ≡ true
  kept_at k h = each_once-has (kept_of new l) ks (all-kept new l short) (at k) (entry_at ks k h)

  at-kept : (i : ℕ) → has (kept_of new l) i ≡ true → (k : ℕ) × (k < length ks) × (at k ≡ i)
  at-kept i h = at_entry ks i (has-each_once (kept_of new l) ks (all-kept new l short) i h)

  -- as many new candidates as there are: each stands once
  all_once : (o : List ℕ) → Below (length ks) o → fresh 0 o ≡ true → length o ≡ length ks
      → EachOnce (kept_of new l) (map at o)
  all_once o b f e i = go (has (kept_of new l) i) refl
    where
      each : (k : ℕ) → k < length ks → times k o ≡ 1
      each k h =
          let full : has (marks 0 o) k ≡ true = count-full (length ks) (marks 0 o)
          (omega (arith, fresh-count (length ks) o 0 f b, count_none (length ks))) k h in
          let own : one (has (marks 0 o) k) ≡ 1 = rw full in
          let zero : one (has 0 k) ≡ 0 = rw (has-zero k) in
          omega (arith, fresh-times o 0 f k)

      none : has (kept_of new l) i ≡ false → Dec (0 < times i (map at o)) → times i (map at o) ≡ 0
      none h (yes n) = let (x, m, is) = map-entry at o i n in absurd
          (true≢false (sym (kept_at x (b x m)) ∙ ap (has (kept_of new l)) is ∙ h))
      none h (no n) = omega arith

      go : (t : Bool) → has (kept_of new l) i ≡ t → times i (map at o) ≡ cond t 1 0
      go true h = let (k, low, is) = at-kept i h in rw (← is)
          (times-at ks (members-rise 64 (kept_of new l)) o b k low ∙ each k low)
      go false h = none h (dec_lt 0 (times i (map at o)))

  pub first_fits : KeptPass from new l → (p : List ℕ) → first_fit from new l ≡ some p → KeptFit from new l p
  unfolding first_fit first_of is_some
  first_fits pass p e =
      let (o, f, is) = map-some (map at) found p e in
      let (a, len) = search-sound (place_next new l ks) (length ks) (length ks) 0 from o f in
      let r = allowed-placed new l ks (members-rise 64 (kept_of new l)) a in
      let c = all_once o r.low r.each len in
      rw is (record {
        once = c;
        order = r.order;
        same = all_of-steps_on-intro (same_step new) l (map at o)
            (λ i n. pass.same i (each_once-has (kept_of new l) (map at o) c i n));
        fires = rw r.fires;
        limit =
            pass.limit;
      })

  -- a fit list of the kept is that of a list of candidates, which the search may find
  record Found (q : List ℕ) : Type 0 where
    list : List ℕ
    is : q ≡ map at list
    low : Below (length ks) list
    allowed : Allowed (place_next new l ks) (length ks) 0 from list
    whole : length list ≡ length ks

  may-find : (q : List ℕ) → KeptFit from new l q → Found q
  unfolding count
  may-find q k =
      let up = members-rise 64 (kept_of new l) in
      let (c, is, low) = find_at ks up q (λ i n. omega (arith, k.once i, all-kept new l short i)) in
      let rest : (v : ℕ) → v < length ks → one (has 0 v) + times v c ≡ 1 =
      λ v h. rest_of c (rw is at k.once) low v h in
      record {
        list = c;
        is = is;
        low = low;
        allowed = placed-allowed new l ks up c 0 from _ low rest (rw is at k.order)
            (ap (λ (o : List ℕ). fire_all new from (steps_on l o)) (sym is) ∙ fit-fires from new l q (inr k));
        whole = omega (
          arith,
          length-each_once 64 (kept_of new l) q (λ i h. omega (arith, kept-short new l i h))
              k.once,
          ap length is,
          length-map c at,
        );
      }
    where
      rest_of : (c : List ℕ) → EachOnce (kept_of new l) (map at c) → Below (length ks) c → (v : ℕ) → v < length ks
          → one (has 0 v) + times v c ≡ 1
      rest_of c once low v h =
          let own : times (at v) (map at c) ≡ 1 = once (at v) ∙ rw (kept_at v h) in
          rw (has-zero v) (omega (arith, times-at ks (members-rise 64 (kept_of new l)) c low v h))

  -- no fit list of the kept stands before what is found, and where nothing is found there is none
  pub first-least : (p : List ℕ) → first_fit from new l ≡ some p → (q : List ℕ) → KeptFit from new l q → NotAfter p q
  unfolding first_fit first_of
  first-least p e q k =
      let (o, f, is) = map-some (map at) found p e in
      let r = may-find q k in
      let least : NotAfter o r.list = search-least (place_next new l ks) (length ks) o r.allowed (rw r.whole f)
      in
      rw (is, r.is) (not_after-map at (λ x y h n. members-rise 64 (kept_of new l) x y h (r.low y n)) least)

  pub first-none : first_fit from new l ≡ none → (q : List ℕ) → KeptFit from new l q → ⊥
  unfolding first_fit first_of
  first-none e q k =
      let r = may-find q k in
      let (o, f) = search-complete (place_next new l ks) (length ks) r.allowed in
      some-ne-none (map at o) (sym (ap (Option.map (map at)) (rw r.whole at f)) ∙ e)
