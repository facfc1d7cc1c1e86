-- The last putters by place: one more occurrence is the last putter of each place where it puts a token, and of no
-- other.
use mathlib.Core.Path.{◌≡◌, refl, sym, ap, ap₂, ◌∙◌}
use mathlib.Core.Bool.{Bool, true, false, not, cond, ◌&&◌, ◌||◌, and-true, and-false, or-false}
use mathlib.Core.List.{List, [], ◌∷◌}
use Prim.Native.Nat.{ℕ, zero, suc, ◌+◌, ◌-◌, ◌<◌}
use native.Mathlib.Omega.{arith}
use native.Mathlib.Decide.{dec_lt}
use native.Mathlib.Numerals.{add-one}
use lib.Dec.{eqb, ltb}
use lib.ListN.{length, take, drop, get_or}
use lib.Seq.{get_or-drop}
use borrow.Author.Tests.{eq-eqb, ne_eqb, lt-ltb, le-ltb}
use Rattle.mask.specs.Mask.{has, bit, collect}
use Rattle.mask.proofs.Laws.{has-or, has-zero, has-ext, has-bit, has-without, has-collect, collect-miss, collect-same}
use Rattle.route.specs.Steps.{blank, union}
use Rattle.route.specs.declared.Step.{Step}
use Rattle.precedence.specs.Precedence.{puts_until}
use Rattle.precedence.specs.inner.ByItem.{ByItem, Puts}
use Rattle.precedence.proofs.Changing.{Putting, changed}

abbrev puts : Step → ℕ
puts s = s.outs

-- one step more in the union of the first n
union-take : (p n : ℕ) (l : List Step)
    → has (union puts (take (suc n) l)) p ≡ (has (union puts (take n l)) p || has (get_or l n blank).outs p)
unfolding union
union-take p zero [] = has-zero p ∙ ap₂ (λ (a b : Bool). a || b) (sym (has-zero p)) (sym (has-zero p))
union-take p (suc n) [] = has-zero p ∙ ap₂ (λ (a b : Bool). a || b) (sym (has-zero p)) (sym (has-zero p))
union-take p zero (s ∷ l) =
    has-or s.outs 0 p ∙ ap (λ (t : Bool). has s.outs p || t) (has-zero p) ∙ or-false (has s.outs p)
    ∙ ap (λ (t : Bool). t || has s.outs p) (sym (has-zero p))
union-take p (suc n) (s ∷ l) =
    has-or s.outs (union puts (take (suc n) l)) p
    ∙ ap (λ (t : Bool). has s.outs p || t) (union-take p n l)
    ∙ assoc (has s.outs p) (has (union puts (take n l)) p) (has (get_or l n blank).outs p)
    ∙ ap (λ (t : Bool). t || has (get_or l n blank).outs p) (sym (has-or s.outs (union puts (take n l)) p))
  where
    assoc : (a b c : Bool) → (a || (b || c)) ≡ ((a || b) || c)
    assoc true b c = refl
    assoc false b c = refl

module _ (l : List Step) (p : ℕ) where
  between : ℕ → ℕ → Bool
  between i j = has (union puts (take (i - suc j) (drop (suc j) l))) p

  pub puts-until-has : (i j : ℕ) → has (puts_until l i j) p
      ≡ (has (get_or l j blank).outs p && not (has (union puts (take (i - suc j) (drop (suc j) l))) p))
  unfolding puts_until
  puts-until-has i j = has-without (get_or l j blank).outs (union puts (take (i - suc j) (drop (suc j) l))) p

  -- the last occurrence so far has put what it put
  pub puts-last : (i : ℕ) → has (puts_until l (suc i) i) p ≡ has (get_or l i blank).outs p
  unfolding union
  puts-last i =
      puts-until-has (suc i) i
      ∙ ap (λ (t : Bool). has (get_or l i blank).outs p && not t)
      (ap (λ (n : ℕ). has (union puts (take n (drop (suc i) l))) p) none ∙ has-zero p)
      ∙ and-true (has (get_or l i blank).outs p)
    where
      none : suc i - suc i ≡ 0
      none = omega arith

  -- and of the earlier ones what it did not put again stands
  pub puts-on : (i j : ℕ) → j < i → has (puts_until l (suc i) j) p
      ≡ (has (puts_until l i j) p && not (has (get_or l i blank).outs p))
  puts-on i j h =
      puts-until-has (suc i) j
      ∙ ap (λ (t : Bool). has (get_or l j blank).outs p && not t)
      (ap (λ (n : ℕ). has (union puts (take n (drop (suc j) l))) p) more
      ∙ union-take p (i - suc j) (drop (suc j) l)
      ∙ ap (λ (s : Step). has (union puts (take (i - suc j) (drop (suc j) l))) p || has s.outs p)
      (get_or-drop (suc j) l (i - suc j) blank ∙ ap (λ (n : ℕ). get_or l n blank) here))
      ∙ table (has (get_or l j blank).outs p) (has (union puts (take (i - suc j) (drop (suc j) l))) p)
      (has (get_or l i blank).outs p)
      ∙ ap (λ (t : Bool). t && not (has (get_or l i blank).outs p)) (sym (puts-until-has i j))
    where
      more : suc i - suc j ≡ suc (i - suc j)
      more = omega arith

      here : suc j + (i - suc j) ≡ i
      here = omega arith

      table : (a b c : Bool) → (a && not (b || c)) ≡ ((a && not b) && not c)
      table true true c = refl
      table true false c = refl
      table false b c = refl

-- one more occurrence at the places where it puts a token
pub putting-done : (by₀ by : List ℕ) (places own left : ℕ) → length by ≡ length by₀ → left ≡ 0
    → Putting by₀ places own left by → Puts by₀ places own by
putting-done by₀ by places own left same e inv = record { more = more }
  where
    more : (l : List Step) (n : ℕ) → ByItem 64 (puts_until l n) n by₀ → places ≡ (get_or l n blank).outs → own ≡ bit n
        → ByItem 64 (puts_until l (n + 1)) (n + 1) by
    more l n is all one =
        record {
          room = same ∙ is.room;
          entry = λ v b. changed 64 (λ (x : ℕ). own) by₀ by places left e is.room inv v b ∙ go v b (has places v) refl
              ∙ ap (λ (k : ℕ). collect (λ (j : ℕ). has (puts_until l k j) v) (n + 1)) (sym (add-one n));
        }
      where
        out : (v : ℕ) (t : Bool) → has places v ≡ t → has (get_or l n blank).outs v ≡ t
        out v t h = ap (λ (x : ℕ). has x v) (sym all) ∙ h

        alone : (v j : ℕ) → has (get_or l n blank).outs v ≡ true
            → eqb j n ≡ (ltb j (n + 1) && has (puts_until l (suc n) j) v)
        alone v j h = cases (dec_lt j n) (dec_lt n j)
          where
            cases : Dec (j < n) → Dec (n < j) → eqb j n ≡ (ltb j (n + 1) && has (puts_until l (suc n) j) v)
            cases (yes a) c = ne_eqb j n (omega (arith, a))
                ∙ sym (ap (λ (t : Bool). ltb j (n + 1) && t)
                (puts-on l v n j a ∙ ap (λ (t : Bool). has (puts_until l n j) v && not t) h
                ∙ and-false (has (puts_until l n j) v))
                ∙ and-false (ltb j (n + 1)))
            cases (no a) (yes c) = ne_eqb j n (omega (arith, c))
                ∙ sym (ap (λ (t : Bool). t && has (puts_until l (suc n) j) v) (le-ltb j (n + 1) (omega (arith, c))))
            cases (no a) (no c) =
                let here : j ≡ n = omega arith in
                eq-eqb j n here
                ∙ sym (ap₂ (λ (t u : Bool). t && u) (lt-ltb j (n + 1) (omega (arith, here)))
                (ap (λ (k : ℕ). has (puts_until l (suc n) k) v) here ∙ puts-last l v n ∙ h))

        go : (v : ℕ) → v < 64 → (t : Bool) → has places v ≡ t
            → cond t own (get_or by₀ v 0) ≡ collect (λ (j : ℕ). has (puts_until l (suc n) j) v) (n + 1)
        go v b true h =
            has-ext own (collect (λ (j : ℕ). has (puts_until l (suc n) j) v) (n + 1))
            (λ j. ap (λ (x : ℕ). has x j) one ∙ has-bit n j ∙ alone v j (out v true h)
            ∙ sym (has-collect (λ (j : ℕ). has (puts_until l (suc n) j) v) (n + 1) j))
        go v b false h =
            is.entry v b
            ∙ collect-same (λ (j : ℕ). has (puts_until l n j) v) (λ (j : ℕ). has (puts_until l (suc n) j) v) n
            (λ j a. sym (puts-on l v n j a ∙ ap (λ (t : Bool). has (puts_until l n j) v && not t) (out v false h)
            ∙ and-true (has (puts_until l n j) v)))
            ∙ collect-miss (λ (j : ℕ). has (puts_until l (suc n) j) v) n _ refl (puts-last l v n ∙ out v false h)
