-- The entries of an edition and a later target: the route of a number is the one at its position.
use mathlib.Core.Path.{◌≡◌, refl, sym, ap, ap₂, subst, ◌∙◌}
use mathlib.Core.Bool.{Bool, true, false, not, cond, ◌&&◌}
use mathlib.Core.List.{List}
use mathlib.Core.Option as maybe
use Prim.Native.Nat.{ℕ, ◌≤◌, ◌<◌}
use native.Mathlib.Omega.{arith}
use borrow.Author.Tests.{lt-ltb, le-ltb}
use lib.Dec.{ltb, leb}
use lib.ListN.{length, take, get_or}
use lib.Seq.{get_or-take, length-take-le}
use Rattle.std.specs.Prelude.{Option, Some, None, if◌then◌else◌}
use Rattle.std.specs.Option.{option_zip}
use Rattle.mask.proofs.Truth.{cond_yes, cond_no}
use Rattle.lookup.specs.Position.{position}
use Rattle.lookup.proofs.Position.{position-below, found_at, found_nowhere}
use Rattle.route.specs.declared.Route.{Route}
use Rattle.job.specs.Job.{Job, job_of}
use Rattle.shelf.specs.Shelf.{no_edition, editions_of, numbers_in, rise, route_of}
use Rattle.shelf.specs.Judge.{job_of_routes, job_between}
use Rattle.shelf.specs.inner.Entries.{entries_in}
use Rattle.shelf.specs.declared.Edition.{Edition}
use Rattle.shelf.specs.declared.Shelf.{Shelf}
use Rattle.shelf.proofs.GoodShelf.{numbers-are, good-few}
use Rattle.shelf.proofs.Numbers.{length-numbers}

-- ---- the route of a number is the one at its position

route-at : (n : ℕ) (l : List Edition) (k : ℕ) (d : Edition) → position n (numbers_in l) ≡ Some k
    → route_of n l ≡ maybe.some (get_or l k d).route
unfolding route_of numbers_in
route-at n l k d = found_at (λ e. e.number) (λ e. e.route) route_of (λ n. refl) (λ n e l. refl) n l d k

route-none : (n : ℕ) (l : List Edition) → position n (numbers_in l) ≡ None → route_of n l ≡ maybe.none
unfolding route_of numbers_in
route-none n l = found_nowhere (λ e. e.number) (λ e. e.route) route_of (λ n. refl) (λ n e l. refl) n l no_edition

-- ---- the numbers stored, and where the two stand

module _ (s : Shelf) (edition target : ℕ) (v : List ℕ) (are : v ≡ numbers_in s.editions)
    (full : length s.editions ≡ 8) (t : Bool) (test : t ≡ (leb s.len (length v) && rise 0 (take s.len v)))
    (ok : not t ≡ false) where
  stored : (n : ℕ) (f : Option ℕ) → position n (take s.len v) ≡ f → position n (numbers_in (editions_of s)) ≡ f
  stored n f e = ap (position n) (sym (numbers-are s v are full)) ∙ e

  few : s.len ≤ length v
  few = good-few s v are full t test ok

  within : (n k : ℕ) → position n (take s.len v) ≡ Some k → k < s.len
  within n k e = omega (arith, position-below n (take s.len v) k e, length-take-le s.len v few)

  inside : (n k : ℕ) → position n (take s.len v) ≡ Some k → k < 8
  inside n k e = omega (arith, within n k e, few, ap length are, length-numbers s.editions, full)

  stored-at : (n k : ℕ) (d : Edition) → position n (take s.len v) ≡ Some k
      → route_of n (editions_of s) ≡ maybe.some (get_or s.editions k d).route
  stored-at n k d e =
      route-at n (editions_of s) k d (stored n (Some k) e)
      ∙ ap (λ (x : Edition). maybe.some x.route) (get_or-take s.len s.editions k d (within n k e))

  stored-none : (n : ℕ) → position n (take s.len v) ≡ None → route_of n (editions_of s) ≡ maybe.none
  stored-none n e = route-none n (editions_of s) (stored n None e)

  -- the job, by whether the target is later
  abbrev job : Bool → List ℕ → maybe.Option Job
  job later done =
      cond later (job_of_routes (route_of edition (editions_of s)) (route_of target (editions_of s)) done) maybe.none

  -- a job of the routes that stand so, or none
  abbrev pub JobAt : (List ℕ → maybe.Option Job) → Option (ℕ × ℕ) → Type 0
  JobAt job None = (done : List ℕ) → job done ≡ maybe.none
  JobAt job (Some (i, j)) = (i < 8) × (j < 8) × ((done : List ℕ) (d : Edition)
      → job done ≡ maybe.some (job_of (get_or s.editions i d).route (get_or s.editions j d).route done))

  job-stands : JobAt (job_between s edition target) (entries_in edition target (take s.len v))
  unfolding entries_in job_between job_of_routes
  job-stands = go (ltb edition target) (position edition (take s.len v)) refl (position target (take s.len v)) refl
    where
      go : (later : Bool) (f : Option ℕ) → position edition (take s.len v) ≡ f → (g : Option ℕ)
          → position target (take s.len v) ≡ g → JobAt (job later) (if later then option_zip f g else None)
      go false f p g q = λ done. refl
      go true None p g q = λ done.
          ap (λ (x : maybe.Option Route). job_of_routes x (route_of target (editions_of s)) done) (stored-none edition p)
      go true (Some i) p None q = λ done.
          ap₂ (λ (x y : maybe.Option Route). job_of_routes x y done) (stored-at edition i no_edition p)
          (stored-none target q)
      go true (Some i) p (Some j) q = (
        inside edition i p,
        inside target j q,
        λ done d.
            ap₂ (λ (x y : maybe.Option Route). job_of_routes x y done) (stored-at edition i d p) (stored-at target j d q),
      )

  -- by what was found
  module _ (e : Option (ℕ × ℕ)) (found : e ≡ entries_in edition target (take s.len v)) where
    stands : (f : Option (ℕ × ℕ)) → e ≡ f → JobAt (job_between s edition target) f
    stands f is = subst (JobAt (job_between s edition target)) (sym found ∙ is) job-stands

    pub no-job : e ≡ None → (done : List ℕ) → job_between s edition target done ≡ maybe.none
    no-job is = stands None is

    module _ (i j : ℕ) (is : e ≡ Some (i, j)) where
      pub edition-inside : i < 8
      edition-inside = (stands (Some (i, j)) is).0

      pub target-inside : j < 8
      target-inside = (stands (Some (i, j)) is).1

      pub the_job : (done : List ℕ) (d : Edition) → job_between s edition target done
          ≡ maybe.some (job_of (get_or s.editions i d).route (get_or s.editions j d).route done)
      the_job = (stands (Some (i, j)) is).2

-- ---- the look-ups in turn, and where both numbers stand

module _ (edition target : ℕ) (l : List ℕ) where
  pub not-later : target ≤ edition → None ≡ entries_in edition target l
  unfolding entries_in
  not-later h = cond_no _ _ refl (le-ltb edition target h)

  module _ (later : edition < target) where
    both : option_zip (position edition l) (position target l) ≡ entries_in edition target l
    unfolding entries_in
    both = cond_yes _ _ refl (lt-ltb edition target later)

    module _ (f : Option ℕ) (found : f ≡ position edition l) where
      pub no-edition : f ≡ None → None ≡ entries_in edition target l
      no-edition is = ap (λ (x : Option ℕ). option_zip x (position target l)) (sym is ∙ found) ∙ both

      module _ (i : ℕ) (at : f ≡ Some i) (g : Option ℕ) (seen : g ≡ position target l) where
        pub no_target : g ≡ None → None ≡ entries_in edition target l
        no_target is = ap₂ (λ (x y : Option ℕ). option_zip x y) (sym at ∙ found) (sym is ∙ seen) ∙ both

        pub both-found : (j : ℕ) → g ≡ Some j → Some (i, j) ≡ entries_in edition target l
        both-found j is = ap₂ (λ (x y : Option ℕ). option_zip x y) (sym at ∙ found) (sym is ∙ seen) ∙ both
