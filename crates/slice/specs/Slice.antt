-- The slice: the occurrences that matter to the new route. By 000, section 4.3, with its data dependence only, and 02's
-- tokens of shared places: occurrences are told apart, never steps. `l` is the list of the occurrences: the ins of each
-- are the shared places that it took from, its outs those that it put a token on. Occurrence i + 1 of 01 stands at
-- position i.
use Rattle.std.specs.Prelude.{◌≡◌, Bool, true, false, cond, ◌||◌, List, [], ◌∷◌, ℕ, suc, ◌<◌, length, get_or}
use Rattle.std.specs.Int.Bits.{bit_or}
use Rattle.mask.specs.Mask.{has, bit, without, meets}
use Rattle.route.specs.Steps.{blank, union}
use Rattle.route.specs.declared.Step.{Step}

-- what an occurrence may want of an earlier one and make for a later one
pub data Item : Type 0 where
  variable : ℕ → Item
  -- the token on a shared place
  token : ℕ → Item

-- an occurrence wants what it reads and takes, and makes what it writes and puts
unfoldable pub wants : Step → Item → Bool
wants s (variable v) = has s.reads v
wants s (token p) = has s.ins p

unfoldable pub makes : Step → Item → Bool
makes s (variable v) = has s.writes v
makes s (token p) = has s.outs p

-- the occurrence at i reads or takes x; it writes or puts x. It reads before it writes, so what it writes itself it
-- never needs
unfoldable pub reads_at : List Step → ℕ → Item → Bool
reads_at l i x = wants (get_or l i blank) x

unfoldable pub writes_at : List Step → ℕ → Item → Bool
writes_at l i x = makes (get_or l i blank) x

-- it cuts cloth
unfoldable pub cuts_at : List Step → ℕ → Bool
cuts_at l i = (get_or l i blank).cloth

-- j is the last writer, or putter, of x before position n
pub record LastWriter (l : List Step) (n : ℕ) (x : Item) (j : ℕ) : Type 0 where
  pub earlier : j < n
  pub writer : writes_at l j x ≡ true
  pub last : (k : ℕ) → j < k → k < n → writes_at l k x ≡ false

-- "It needs the last earlier writer of each variable it reads". 02: where it took a token from a shared place, "it
-- needs the occurrence that put the token there"
pub record Needs (l : List Step) (i j : ℕ) : Type 0 where
  pub item : Item
  pub reader : reads_at l i item ≡ true
  pub source : LastWriter l i item j

-- "The new route's variables are all that its steps read or write."
unfoldable pub variables : List Step → ℕ
variables steps = union (λ (s : Step). bit_or s.reads s.writes) steps

-- "Kept: the last writer in the done list of each new-route variable, and all that these need, over and over." 02:
-- "Every cloth occurrence of the old route is kept, with all it needs", and "an occurrence that a kept one needs so is
-- kept even if it writes nothing". `vars` is the mask of the new route's variables
pub data Kept (l : List Step) (vars : ℕ) : ℕ → Type 0 where
  final : {i : ℕ} (v : ℕ) → has vars v ≡ true → LastWriter l (length l) (variable v) i → Kept l vars i
  cut : {i : ℕ} → cuts_at l i ≡ true → Kept l vars i
  needed : {i j : ℕ} → Kept l vars i → Needs l i j → Kept l vars j

-- The kept occurrences as a mask, by one sweep from the last to the first: an occurrence is kept when it cuts cloth,
-- writes a variable that is live, that is, whose value something kept later, or the new route at the end, still wants,
-- or puts a token that something kept later took. `Kept` above is what it means.
pub record Sweep : Type 0 where
  pub live : ℕ
  pub tokens : ℕ
  pub kept : ℕ

unfoldable pub keeps : Step → Sweep → Bool
keeps s w = s.cloth || (meets s.writes w.live || meets s.outs w.tokens)

unfoldable pub sweep_step : ℕ → Step → Sweep → Sweep
sweep_step i s w =
    cond (keeps s w)
    (record {
      live = bit_or (without w.live s.writes) s.reads;
      tokens = bit_or (without w.tokens s.outs) s.ins;
      kept = bit_or w.kept (bit i);
    })
    w

-- the sweep over the occurrences from position i on
unfoldable pub sweep : ℕ → ℕ → List Step → Sweep
sweep vars i [] = record { live = vars; tokens = 0; kept = 0 }
sweep vars i (s ∷ l) = sweep_step i s (sweep vars (suc i) l)

unfoldable pub kept_mask : List Step → ℕ → ℕ
kept_mask l vars = (sweep vars 0 l).kept
