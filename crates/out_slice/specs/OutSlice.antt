-- A whole text in the out slice: what is answered, and what the slice holds then.
use Rattle.std.specs.Prelude.{cond, List, ◌++◌, ℕ, eqb, leb, length, drop, Result, Ok, Err}
use Rattle.refusal.specs.Refusal.{number_of}
use Rattle.refusal.specs.declared.Outcome.{Outcome}
use Rattle.refusal.specs.declared.Refusal.{Refusal}
use Rattle.out_slice.specs.declared.Wrote.{Wrote}

-- "A refusal gives its number and a second number, all else 0"
abbrev pub unwritten : ℕ → ℕ → Wrote
unwritten n k = record { number = n; second = k; written = 0 }

-- "success returns the bytes written"
abbrev pub whole : ℕ → Wrote
whole n = record { number = 0; second = 0; written = n }

-- the answer in numbers
abbrev pub wrote_of : Result ℕ Refusal → Wrote
wrote_of (Ok n) = whole n
wrote_of (Err e) = unwritten (number_of e.row) e.second

-- "15: out too short", and "bytes needed"; `room` is the slice's length
unfoldable pub wrote_text : List ℕ → ℕ → Wrote
wrote_text t room = cond (leb (length t) room) (whole (length t)) (unwritten 15 (length t))

-- "Entries of a lent slice past those filled keep their contents"; a refusal "leaves every lent slice unchanged"
unfoldable pub out_with : List ℕ → List ℕ → List ℕ
out_with t out = cond (leb (length t) (length out)) (t ++ drop (length t) out) out

-- where rows go before 15: what they refuse by is answered, and all bytes stay; else the text is written
unfoldable pub wrote_past : Outcome → List ℕ → ℕ → Wrote
wrote_past o t room = cond (eqb o.number 0) (wrote_text t room) (unwritten o.number o.second)

unfoldable pub out_past : Outcome → List ℕ → List ℕ → List ℕ
out_past o t out = cond (eqb o.number 0) (out_with t out) out
