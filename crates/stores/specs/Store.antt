-- What a write makes of a store.
use Rattle.std.specs.Prelude.{◌≡◌, ℕ, ◌≤◌, min, List, length, take, Some, None, Ok, Err, Result, slice_set}
use Rattle.std.proofs.Common.{length-take, arith}
use Rattle.stores.specs.declared.fault.Fault.{Fault}
use Rattle.stores.specs.declared.fault.Cause.TheVariants.{NoSuchCell}
use Rattle.stores.specs.Fault.{Verdict, own_fault, existing, existing_past}

-- as many cells as a store can have
abbrev pub most : ℕ
most = 65535

-- the places that a store takes of those it is lent
abbrev pub reached : {A : Type 0} → List A → List A
reached places = take most places

-- how many they are
abbrev pub extent : {A : Type 0} → List A → ℕ
extent places = min most (length places)

pub reached_length : {A : Type 0} (places : List A) → length (reached places) ≡ extent places
reached_length places = length-take most places

pub reached_few : {A : Type 0} (places : List A) → length (reached places) ≤ most
reached_few places = rw reached_length (omega arith)

-- A write of v to the cell i leads from the store s to the store t, with the answer r.
-- Accepted: the cell was open, it alone is changed, and t is what the store's own relation `took` makes of s.
-- Refused: the fault is the verdict that the cell had, and the store is as it was.
abbrev pub Wrote : {S V U : Type 0} → (S → List V) → (S → ℕ → Verdict) → (S → ℕ → V → S → Type 0) → S → ℕ → V → Result U Fault → S → Type 0
Wrote cells verdict took s i v (Ok u) t = (verdict s i ≡ None) × (cells t ≡ slice_set (cells s) i v) × took s i v t
Wrote cells verdict took s i v (Err f) t = (verdict s i ≡ Some f) × (t ≡ s)

-- every cell of a flat store is open
pub flat_beyond : {A : Type 0} (places : List A) (i : ℕ) → length (reached places) ≤ i → existing (extent places) i None ≡ Some (own_fault NoSuchCell i)
flat_beyond places i h = existing_past (extent places) i None (rw reached_length at h)
