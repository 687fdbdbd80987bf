-- The chain store: each cell is the chain of its records, the newest first.
use Rattle.std.specs.Prelude.{◌≡◌, ℕ, zero, suc, ◌+◌, ◌≤◌, cond, List, ◌++◌, map, length, drop, replicate, Some, None, nat_lt, slice_index, slice_index_or, slice_set}
use Rattle.std.proofs.lemmas.List.{length-map}
use Rattle.stores.specs.declared.fault.Cause.TheVariants.{RecordsUsedUp, NoSuchCell}
use Rattle.stores.specs.declared.record.Record.{Record}
use Rattle.stores.specs.Fault.{Verdict, own_fault, existing, existing_past}
use Rattle.stores.specs.Store.{most, reached, extent, reached_length, reached_few}

-- at most as many records are used as there are, and no head names a record that is not used
abbrev pub Sound : List ℕ → ℕ → ℕ → Type 0
Sound heads used records = (used ≤ records) × ((k : ℕ) → slice_index heads k ≤ used)

-- the value of the record with a number counted from 1, and the rest value for 0
abbrev pub record_value : {V : Type 0} → V → List (Record V) → ℕ → V
record_value rest records zero = rest
record_value rest records (suc k) = slice_index_or (map (λ r. r.value) records) k rest

-- what each cell holds: the value of its head record
unfoldable pub head_values : {V : Type 0} → V → List (Record V) → List ℕ → List V
head_values rest records heads = map (record_value rest records) heads

pub head_values_length : {V : Type 0} (rest : V) (records : List (Record V)) (heads : List ℕ) → length (head_values rest records heads) ≡ length heads
unfolding head_values
head_values_length rest records heads = length-map _ _

-- of some cells, with so many of some records used
abbrev pub chain_verdict : ℕ → ℕ → ℕ → ℕ → Verdict
chain_verdict cells used records i = existing cells i (cond (nat_lt used records) None (Some (own_fault RecordsUsedUp i)))

pub head_values_few : {V : Type 0} (rest : V) (records : List (Record V)) (heads : List ℕ) → length (head_values rest records (reached heads)) ≤ most
head_values_few rest records heads = rw head_values_length (reached_few heads)

pub chain_beyond : {V : Type 0} (rest : V) (records : List (Record V)) (heads : List ℕ) (used room i : ℕ) → length (head_values rest records (reached heads)) ≤ i → chain_verdict (extent heads) used room i ≡ Some (own_fault NoSuchCell i)
chain_beyond rest records heads used room i h = existing_past _ i _ (rw (head_values_length, reached_length) at h)

-- the places that the store takes are zero, and the others as they were
abbrev pub cleared : List ℕ → List ℕ
cleared heads = replicate (extent heads) 0 ++ drop (extent heads) heads

-- a write takes the lowest record not yet used, points it at the cell's old head and makes it the head
abbrev pub Linked : {V : Type 0} → List ℕ → List (Record V) → ℕ → ℕ → V → List ℕ → List (Record V) → ℕ → Type 0
Linked heads records used i v heads' records' used' =
    (heads' ≡ slice_set heads i (used + 1)) × (records' ≡ slice_set records used (record { value = v; next = slice_index heads i })) × (used' ≡ used + 1)
