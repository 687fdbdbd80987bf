-- The memory that a caller lends to a store: its verdicts, and what an accepted write leaves there.
use Rattle.std.specs.Prelude.{ℕ, ◌+◌, List, None, slice_index, slice_set}
use Rattle.stores.specs.declared.record.Record.{Record}
use Rattle.stores.specs.Fault.{Verdict, existing}
use Rattle.stores.specs.Store.{extent}
use Rattle.stores.specs.Chain.{cleared, chain_verdict}

-- every cell of a flat store is open
abbrev pub flat_verdict : {V : Type 0} → List V → ℕ → Verdict
flat_verdict places i = existing (extent places) i None

-- the heads and the records, and how many of these are used
pub record Chains (V : Type 0) : Type 0 where
  pub heads : List ℕ
  pub records : List (Record V)
  pub used : ℕ

-- a new store's: the heads that it takes are zero, and no record is used
abbrev pub unused : {V : Type 0} → List ℕ → List (Record V) → Chains V
unused heads records = record { heads = cleared heads; records = records; used = 0 }

-- the next record takes the value, is pointed at the old head and becomes the head
abbrev pub chained : {V : Type 0} → Chains V → ℕ → V → Chains V
chained c i v =
    record {
      heads = slice_set c.heads i (c.used + 1);
      records = slice_set c.records c.used (record { value = v; next = slice_index c.heads i });
      used = c.used + 1;
    }

-- open while a record is left
abbrev pub chains_verdict : {V : Type 0} → Chains V → ℕ → Verdict
chains_verdict c i = chain_verdict (extent c.heads) c.used (extent c.records) i
