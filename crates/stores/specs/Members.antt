-- A write and an update of a cell, on a store that is known by its trait alone.
use Rattle.std.specs.Prelude.{ℕ, Result, slice_index_or}
use Rattle.elements.specs.declared.element.Element as element
use Rattle.stores.specs.declared.fault.Fault.{Fault}
use Rattle.stores.specs.declared.store.Store as store
use Rattle.stores.specs.Store.{Wrote}

-- a write of v to the cell i leads from the store s to the store t, with the answer r
abbrev pub WroteOn : {S V U : Type 0} → store.Ghosts S V → S → ℕ → V → Result U Fault → S → Type 0
WroteOn on s i v r t = Wrote on.cells on.verdict on.took s i v r t

-- what the store holds at the cell i, updated by the amount a
abbrev pub updated_at : {S V : Type 0} → store.Ghosts S V → element.Ghosts V → S → ℕ → V → V
updated_at on of s i a = of.updated (slice_index_or (on.cells s) i of.rest) a
