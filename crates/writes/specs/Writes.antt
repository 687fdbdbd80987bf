-- A list of writes, with their answers, on any store.
use Rattle.std.specs.Prelude.{◌≡◌, ℕ, List, [], ◌∷◌, map, Ok, Err, Result}
use Rattle.std.specs.Result.{result_err}
use Rattle.stores.specs.declared.fault.Fault.{Fault}
use Rattle.stores.specs.Fault.{Verdict}
use Rattle.stores.specs.declared.store.Store as store
use Rattle.stores.specs.Store.{Wrote}
use Rattle.writes.specs.declared.turn.Turn.{Turn}

-- what a turn asks for
abbrev pub asked : {V : Type 0} → Turn V → ℕ × V
asked e = (e.cell, e.value)

-- what all turns ask for
abbrev pub all_asked : {V : Type 0} → List (Turn V) → List (ℕ × V)
all_asked turns = map asked turns

-- accepted writes change something step by step, and refused ones leave it
abbrev pub changed : {M V U : Type 0} → (M → ℕ → V → M) → M → ℕ → V → Result U Fault → M
changed step m i v (Ok u) = step m i v
changed step m i v (Err f) = m

abbrev pub all_changed : {M V : Type 0} → (M → ℕ → V → M) → M → List (Turn V) → M
all_changed step m [] = m
all_changed step m (e ∷ es) = all_changed step (changed step m e.cell e.value e.answer) es

-- where what is so changed decides the verdicts: each answer is the verdict that the cell had when it was asked for
abbrev pub Answered : {M V : Type 0} → (M → ℕ → Verdict) → (M → ℕ → V → M) → M → List (Turn V) → Type 0
Answered verdict step m [] = Unit {0}
Answered verdict step m (e ∷ es) = (result_err e.answer ≡ verdict m e.cell) × Answered verdict step (changed step m e.cell e.value e.answer) es

module _ {S V : Type 0} (cells : S → List V) (verdict : S → ℕ → Verdict) (took : S → ℕ → V → S → Type 0) where
  -- the writes lead from the store s to the store t, each from the store that the one before it left
  abbrev pub Went : S → List (Turn V) → S → Type 0
  Went s [] t = t ≡ s
  Went s (e ∷ es) t = (m : S) × Wrote cells verdict took s e.cell e.value e.answer m × Went m es t

-- the same on a store by its trait
abbrev pub WentOn : {S V : Type 0} → store.Ghosts S V → S → List (Turn V) → S → Type 0
WentOn on s turns t = Went on.cells on.verdict on.took s turns t
