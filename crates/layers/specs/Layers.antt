-- The two layers: an allowance of writes, and a write that is held back.
use Rattle.std.specs.Prelude.{◌≡◌, ℕ, ◌≤◌, cond, List, length, Some, None, Option, ◌==◌, ◌≢◌, slice_set, refl}
use Rattle.std.proofs.Common.{length-set}
use Rattle.stores.specs.declared.fault.Cause.TheVariants.{AllowanceSpent}
use Rattle.layers.specs.declared.held.Held.{Held}
use Rattle.stores.specs.Fault.{Verdict, own_fault, raised_verdict, existing}
use Rattle.stores.specs.Store.{most}

-- with so many writes left, and the verdict of the store below
abbrev pub allowance_verdict : ℕ → ℕ → ℕ → Verdict → Verdict
allowance_verdict cells left i below = existing cells i (cond (left == 0) (Some (own_fault AllowanceSpent i)) (raised_verdict below))

-- the held value stands over the cell below
abbrev pub covered : {V : Type 0} → Option (Held V) → List V → List V
covered None cells = cells
covered (Some h) cells = slice_set cells h.cell h.value

pub covered_length : {V : Type 0} (h : Option (Held V)) (cells : List V) → length (covered h cells) ≡ length cells
covered_length None cells = refl
covered_length (Some h) cells = length-set _ _ _

pub covered_few : {V : Type 0} (h : Option (Held V)) (cells : List V) → length cells ≤ most → length (covered h cells) ≤ most
covered_few h cells few = rw covered_length few

-- open for the held cell and while nothing is held; else the held value must go down first
abbrev pub held_verdict : {V : Type 0} → Option (Held V) → (ℕ → Verdict) → ℕ → Verdict
held_verdict None below i = None
held_verdict (Some h) below i = cond (i == h.cell) None (raised_verdict (below h.cell))

-- what becomes of the store below when a write to the cell i is held: nothing, or the held value is written there
abbrev pub Sank : {S V : Type 0} → (S → ℕ → V → S → Type 0) → Option (Held V) → S → ℕ → S → Type 0
Sank took None s i t = t ≡ s
Sank took (Some h) s i t = (h.cell ≡ i → t ≡ s) × ((h.cell ≢ i) → took s h.cell h.value t)
