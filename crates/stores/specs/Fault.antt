-- Faults and verdicts.
use Rattle.std.specs.Prelude.{◌≡◌, ℕ, ◌+◌, ◌<◌, ◌≤◌, min, cond, Some, None, Ok, Err, Option, Result, nat_lt, refl}
use Rattle.std.proofs.Common.{le-ltb, lt-ltb}
use Rattle.stores.specs.declared.fault.Cause.{Cause}
use Rattle.stores.specs.declared.fault.Cause.TheVariants.{RecordsUsedUp, AllowanceSpent, NoSuchCell}
use Rattle.stores.specs.declared.fault.Fault.{Fault}

-- the number of each cause
abbrev pub cause_number : Cause → ℕ
cause_number RecordsUsedUp = 1
cause_number AllowanceSpent = 2
cause_number NoSuchCell = 3

-- a fault of the store itself, at the cell i
abbrev pub own_fault : Cause → ℕ → Fault
own_fault cause i = record { cause = cause; depth = 0; cell = i }

-- a verdict on a cell: None is open
abbrev pub Verdict : Type 0
Verdict = Option Fault

-- one layer up the depth is one more, and stays at 255
abbrev pub deeper : Fault → Fault
deeper f = record { cause = f.cause; depth = min (f.depth + 1) 255; cell = f.cell }

abbrev pub raised_verdict : Verdict → Verdict
raised_verdict None = None
raised_verdict (Some f) = Some (deeper f)

abbrev pub raised_result : {U : Type 0} → Result U Fault → Result U Fault
raised_result (Ok u) = Ok u
raised_result (Err f) = Err (deeper f)

-- of n cells: the verdict v for a cell that exists, and no such cell from n on
abbrev pub existing : ℕ → ℕ → Verdict → Verdict
existing n i v = cond (nat_lt i n) v (Some (own_fault NoSuchCell i))

pub existing_past : (n i : ℕ) (v : Verdict) → n ≤ i → existing n i v ≡ Some (own_fault NoSuchCell i)
existing_past n i v h = rw le-ltb refl

pub existing_below : (n i : ℕ) (v : Verdict) → i < n → existing n i v ≡ v
existing_below n i v h = rw lt-ltb refl
