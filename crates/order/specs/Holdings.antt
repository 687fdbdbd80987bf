-- What a task's runs hold of each cell.
use Rattle.std.specs.Prelude.{◌≡◌, ℕ, Bool, true, false, not, List, Some, None, Option}
use Rattle.kinds.specs.declared.holding.Holding.{Holding}
use Rattle.order.specs.declared.run.Run.{Run}
use Rattle.order.specs.declared.runs.Runs.{Runs}
use Rattle.order.specs.Stretches.{held_at, end_by}
use Rattle.order.specs.Tasks.{every}

-- the runs in use
abbrev pub in_use : Runs → List Run
in_use h = h.list.items

-- what they hold of the cell c
abbrev pub held : Runs → ℕ → Option Holding
held h c = held_at (in_use h) c

-- they hold no cell from n on
abbrev pub Reach : Runs → ℕ → Type 0
Reach h n = end_by n (in_use h) ≡ true

-- the answer is whether some cell passes the test, of any number of cells that the runs reach
abbrev pub SomeCell : Runs → (ℕ → Bool) → Bool → Type 0
SomeCell h test r = (n : ℕ) → Reach h n → r ≡ not (every n (λ c. not (test c)))

-- a closure answers at holdings as q does at cells that are held, and q is no where the cell is not held
pub record Tests (answers : Holding → Bool → Type 0) (q : Option Holding → Bool) : Type 0 where
  pub free : q None ≡ false
  pub held : (a : Holding) (r : Bool) → answers a r → r ≡ q (Some a)

-- the same of a closure that compares what two tasks hold of one cell
pub record Compares (answers : Holding → Holding → Bool → Type 0) (q : Option Holding → Option Holding → Bool) : Type 0 where
  pub free : (b : Option Holding) → q None b ≡ false
  pub other_free : (a : Option Holding) → q a None ≡ false
  pub held : (a b : Holding) (r : Bool) → answers a b r → r ≡ q (Some a) (Some b)
