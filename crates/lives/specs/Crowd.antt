-- An engine on which a task can live on one cell beside others that keep away from it.
-- Assumes nothing.
use Rattle.std.specs.Prelude.{◌≡◌, ℕ, ◌+◌, ◌<◌, Bool, true, false, ◌&&◌, ◌⊎◌, [], ◌∷◌, None, ◌≢◌, nat_le}
use Rattle.kinds.specs.declared.access.Access.{Access}
use Rattle.order.specs.Questions.{create, after, most_tasks}
use Rattle.order.specs.Tasks.{Task, World, is_finished, count}
use Rattle.order.specs.View.{root}

-- the access of the cell c as inout
abbrev pub one_cell : ℕ → Access
one_cell c = record { lo = c; hi = c + 1; code = 3 }

-- the tasks when task 0 has created one more, with the cell c
abbrev pub born : ℕ → World → World
born c w = after w (create 0 false (one_cell c ∷ []))

-- the task holds nothing of the cell c now
abbrev pub Apart : ℕ → Task → Type 0
Apart c k = (k.hold c ≡ None) ⊎ ((is_finished k.state ≡ true) × (k.waits ≡ false))

-- task 0 is as it began, the cell c exists, and no task but task 0 and t holds it
pub record Calm (c t : ℕ) (w : World) : Type 0 where
  pub rooted : w.task 0 ≡ root w.cells
  pub exists : c < w.cells
  pub apart : (u : ℕ) → 0 < u → u < count w → (u ≢ t) → Apart c (w.task u)

-- so many lives fit on an engine beside so many tasks, which have a cell of their own
abbrev pub fits : ℕ → ℕ → ℕ → Bool
fits cells alive lives = nat_le 2 cells && (nat_le 1 alive && nat_le (alive + lives) most_tasks)
