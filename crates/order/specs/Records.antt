-- The records of all tasks, in the order of their numbers: what always holds of them.
use Rattle.std.specs.Prelude.{◌≡◌, ℕ, zero, suc, ◌<◌, ◌≤◌, Bool, true, false, cond, not, ◌&&◌, ◌||◌, List, map, length, None, Option, ◌==◌, nat_lt, slice_index, slice_index_or}
use Rattle.kinds.specs.declared.holding.Holding.{Holding}
use Rattle.order.specs.declared.task.Task.{Task}
use Rattle.order.specs.Tasks.{is_finished}
use Rattle.order.specs.Stretches.{end_by}
use Rattle.order.specs.Holdings.{in_use, held}

-- at how many of the numbers below n the test holds
abbrev pub tally : ℕ → (ℕ → Bool) → ℕ
tally zero f = 0
tally (suc n) f = cond (f n) (suc (tally n f)) (tally n f)

abbrev pub parent_at : List Task → ℕ → ℕ
parent_at tasks t = slice_index (map (λ k. k.parent) tasks) t

abbrev pub open_at : List Task → ℕ → ℕ
open_at tasks t = slice_index (map (λ k. k.open) tasks) t

-- finished, with no child left that is not deeply complete
abbrev pub complete : Task → Bool
complete k = is_finished k.state && k.open == 0

abbrev pub complete_at : List Task → ℕ → Bool
complete_at tasks t = slice_index_or (map complete tasks) t false

-- its holdings have ended: finished, and without the wait flag or with no open child
abbrev pub ended : Task → Bool
ended k = is_finished k.state && (not k.waits || k.open == 0)

-- what it holds of the cell c now
abbrev pub holding_now : Task → ℕ → Option Holding
holding_now k c = cond (ended k) None (held k.runs c)

abbrev pub ended_at : List Task → ℕ → Bool
ended_at tasks t = slice_index_or (map ended tasks) t false

-- u is a child of p that is not complete
abbrev pub open_child : List Task → ℕ → ℕ → Bool
open_child tasks p u = nat_lt 0 u && (parent_at tasks u == p && not (complete_at tasks u))

-- the runs of t lie within the cells
abbrev pub reach_at : ℕ → List Task → ℕ → Bool
reach_at cells tasks t = slice_index_or (map (λ k. end_by cells (in_use k.runs)) tasks) t true

-- there is a task and at most 64; a parent has a lower number; each counter is right; nothing is held beyond the cells
abbrev pub Sound : ℕ → List Task → Type 0
Sound cells tasks =
    (1 ≤ length tasks)
    × (length tasks ≤ 64)
    × ((t : ℕ) → 0 < t → t < length tasks → parent_at tasks t < t)
    × ((t : ℕ) → t < length tasks → open_at tasks t ≡ tally (length tasks) (open_child tasks t))
    × ((t : ℕ) → reach_at cells tasks t ≡ true)
