-- The counters of open children while one change is being told to the ancestors.
use Rattle.std.specs.Prelude.{◌≡◌, ℕ, ◌+◌, ◌<◌, cond, ◌&&◌, List, length, ◌==◌, nat_lt}
use Rattle.order.specs.declared.task.Task.{Task}
use Rattle.order.specs.Records.{tally, parent_at, open_at, complete_at, open_child}

-- the record with another counter
abbrev pub with_open : Task → ℕ → Task
with_open k n = record { parent = k.parent; waits = k.waits; state = k.state; «open» = n; runs = k.runs }

-- the record without its counter
abbrev pub uncounted : Task → Task
uncounted k = with_open k 0

-- each task but task 0 has a parent with a lower number
abbrev pub Older : List Task → Type 0
Older tasks = (t : ℕ) → 0 < t → t < length tasks → parent_at tasks t < t

-- each counter is right
abbrev pub Counted : List Task → Type 0
Counted tasks = (t : ℕ) → t < length tasks → open_at tasks t ≡ tally (length tasks) (open_child tasks t)

-- so is each counter but that of x's parent, which still counts x where x has become complete
abbrev pub Untold : List Task → ℕ → Type 0
Untold tasks x =
    (t : ℕ) →
    t < length tasks →
    open_at tasks t ≡ tally (length tasks) (open_child tasks t) + cond (complete_at tasks x && (nat_lt 0 x && parent_at tasks x == t)) 1 0
