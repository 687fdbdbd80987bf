use Rattle.std.proofs.Common.{◌≡◌, ℕ, ◌+◌, ◌≤◌, true, length}
use Rattle.order.specs.Holdings.{held, in_use}
use Rattle.order.specs.Stretches.{end_by}
use Rattle.order.proofs.Sweeping.{above, swept}
use Rattle.order.proofs.runs.Runs.of_accesses.Given as goal

-- each run so far has passed a bound, the runs end by pos, and they hold what is asked of the cells before it
abbrev pub invariant-loop-next : goal.invariant-loop-next
invariant-loop-next l =
    (length (in_use l.out) + above l.pos l.accesses ≤ 16)
    × (end_by l.pos (in_use l.out) ≡ true)
    × ((c : ℕ) → held l.out c ≡ swept l.accesses l.pos c)

abbrev pub decreases-loop-next : goal.decreases-loop-next
decreases-loop-next l = above l.pos l.accesses
