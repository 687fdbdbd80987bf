use Rattle.std.proofs.Common.{◌≡◌, ◌+◌, ◌<◌, ◌≤◌, length, vec_items}
use Rattle.order.specs.Tasks.{earlier}
use Rattle.order.specs.View.{view}
use Rattle.order.proofs.Climbing.{found}
use Rattle.order.proofs.table.Table.is_earlier.Given as goal

abbrev pub invariant-loop-a : goal.invariant-loop-a
invariant-loop-a l =
    (l.a < length (vec_items l.self.tasks))
    × (l.b ≤ l.t)
    × (earlier (view l.self) l.u l.t ≡ found l.self.cells (vec_items l.self.tasks) l.t l.a l.b l.lower)

abbrev pub decreases-loop-a : goal.decreases-loop-a
decreases-loop-a l = l.a + l.b
